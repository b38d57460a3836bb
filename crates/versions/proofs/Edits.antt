-- The four ways in which a session's write changes the versions of a key: a new version, another row in its own version,
-- its own version taken out, and its mark as the end of a version that it sees.
use Rattle.std.proofs.Common.{◌≡◌, ℕ, ◌≤◌, Bool, true, false, cond, ◌&&◌, ◌||◌, List, [], ◌∷◌, ◌++◌, is_some, Some, None, Option, sym, refl, ap, ◌∙◌, append-nil, arith}
use Rattle.std.proofs.lemmas.Option.{none-some}
use Rattle.std.proofs.lemmas.Bool.{eqb-true, eq-eqb, ne_eqb}
use Rattle.std.proofs.lemmas.Bool.Decides.{nat_tests}
use Rattle.rules.specs.declared.times.Moment.{Moment}
use Rattle.rules.specs.declared.times.Moment.TheVariants as moment
use Rattle.rules.specs.Times.{sees, begun, begin_marked, foreign_begin, foreign_end}
use Rattle.slots.specs.Lists.{any, one, each, one_if, list_of}
use Rattle.slots.proofs.Folds.{any_append, all_join}
use Rattle.versions.specs.History.{Commit, Turn, shown}
use Rattle.versions.proofs.Versions.{Version, Shaped, v_plain, v_sees, v_begun, v_ended, v_above}
use Rattle.versions.proofs.Versions.{VShaped, rows, put_of, read_of, writes_of, had_at, Rel}
use Rattle.versions.proofs.Rows.{rows_append}
use Rattle.versions.proofs.Marks.{NoMark, no_mark}
use Rattle.versions.proofs.Seeing.{CalmFor, sees_plain, plain_reader, sees_later}
use Rattle.versions.proofs.OneVersion.{any_at, all_at, rows_some, rows_without, rows_without_one, any_without}
use Rattle.versions.proofs.OneVersion.{all_without, rows_with, rows_with_one, any_with, all_with}
use Rattle.versions.proofs.Writing.{Ready, Wrote, still, rel_wrote}

or_false : (x : Bool) → (x || false) ≡ x
or_false x = grind arith

and_false : (x : Bool) → (x && false) ≡ false
and_false x = grind arith

or_between : (x y : Bool) → (x || (true || y)) ≡ true
or_between x y = grind arith

-- what a drop of an own version leaves as the session's write: a drop if the key was there, else nothing
module _ (R : Type 0) where
  abbrev pub dropping : Bool → Option (Option R)
  dropping had = cond had (Some None) None

  dropping_had : (had : Bool) → had ≡ (is_some (dropping had) && had)
  dropping_had true = refl
  dropping_had false = refl

  dropping_is : (had : Bool) (x : Option R) → dropping had ≡ Some x → x ≡ None
  dropping_is true x p = cc
  dropping_is false x p = absurd (none-some _ p)

  dropping_puts_none : (had : Bool) → list_of (put_of (dropping had)) ≡ []
  dropping_puts_none true = refl
  dropping_puts_none false = refl

-- a version that s sees, with nothing foreign and not begun by s, is stamped and open
seen_is : (s t : ℕ) (x : Moment) (y : Option Moment) → (foreign_begin x s t || foreign_end y s t) ≡ false → begin_marked x s ≡ false
    → sees x y s t ≡ true → (n : ℕ) × (x ≡ moment.Stamp n) × (y ≡ None)
seen_is s t (moment.Stamp n) None calm other seen = (n, refl, refl)
seen_is s t (moment.Stamp n) (Some (moment.Stamp m)) calm other seen = absurd (grind (arith, nat_tests))
seen_is s t (moment.Stamp n) (Some (moment.Mark m)) calm other seen = absurd (grind (arith, nat_tests))
seen_is s t (moment.Mark n) y calm other seen = absurd (grind (arith, nat_tests))

-- a version that s began has its mark and is open
own_is : (s : ℕ) (x : Moment) (y : Option Moment) → Shaped x y → begin_marked x s ≡ true → (x ≡ moment.Mark s) × (y ≡ None)
own_is s (moment.Stamp n) y shaped own = absurd cc
own_is s (moment.Mark n) None shaped own = (ap moment.Mark (eqb-true n s own), refl)
own_is s (moment.Mark n) (Some x) shaped own = elim shaped [ ]

-- a key of which the session sees nothing
module _ {R : Type 0} {h c : ℕ} {cs : List (Commit R)} {turn : ℕ → Option (Turn R)} {k s : ℕ} {V : List (Version R)}
    (ready : Ready h c cs turn k s V) (unseen : rows (v_sees s (read_of turn s)) V ≡ []) where
  -- a reader without marks that sees nothing is shown nothing
  unshown : (o : Option R) → shown cs (read_of turn s) k ≡ o → rows (v_plain (read_of turn s)) V ≡ [] → is_some o ≡ false
  unshown None p none = refl
  unshown (Some q) p none = absurd (
      let shows = ready.rel.plain (read_of turn s) ready.from in
      cc)

  -- if it was there the session ended it
  ended_had : any (v_ended s) V ≡ had_at cs turn s k
  ended_had = go (writes_of turn s k) refl
    where
      go : (o : Option (Option R)) → writes_of turn s k ≡ o → any (v_ended s) V ≡ had_at cs turn s k
      go None none =
          let plain = plain_reader s (read_of turn s) V (no_mark ready.rel s none) in
          let was_not = unshown (shown cs (read_of turn s) k) refl (sym plain ∙ unseen) in
          ready.rel.ended s ∙ rw none (sym was_not)
      go (Some w) wrote = ready.rel.ended s ∙ rw wrote

  -- a put where nothing is seen: a version is added
  pub rel_add : {next : ℕ → Option (Turn R)} (q : R) → Wrote turn next s k (Some (Some q)) → rows (v_begun s) V ≡ []
      → Rel h cs next k (V ++ one (record { begin = moment.Mark s; end = None; row = q }))
  unfolding each any
  rel_add q wrote unbegun =
      let new : List (Version R) = one (record { begin = moment.Mark s; end = None; row = q }) in
      rel_wrote ready wrote (record {
        plain = λ t. rows_append (v_plain t) V new ∙ append-nil _;
        mine = λ x p t l.
            let its : Some q ≡ x = cc in
            rows_append (v_sees s t) V new ∙ rw (still ready t l, unseen, eq-eqb s s refl) (ap list_of its);
        begun = rows_append (v_begun s) V new ∙ rw (unbegun, eq-eqb s s refl);
        begun_else = λ m ne. rows_append (v_begun m) V new ∙ rw (ne_eqb s m (λ z. ne (sym z))) (append-nil _);
        ended = any_append (v_ended s) V new ∙ (or_false _ ∙ ended_had);
        ended_else = λ m ne. any_append (v_ended m) V new ∙ or_false _;
        stamps = λ t. any_append (v_above t) V new ∙ or_false _;
        shaped = all_join VShaped V new ready.rel.shaped (tt, tt);
      })

-- a key with the version v between a and z
module _ {R : Type 0} {h c : ℕ} {cs : List (Commit R)} {turn : ℕ → Option (Turn R)} {k s : ℕ}
    (a : List (Version R)) (v : Version R) (z : List (Version R)) (ready : Ready h c cs turn k s (a ++ (v ∷ z))) where
  -- a version that the session began, for which it put the row p
  module _ (p : R) (own : v_begun s v ≡ true) (put : writes_of turn s k ≡ Some (Some p)) where
    is_own : (v.begin ≡ moment.Mark s) × (v.end ≡ None)
    is_own = own_is s v.begin v.end (all_at a v z VShaped ready.rel.shaped) own

    sees_own : (t : ℕ) → v_sees s t v ≡ true
    sees_own t = rw (is_own.0, is_own.1, eq-eqb s s refl)

    begins_own : rows (v_begun s) (a ++ (v ∷ z)) ≡ p ∷ []
    begins_own = ready.rel.begun s ∙ ap (λ x. list_of (put_of x)) put

    -- a put changes its row
    pub rel_own_put : {next : ℕ → Option (Turn R)} (q : R) → Wrote turn next s k (Some (Some q))
        → Rel h cs next k (a ++ (record { begin = v.begin; end = v.end; row = q } ∷ z))
    rel_own_put q wrote =
        let new : Version R = record { begin = v.begin; end = v.end; row = q } in
        rel_wrote ready wrote (record {
          plain = λ t. rows_with a v new z (v_plain t) (rw is_own.0);
          mine = λ x w t l.
              let its : Some q ≡ x = cc in
              rows_with_one a v new z (v_sees s t) p (sees_own t) (ready.rel.mine s (Some p) put t l)
              ∙ rw (sees_own t) (ap list_of its);
          begun = rows_with_one a v new z (v_begun s) p own begins_own ∙ rw own;
          begun_else = λ m ne. rows_with a v new z (v_begun m) (rw (is_own.0, ne_eqb s m (λ x. ne (sym x))));
          ended = any_with a v new z (v_ended s) refl ∙ (ready.rel.ended s ∙ rw put);
          ended_else = λ m ne. any_with a v new z (v_ended m) refl;
          stamps = λ t. any_with a v new z (v_above t) refl;
          shaped = all_with a v new z VShaped ready.rel.shaped (all_at a v z VShaped ready.rel.shaped);
        })

    -- a drop takes it out
    pub rel_own_drop : {next : ℕ → Option (Turn R)} → Wrote turn next s k (dropping R (had_at cs turn s k)) → Rel h cs next k (a ++ z)
    rel_own_drop wrote = rel_wrote ready wrote (record {
      plain = λ t. rows_without a v z (v_plain t) (rw is_own.0);
      mine = λ x w t l.
          rows_without_one a v z (v_sees s t) p (sees_own t) (ready.rel.mine s (Some p) put t l)
          ∙ ap list_of (sym (dropping_is R (had_at cs turn s k) x w));
      begun = rows_without_one a v z (v_begun s) p own begins_own ∙ sym (dropping_puts_none R (had_at cs turn s k));
      begun_else = λ m ne. rows_without a v z (v_begun m) (rw is_own.0 (ne_eqb s m (λ x. ne (sym x))));
      ended = any_without a v z (v_ended s) (rw is_own.1)
          ∙ (ready.rel.ended s ∙ rw put (dropping_had R (had_at cs turn s k)));
      ended_else = λ m ne. any_without a v z (v_ended m) (rw is_own.1);
      stamps = λ t. any_without a v z (v_above t) (rw (is_own.0, is_own.1));
      shaped = all_without a v z VShaped ready.rel.shaped;
    })

  -- a version that the session sees and did not write
  module _ (seen : v_sees s (read_of turn s) v ≡ true) (none : writes_of turn s k ≡ None) where
    unmarked : NoMark s v
    unmarked = all_at a v z (NoMark s) (no_mark ready.rel s none)

    calm : CalmFor s (read_of turn s) v
    calm = all_at a v z (CalmFor s (read_of turn s)) ready.calm

    is_stamped : (n : ℕ) × (v.begin ≡ moment.Stamp n) × (v.end ≡ None)
    is_stamped = seen_is s (read_of turn s) v.begin v.end calm unmarked.0 seen

    -- the history shows a row there
    shows : (q : R) × (shown cs (read_of turn s) k ≡ Some q)
    shows =
        rows_some a v z (v_plain (read_of turn s)) _ (sym (sees_plain s (read_of turn s) v unmarked) ∙ seen)
        (ready.rel.plain (read_of turn s) ready.from)

    -- it is all that the session sees, now and later
    sees_one : (t : ℕ) → read_of turn s ≤ t → rows (v_sees s t) (a ++ (v ∷ z)) ≡ shows.0 ∷ []
    sees_one t l =
        still ready t l
        ∙ (plain_reader s (read_of turn s) _ (no_mark ready.rel s none)
        ∙ (ready.rel.plain (read_of turn s) ready.from ∙ ap list_of shows.1))

    -- so the key was there at the read time
    pub had_seen : had_at cs turn s k ≡ true
    had_seen = ap is_some shows.1

    -- it gets the session's mark as its end
    pub rel_end : {next : ℕ → Option (Turn R)} → Wrote turn next s k (Some None)
        → Rel h cs next k (a ++ (record { begin = v.begin; end = Some (moment.Mark s); row = v.row } ∷ z))
    rel_end wrote =
        let new : Version R = record { begin = v.begin; end = Some (moment.Mark s); row = v.row } in
        rel_wrote ready wrote (record {
          plain = λ t. rows_with a v new z (v_plain t) (rw is_stamped.2);
          mine = λ x w t l.
              let its : x ≡ None = cc in
              let sees : v_sees s t v ≡ true = sees_later s (read_of turn s) t l v calm ∙ seen in
              rows_with_one a v new z (v_sees s t) shows.0 sees (sees_one t l)
              ∙ rw (eq-eqb s s refl, its) (ap (λ x. one_if x v.row) (and_false (begun v.begin s t)));
          begun = rows_with a v new z (v_begun s) refl ∙ (ready.rel.begun s ∙ ap (λ x. list_of (put_of x)) none);
          begun_else = λ m ne. rows_with a v new z (v_begun m) refl;
          ended = any_at a new z (v_ended s) ∙ rw (eq-eqb s s refl, had_seen) (or_between (any (v_ended s) a) (any (v_ended s) z));
          ended_else = λ m ne. any_with a v new z (v_ended m) (rw is_stamped.2 (ne_eqb s m (λ x. ne (sym x))));
          stamps = λ t. any_with a v new z (v_above t) (rw is_stamped.2);
          shaped = all_with a v new z VShaped ready.rel.shaped (rw is_stamped.1 tt);
        })
