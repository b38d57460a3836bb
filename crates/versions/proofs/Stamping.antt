-- Commit: the marks of session s become the stamp c, one above the clock. Before the stamp nobody tells a change, and from
-- it on everybody sees what the session saw.
use Rattle.std.proofs.Common.{◌≡◌, ℕ, ◌+◌, ◌<◌, ◌≤◌, Bool, true, false, ◌||◌, eqb, List, [], ◌∷◌, map, Some, None, Option, refl, ap, ◌∙◌, inl, inr, arith}
use Rattle.std.specs.List.{AllByRecursion as All}
use Rattle.std.proofs.ByRecursion.{All-map}
use Rattle.std.proofs.lemmas.Bool.{cases_Bool, cases_lt, le-leb, lt-leb, lt-ltb, le-ltb}
use Rattle.std.proofs.lemmas.Bool.Decides.{nat_tests}
use Rattle.rules.specs.declared.times.Moment.{Moment}
use Rattle.rules.specs.declared.times.Moment.TheVariants as moment
use Rattle.rules.specs.Times.{begun, ended, begin_marked, end_marked, begin_above, end_above, stamp_begin, stamp_end}
use Rattle.slots.specs.Lists.{any, one_if, list_of}
use Rattle.slots.proofs.Folds.{any_same, all_none, any_map, all_both, all_then, all_every, each_map}
use Rattle.versions.specs.History.{Commit, Turn, shown, turn_writes, upd}
use Rattle.versions.proofs.Versions.{Version, Shaped, plain_begun, plain_ended, v_plain, v_sees, v_begun, v_ended}
use Rattle.versions.proofs.Versions.{v_above, VShaped, rows, wrote_above, read_of, writes_of, Rel, Tidy}
use Rattle.versions.proofs.Rows.{any_weaker, rows_same, rows_none}
use Rattle.versions.proofs.Same.{SameAt, rel_same}
use Rattle.versions.proofs.Marks.{NoMark, OnlyMark, v_marked, own_mark, no_mark, has_mark}
use Rattle.versions.proofs.Marks.{none_above, only_mark, OnlyBegin, OnlyEnd, only_begin, only_end}
use Rattle.versions.proofs.Closing.{rel_unwritten, closed_same, none_left, tidy_closed}

-- begins and ends, stamped
module _ (s c : ℕ) where
  -- a begin or an end that has no mark of s stays as it is
  begin_kept : (x : Moment) → begin_marked x s ≡ false → stamp_begin s c x ≡ x
  begin_kept (moment.Stamp n) none = refl
  begin_kept (moment.Mark n) none = rw none

  end_kept : (y : Option Moment) → end_marked y s ≡ false → stamp_end s c y ≡ y
  end_kept None none = refl
  end_kept (Some x) none = ap Some (begin_kept x none)

  -- for a reader without marks before the stamp
  begun_early : (t : ℕ) → t < c → (x : Moment) → plain_begun t (stamp_begin s c x) ≡ plain_begun t x
  begun_early t lt (moment.Stamp n) = refl
  begun_early t lt (moment.Mark n) = grind (arith, nat_tests)

  ended_early : (t : ℕ) → t < c → (y : Option Moment) → plain_ended t (stamp_end s c y) ≡ plain_ended t y
  ended_early t lt None = refl
  ended_early t lt (Some x) = begun_early t lt x

  -- and from it on, if there is no other session's mark
  begun_late : (t : ℕ) → c ≤ t → (x : Moment) → OnlyBegin s x → plain_begun t (stamp_begin s c x) ≡ begun x s t
  begun_late t le (moment.Stamp n) only = refl
  begun_late t le (moment.Mark n) only = let own = own_mark n s only in grind (arith, nat_tests)

  ended_late : (t : ℕ) → c ≤ t → (y : Option Moment) → OnlyEnd s y → plain_ended t (stamp_end s c y) ≡ ended y s t
  ended_late t le None only = refl
  ended_late t le (Some x) only = begun_late t le x only

  -- no mark is left then
  begin_unmarked : (x : Moment) → OnlyBegin s x → (m : ℕ) → begin_marked (stamp_begin s c x) m ≡ false
  begin_unmarked (moment.Stamp n) only m = refl
  begin_unmarked (moment.Mark n) only m = let own = own_mark n s only in grind (arith, nat_tests)

  end_unmarked : (y : Option Moment) → OnlyEnd s y → (m : ℕ) → end_marked (stamp_end s c y) m ≡ false
  end_unmarked None only m = refl
  end_unmarked (Some x) only m = begin_unmarked x only m

  -- a mark becomes a stamp above t before the stamp, and from it on no stamp is new above t
  begin_above_early : (t : ℕ) → t < c → (x : Moment) → begin_marked x s ≡ true → begin_above (stamp_begin s c x) t ≡ true
  begin_above_early t lt (moment.Stamp n) its = grind (arith, nat_tests)
  begin_above_early t lt (moment.Mark n) its = grind (arith, nat_tests)

  end_above_early : (t : ℕ) → t < c → (y : Option Moment) → end_marked y s ≡ true → end_above (stamp_end s c y) t ≡ true
  end_above_early t lt None its = grind (arith, nat_tests)
  end_above_early t lt (Some x) its = begin_above_early t lt x its

  begin_above_late : (t : ℕ) → c ≤ t → (x : Moment) → begin_above (stamp_begin s c x) t ≡ begin_above x t
  begin_above_late t le (moment.Stamp n) = refl
  begin_above_late t le (moment.Mark n) = grind (arith, nat_tests)

  end_above_late : (t : ℕ) → c ≤ t → (y : Option Moment) → end_above (stamp_end s c y) t ≡ end_above y t
  end_above_late t le None = refl
  end_above_late t le (Some x) = begin_above_late t le x

  -- the shape is kept, since no begin is above the clock d
  shaped_stamped : (d : ℕ) → d ≤ c → (x : Moment) (y : Option Moment)
      → Shaped x y → (begin_above x d || end_above y d) ≡ false → Shaped (stamp_begin s c x) (stamp_end s c y)
  shaped_stamped d le (moment.Stamp n) None shaped low = tt
  shaped_stamped d le (moment.Stamp n) (Some (moment.Stamp m)) shaped low = shaped
  shaped_stamped d le (moment.Stamp n) (Some (moment.Mark m)) shaped low = elim (cases_Bool (eqb m s)) [
    | inl its ↦ rw its (grind (arith, nat_tests))
    | inr other ↦ rw other tt
  ]
  shaped_stamped d le (moment.Mark n) None shaped low = elim (cases_Bool (eqb n s)) [ inl its ↦ rw its tt | inr other ↦ rw other tt ]
  shaped_stamped d le (moment.Mark n) (Some x) shaped low = elim shaped [ ]

-- versions, stamped
module _ {R : Type 0} where
  abbrev pub stamp_version : ℕ → ℕ → Version R → Version R
  stamp_version s c v = record { begin = stamp_begin s c v.begin; end = stamp_end s c v.end; row = v.row }

module _ {R : Type 0} (s c : ℕ) where
  -- versions without a mark of s stay as they are
  all_kept : (V : List (Version R)) → All (NoMark s) V → map (stamp_version s c) V ≡ V
  all_kept [] none = refl
  all_kept (v ∷ V) none =
      rw (begin_kept s c v.begin none.0.0, end_kept s c v.end none.0.1) (ap (λ z. v ∷ z) (all_kept V none.1))

  -- what a reader without marks sees, and which stamps are above t, before the stamp and from it on
  plain_early : (t : ℕ) → t < c → (v : Version R) → v_plain t (stamp_version s c v) ≡ v_plain t v
  plain_early t lt v = rw (begun_early s c t lt v.begin, ended_early s c t lt v.end)

  plain_late : (t : ℕ) → c ≤ t → (v : Version R) → OnlyMark s v → v_plain t (stamp_version s c v) ≡ v_sees s t v
  plain_late t le v only =
      rw (begun_late s c t le v.begin (only_begin s v only), ended_late s c t le v.end (only_end s v only))

  above_early : (t : ℕ) → t < c → (v : Version R) → v_marked s v ≡ true → v_above t (stamp_version s c v) ≡ true
  above_early t lt v marked =
      let begin = begin_above_early s c t lt v.begin in
      let end = end_above_early s c t lt v.end in
      grind arith

  above_late : (t : ℕ) → c ≤ t → (v : Version R) → v_above t (stamp_version s c v) ≡ v_above t v
  above_late t le v = rw (begin_above_late s c t le v.begin, end_above_late s c t le v.end)

  rows_stamped : (p : Version R → Bool) (V : List (Version R)) → rows p (map (stamp_version s c) V) ≡ rows (λ v. p (stamp_version s c v)) V
  rows_stamped p V = each_map (λ v. one_if (p v) v.row) (stamp_version s c) V

-- session s commits, and the horizon may rise
module _ {R : Type 0} {h c : ℕ} {cs : List (Commit R)} {turn : ℕ → Option (Turn R)} {k : ℕ} (tidy : Tidy h c cs turn k) (s : ℕ) where
  -- the commits then
  abbrev after : List (Commit R)
  after = record { stamp = c + 1; writes = turn_writes (turn s) } ∷ cs

  -- if it had no write on the key, the history says of the key what it said
  same_after : writes_of turn s k ≡ None → SameAt cs after turn (upd turn s None) k
  unfolding any
  same_after none = closed_same s none (λ t. rw none (grind arith)) (λ t. rw none (grind arith))

  pub tidy_commit : {h' : ℕ} → h' ≤ c + 1
      → ((m : ℕ) (w : Option R) → writes_of turn m k ≡ Some w → (m ≡ s → ⊥) → h' ≤ read_of turn m)
      → Tidy h' (c + 1) after (upd turn s None) k
  tidy_commit low reads =
      tidy_closed tidy s same_after low (omega arith) (omega arith, all_then _ _ cs tidy.past (λ x l. omega arith)) reads

  module _ {h' : ℕ} {V : List (Version R)} (rel : Rel h cs turn k V) (up : h ≤ h') where
    abbrev stamped : List (Version R)
    stamped = map (stamp_version s (c + 1)) V

    -- it had the write w: the parts of `Rel`, one by one
    module _ (w : Option R) (wrote : writes_of turn s k ≡ Some w) where
      only : All (OnlyMark s) V
      only = only_mark tidy rel s w wrote

      plain_after : (t : ℕ) → h' ≤ t → rows (v_plain t) stamped ≡ list_of (shown after t k)
      plain_after t l = rows_stamped s (c + 1) (v_plain t) V ∙ elim (cases_lt t (c + 1)) [
        | inl lt ↦
            rows_same _ _ V (all_every _ V (plain_early s (c + 1) t lt))
            ∙ rw (lt-leb (c + 1) t lt) (rel.plain t (omega arith))
        | inr le ↦
            rows_same _ _ V (all_then _ _ V only (plain_late s (c + 1) t le))
            ∙ rw (le-leb (c + 1) t le, wrote) (rel.mine s w wrote t (omega (arith, tidy.reads s w wrote)))
      ]

      stamps_after : (t : ℕ) → h' ≤ t → any (v_above t) stamped ≡ wrote_above after t k
      unfolding any
      stamps_after t l = any_map (v_above t) (stamp_version s (c + 1)) V ∙ elim (cases_lt t (c + 1)) [
        | inl lt ↦
            any_weaker _ _ V (above_early s (c + 1) t lt) (has_mark rel tidy s w wrote)
            ∙ rw (lt-ltb t (c + 1) lt, wrote)
        | inr le ↦
            any_same _ _ V (all_every _ V (above_late s (c + 1) t le))
            ∙ rw (le-ltb t (c + 1) le) (rel.stamps t (omega arith))
      ]

      begun_after : (m : ℕ) → rows (v_begun m) stamped ≡ []
      begun_after m =
          rows_stamped s (c + 1) (v_begun m) V
          ∙ rows_none _ V (all_then _ _ V only (λ v only. begin_unmarked s (c + 1) v.begin (only_begin s v only) m))

      ended_after : (m : ℕ) → any (v_ended m) stamped ≡ false
      ended_after m =
          any_map (v_ended m) (stamp_version s (c + 1)) V
          ∙ all_none _ V (all_then _ _ V only (λ v only. end_unmarked s (c + 1) v.end (only_end s v only) m))

      shaped_after : All VShaped stamped
      shaped_after =
          All-map VShaped (stamp_version s (c + 1)) V
          (all_then _ _ V (all_both _ _ V rel.shaped (none_above rel tidy))
          (λ v q. shaped_stamped s (c + 1) c (omega arith) v.begin v.end q.0 q.1))

    pub rel_commit : Rel h' after (upd turn s None) k stamped
    rel_commit = go (writes_of turn s k) refl
      where
        go : (o : Option (Option R)) → writes_of turn s k ≡ o → Rel h' after (upd turn s None) k stamped
        go None none = rw (all_kept s (c + 1) V (no_mark rel s none)) (rel_same (same_after none) up rel)
        go (Some w) wrote =
            rel_unwritten (none_left tidy s w wrote) (plain_after w wrote) (begun_after w wrote) (ended_after w wrote)
            (stamps_after w wrote) (shaped_after w wrote)
