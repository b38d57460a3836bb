-- A commit with a stamp: the marks of the session become the stamp, on hot rows, on notices and so on every version.
use Rattle.std.proofs.Common.{◌≡◌, ℕ, ◌+◌, ◌<◌, ◌≤◌, false, cond, eqb, List, [], ◌++◌, map, Some, None, Option, sym, refl, ap, ◌∙◌, arith, option_map}
use mathlib.Core.List.{map-append}
use Rattle.rules.specs.declared.times.Moment.{Moment}
use Rattle.rules.specs.declared.times.Moment.TheVariants as moment
use Rattle.rules.specs.declared.tables.HotRow.{HotRow}
use Rattle.rules.specs.declared.tables.Kind.{Kind}
use Rattle.rules.specs.declared.tables.Kind.TheVariants.{N, B, E, BE, X}
use Rattle.rules.specs.declared.tables.Notice.{Notice}
use Rattle.cold.specs.Cold.{Entry}
use Rattle.rules.specs.Horizon.{horizon}
use Rattle.rules.specs.Looking.{is_for, notice_for}
use Rattle.rules.specs.Selling.{stamp_row, stamp_notice, close, stamped}
use Rattle.rules.specs.Stores.{Store, horizon_of}
use Rattle.rules.specs.Times.{open_end, stamp_end}
use Rattle.slots.proofs.Folds.{all_every, each_same, each_map}
use Rattle.versions.specs.History.{History, commits_at}
use Rattle.versions.proofs.Stamping.{stamp_version, rel_commit, tidy_commit}
use Rattle.cells.proofs.Horizons.{horizon_low, horizon_close}
use Rattle.cells.proofs.Maps.{map_each, map_one_if, map_cond, kept_map, first_map}
use Rattle.cells.proofs.Cells.{Cell, Pending, QuietEnd, mover, hot_version, cold_version, hot_part, cold_part, entry_version, kind_version, Whole}
use Rattle.cells.proofs.Cells.{c_empty, c_plain, c_idle, c_chosen, c_copied, c_begun, c_ended, c_both, c_emptied}
use Rattle.cells.proofs.Sessions.{shut, shut_agree, shut_many, shut_early, shut_reads}

-- an end that is quiet has no mark, so the stamp leaves it
quiet_stamp : (h g s c : ℕ) (y : Option Moment) → h ≤ g → QuietEnd h y → QuietEnd g (stamp_end s c y)
quiet_stamp h g s c None l q = tt
quiet_stamp h g s c (Some (moment.Stamp n)) l q = omega arith
quiet_stamp h g s c (Some (moment.Mark n)) l q = elim q [ ]

stamp_closed : (s c : ℕ) (y : Option Moment) → open_end y ≡ false → open_end (stamp_end s c y) ≡ false
stamp_closed s c None h = h
stamp_closed s c (Some x) h = refl

stamp_pending : {K : Type 0} (s c : ℕ) (n : Notice K) → Pending n → Pending (stamp_notice s c n)
stamp_pending s c n p = record { kind = p.kind; begin = p.begin; end = rw p.end }

module _ {R : Type 0} where
  stamp_kind : (s c : ℕ) (kind : Kind) (x : ℕ) (y : Option Moment) (r : R)
      → kind_version kind x (stamp_end s c y) r ≡ map (stamp_version s c) (kind_version kind x y r)
  stamp_kind s c N x y r = refl
  stamp_kind s c B x y r = refl
  stamp_kind s c E x y r = refl
  stamp_kind s c BE x y r = refl
  stamp_kind s c X x y r = refl

module _ {K R : Type 0} where
  stamp_entry : (s c : ℕ) (o : Option (Notice K)) (r : R)
      → entry_version (option_map (stamp_notice s c) o) r ≡ map (stamp_version s c) (entry_version o r)
  stamp_entry s c None r = refl
  stamp_entry s c (Some n) r = stamp_kind s c n.kind n.begin n.end r

  -- a cell keeps its shape
  stamp_cell : (h g s c : ℕ) {ns : List (Notice K)} {es : List (Entry R)} {ms : List (HotRow K R)}
      → h ≤ g → Cell h ns es ms → Cell g (map (stamp_notice s c) ns) es (map (stamp_row s c) ms)
  stamp_cell h g s c l (c_empty p q z) = c_empty (rw p) q (rw z)
  stamp_cell h g s c l (c_plain d p q z) = c_plain d (rw p) q (rw z)
  stamp_cell h g s c l (c_idle n p q u z) = c_idle (stamp_notice s c n) (rw p) (stamp_pending s c n q) u (rw z)
  stamp_cell h g s c l (c_chosen n m i p q u z t a x y) =
      c_chosen (stamp_notice s c n) (stamp_row s c m) i (rw p) (stamp_pending s c n q) u (rw z) t a (rw x) (rw y)
  stamp_cell h g s c l (c_copied n m i d p q u z t a x y v) =
      c_copied (stamp_notice s c n) (stamp_row s c m) i d (rw p) (stamp_pending s c n q) u (rw z) t a (rw x) (rw y) v
  stamp_cell h g s c l (c_begun n d p q u x z) = c_begun (stamp_notice s c n) d (rw p) q (rw u) x (rw z)
  stamp_cell h g s c l (c_ended n d p q u x z ne) =
      c_ended (stamp_notice s c n) d (rw p) q u x (rw z) (stamp_closed s c n.end ne)
  stamp_cell h g s c l (c_both n d p q x z ne) =
      c_both (stamp_notice s c n) d (rw p) q x (rw z) (stamp_closed s c n.end ne)
  stamp_cell h g s c l (c_emptied n p q u v x z) =
      c_emptied (stamp_notice s c n) (rw p) q (omega arith) (quiet_stamp h g s c n.end l v) x (rw z)

module _ {K R : Type 0} (number : K → ℕ) where
  stamp_cold : (s c k : ℕ) (memo : List (Notice K)) (x : Entry R)
      → cold_version number (map (stamp_notice s c) memo) k x ≡ map (stamp_version s c) (cold_version number memo k x)
  stamp_cold s c k memo x =
      ap (λ o. cond (eqb x.number k) (entry_version o x.row) [])
      (first_map (is_for number x.number x.tag) (stamp_notice s c) (λ _. refl) memo)
      ∙ (ap (λ z. cond (eqb x.number k) z []) (stamp_entry s c (notice_for number memo x.number x.tag) x.row)
      ∙ map_cond (stamp_version s c) (eqb x.number k) _)

  stamp_versions : (s c k : ℕ) (hot : List (HotRow K R)) (memo : List (Notice K)) (cold : List (Entry R))
      → hot_part number (map (stamp_row s c) hot) k ++ cold_part number (map (stamp_notice s c) memo) cold k
      ≡ map (stamp_version s c) (hot_part number hot k ++ cold_part number memo cold k)
  stamp_versions s c k hot memo cold =
      let a : hot_part number (map (stamp_row s c) hot) k ≡ map (stamp_version s c) (hot_part number hot k) =
      each_map (hot_version number k) (stamp_row s c) hot
      ∙ (each_same _ _ hot (all_every _ hot (λ x. map_one_if (stamp_version s c) (eqb (number x.key) k) _))
      ∙ sym (map_each (stamp_version s c) (hot_version number k) hot)) in
      let d : cold_part number (map (stamp_notice s c) memo) cold k ≡ map (stamp_version s c) (cold_part number memo cold k) =
      each_same _ _ cold (all_every _ cold (stamp_cold s c k memo))
      ∙ sym (map_each (stamp_version s c) (cold_version number memo k) cold) in
      rw (a, d) (sym (map-append (stamp_version s c) (hot_part number hot k) (cold_part number memo cold k)))

  module _ (σ : Store K R) (T : History R) (w : Whole number σ T) (s : ℕ) (within : s < 64) where
    abbrev stamp : ℕ
    stamp = σ.clock + 1

    abbrev left : ℕ
    left = horizon stamp (shut number σ T w s within)

    pub whole_commit : Whole number (close (stamped σ s (σ.clock + 1)) s) (commits_at T s (σ.clock + 1))
    whole_commit =
        let up : horizon_of σ ≤ left = horizon_close σ.clock stamp σ.sessions s w.early (omega arith) in
        let early = shut_early number σ T w s within stamp (omega arith) in
        let notices : (k tag : ℕ) → _ = λ k tag. kept_map (is_for number k tag) (stamp_notice s stamp) (λ x. refl) σ.memo in
        let movers : (k tag : ℕ) → _ = λ k tag. kept_map (mover number k tag) (stamp_row s stamp) (λ x. refl) σ.hot in
        record {
          clock = refl;
          many = shut_many number σ T w s within;
          agree = shut_agree number σ T w s within;
          early = early;
          started = omega arith;
          tags = w.tags;
          sound = record {
            cells = λ k tag. rw (notices k tag, movers k tag) (stamp_cell _ _ s stamp up (w.sound.cells k tag));
            unused = λ k tag lt.
                let u = w.sound.unused k tag lt in (notices k tag ∙ ap (map (stamp_notice s stamp)) u.0, u.1);
            known = w.sound.known;
          };
          rel = λ k.
              rw (stamp_versions s stamp k σ.hot σ.memo σ.cold)
              (rel_commit (w.tidy k) s (w.rel k) up);
          tidy = λ k.
              tidy_commit (w.tidy k) s (horizon_low stamp _ early)
              (λ u v h ne. shut_reads number σ T w s within stamp k u v h ne);
        }
