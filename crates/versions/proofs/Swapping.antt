-- A version may change its place in the list, as a settled row does: no reader tells the order, since it sees one row.
use Rattle.std.proofs.Common.{◌≡◌, ℕ, Bool, ◌||◌, List, ◌++◌, Option, ◌∙◌, append_assoc, arith}
use Rattle.std.specs.List.{AllByRecursion as All}
use Rattle.slots.specs.Lists.{any, list_of}
use Rattle.slots.proofs.Folds.{any_append, all_front, all_back, all_join}
use Rattle.slots.proofs.Few.{moved}
use Rattle.versions.specs.History.{Commit, Turn, shown}
use Rattle.versions.proofs.Versions.{Version, v_plain, v_sees, v_begun, v_ended, v_above, VShaped, rows, put_of, writes_of, Rel}
use Rattle.versions.proofs.Rows.{rows_append}

or_swap : (a x y z : Bool) → (a || (y || (x || z))) ≡ (a || (x || (y || z)))
or_swap a x y z = grind arith

-- the parts x and y change places
module _ {R : Type 0} (a x y z : List (Version R)) where
  abbrev before : List (Version R)
  before = a ++ (x ++ (y ++ z))

  abbrev after : List (Version R)
  after = a ++ (y ++ (x ++ z))

  rows_swap : (p : Version R → Bool) (o : Option R) → rows p before ≡ list_of o → rows p after ≡ list_of o
  rows_swap p o h =
      let apart : (rows p a ++ (rows p x ++ rows p y)) ++ rows p z ≡ list_of o = simp append_assoc (simp rows_append at h) in
      simp rows_append (simp append_assoc at (moved (rows p a) (rows p x) (rows p y) (rows p z) o apart))

  any_swap : (p : Version R → Bool) → any p after ≡ any p before
  any_swap p = simp any_append (or_swap (any p a) (any p x) (any p y) (any p z))

  all_swap : (P : Version R → Type 0) → All P before → All P after
  all_swap P h =
      let tail = all_back P a (x ++ (y ++ z)) h in
      let rest = all_back P x (y ++ z) tail in
      all_join P a _ (all_front P a (x ++ (y ++ z)) h)
      (all_join P y _ (all_front P y z rest)
      (all_join P x z (all_front P x (y ++ z) tail) (all_back P y z rest)))

  pub rel_swap : {h : ℕ} {cs : List (Commit R)} {turn : ℕ → Option (Turn R)} {k : ℕ} → Rel h cs turn k before → Rel h cs turn k after
  rel_swap {h} {cs} {turn} {k} r = record {
    plain = λ t l. rows_swap (v_plain t) (shown cs t k) (r.plain t l);
    mine = λ s w eq t l. rows_swap (v_sees s t) w (r.mine s w eq t l);
    begun = λ s. rows_swap (v_begun s) (put_of (writes_of turn s k)) (r.begun s);
    ended = λ s. any_swap (v_ended s) ∙ r.ended s;
    stamps = λ t l. any_swap (v_above t) ∙ r.stamps t l;
    shaped = all_swap VShaped r.shaped;
  }
