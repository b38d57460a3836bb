-- A session closes: what commit and abandon have in common. The sessions left are `upd turn s None`.
use Rattle.std.proofs.Common.{◌≡◌, ℕ, ◌≤◌, false, ◌&&◌, eqb, List, [], is_some, Some, None, Option, sym, refl, ap, ◌∙◌, inl, inr}
use Rattle.std.proofs.lemmas.Option.{none-some}
use Rattle.std.specs.List.{AllByRecursion as All}
use Rattle.std.proofs.lemmas.Bool.{cases_Bool, eqb-true, eqb-false}
use Rattle.slots.specs.Lists.{any, list_of}
use Rattle.versions.specs.History.{Commit, Turn, shown, upd}
use Rattle.versions.proofs.Versions.{Version, v_plain, v_begun, v_ended, v_above, VShaped, rows}
use Rattle.versions.proofs.Versions.{put_of, wrote_above, read_of, writes_of, had_at, Rel, Tidy}
use Rattle.versions.proofs.Same.{SameAt, tidy_same}
use Rattle.versions.proofs.Marks.{no_other_write}

-- where no open session has a write on the key
module _ {R : Type 0} {h : ℕ} {cs : List (Commit R)} {next : ℕ → Option (Turn R)} {k : ℕ}
    (none : (m : ℕ) → writes_of next m k ≡ None) where
  pub tidy_unwritten : {c : ℕ} → All (λ x. x.stamp ≤ c) cs → h ≤ c → Tidy h c cs next k
  tidy_unwritten past low = record {
    past = past;
    low = low;
    lone = λ m u x y p q. absurd (none-some _ (sym (none m) ∙ p));
    newest = λ m x p. absurd (none-some _ (sym (none m) ∙ p));
    dropped = λ m p. absurd (none-some _ (sym (none m) ∙ p));
    reads = λ m x p. absurd (none-some _ (sym (none m) ∙ p));
  }

  pub rel_unwritten : {V : List (Version R)}
      → ((t : ℕ) → h ≤ t → rows (v_plain t) V ≡ list_of (shown cs t k))
      → ((m : ℕ) → rows (v_begun m) V ≡ [])
      → ((m : ℕ) → any (v_ended m) V ≡ false)
      → ((t : ℕ) → h ≤ t → any (v_above t) V ≡ wrote_above cs t k)
      → All VShaped V → Rel h cs next k V
  rel_unwritten plain begun ended stamps shaped = record {
    plain = plain;
    mine = λ m x p. absurd (none-some _ (sym (none m) ∙ p));
    begun = λ m. begun m ∙ ap (λ x. list_of (put_of x)) (sym (none m));
    ended = λ m. ended m ∙ ap (λ x. is_some x && had_at cs next m k) (sym (none m));
    stamps = stamps;
    shaped = shaped;
  }

module _ {R : Type 0} {cs ds : List (Commit R)} {turn : ℕ → Option (Turn R)} {k : ℕ} (s : ℕ) where
  -- the session had no write on the key, and the commits say of it what they said
  pub closed_same : writes_of turn s k ≡ None → ((t : ℕ) → shown ds t k ≡ shown cs t k)
      → ((t : ℕ) → wrote_above ds t k ≡ wrote_above cs t k) → SameAt cs ds turn (upd turn s None) k
  closed_same none shows above = record {
    sees_same = shows;
    above_same = above;
    writes_same = λ m. elim (cases_Bool (eqb m s)) [
      | inl it ↦ rw it (sym none ∙ ap (λ z. writes_of turn z k) (sym (eqb-true m s it)))
      | inr other ↦ rw other
    ];
    reads_same = λ m w wrote. elim (cases_Bool (eqb m s)) [
      | inl it ↦ absurd (none-some _ (sym (ap (λ z. writes_of turn z k) (eqb-true m s it) ∙ none) ∙ wrote))
      | inr other ↦ rw other
    ];
  }

module _ {R : Type 0} {h c : ℕ} {cs : List (Commit R)} {turn : ℕ → Option (Turn R)} {k : ℕ} (tidy : Tidy h c cs turn k) (s : ℕ) where
  -- the session had a write on the key, so none of those left has
  pub none_left : (w : Option R) → writes_of turn s k ≡ Some w → (m : ℕ) → writes_of (upd turn s None) m k ≡ None
  none_left w wrote m = elim (cases_Bool (eqb m s)) [
    | inl it ↦ rw it
    | inr other ↦ rw other (no_other_write tidy s w wrote m (eqb-false m s other))
  ]

  -- the history is tidy without the session
  pub tidy_closed : {h' c' : ℕ} {ds : List (Commit R)}
      → (writes_of turn s k ≡ None → SameAt cs ds turn (upd turn s None) k)
      → h' ≤ c' → c ≤ c' → All (λ x. x.stamp ≤ c') ds
      → ((m : ℕ) (w : Option R) → writes_of turn m k ≡ Some w → (m ≡ s → ⊥) → h' ≤ read_of turn m)
      → Tidy h' c' ds (upd turn s None) k
  tidy_closed {h'} {c'} {ds} same low later past reads = go (writes_of turn s k) refl
    where
      go : (o : Option (Option R)) → writes_of turn s k ≡ o → Tidy h' c' ds (upd turn s None) k
      go None none =
          let others : (m : ℕ) (w : Option R) → writes_of turn m k ≡ Some w → h' ≤ read_of turn m =
          λ m w p. reads m w p (λ it. none-some _ (sym (ap (λ z. writes_of turn z k) it ∙ none) ∙ p)) in
          tidy_same (same none) low later others past tidy
      go (Some w) wrote = tidy_unwritten (none_left w wrote) past low
