use Rattle.std.proofs.Common.{◌≡◌, ℕ, ◌+◌, ◌≤◌, List, [], ◌∷◌, ◌++◌, is_ok, Ok, Err, sym, refl, ap, ◌∙◌, append_assoc, arith}
use mir.Val.{bool_byte}
use Rattle.std.proofs.lemmas.List.{append-nil}
use Rattle.records.specs.Entries.{Entry}
use Rattle.records.specs.Writing.{entry_text, entries_text, is_good, count_good, summary_text}

counted : (e : Entry) → bool_byte (is_ok e) ≡ is_good e
counted (Ok r) = refl
counted (Err b) = refl

-- a report on its way: what is written and counted, with what the entries that are left add, is the whole
module _ (count : ℕ) {total : ℕ} where
  pub entry_room : (es rest : List Entry) (e : Entry) → es ≡ e ∷ rest → count + count_good es ≡ total → count + bool_byte (is_ok e) ≤ total
  unfolding count_good
  entry_room es rest e s inv = omega (arith, ap count_good s, counted e)

module _ (out : List ℕ) (count : ℕ) {text : List ℕ} {total : ℕ} where
  pub entry_more : (es rest : List Entry) (e : Entry) (new : List ℕ) → es ≡ e ∷ rest → new ≡ out ++ entry_text e
      → (out ++ entries_text es ≡ text) × (count + count_good es ≡ total)
      → (new ++ entries_text rest ≡ text) × ((count + bool_byte (is_ok e)) + count_good rest ≡ total)
  unfolding entries_text count_good
  entry_more es rest e new s f inv = (
    ap (λ z. z ++ entries_text rest) f ∙ append_assoc out (entry_text e) (entries_text rest)
        ∙ ap (λ z. out ++ entries_text z) (sym s) ∙ inv.0,
    omega (arith, ap count_good s, counted e, inv.1),
  )

  pub entry_all : (es : List Entry) (new : List ℕ) → es ≡ [] → new ≡ out ++ summary_text count
      → (out ++ entries_text es ≡ text) × (count + count_good es ≡ total) → new ≡ text ++ summary_text total
  unfolding entries_text count_good
  entry_all es new s f inv =
      let e : count ≡ total = omega (arith, ap count_good s, inv.1) in
      let w : out ≡ text = sym (append-nil out) ∙ ap (λ z. out ++ entries_text z) (sym s) ∙ inv.0 in
      f ∙ ap (λ z. z ++ summary_text count) w ∙ ap (λ n. text ++ summary_text n) e
