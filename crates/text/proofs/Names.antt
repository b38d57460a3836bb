use Rattle.std.proofs.Common.{◌≡◌, ℕ, suc, ◌+◌, Bool, true, false, cond, eqb, List, [], ◌∷◌, ◌++◌, length, take, drop, codes, sym, refl, ap, ◌∙◌, arith}
use Rattle.std.proofs.lemmas.Bool.{eqb-true, eqb-false}
use Rattle.std.proofs.lemmas.Slice.Eq.{bytes_eq-Decides}
use Rattle.text.specs.Parts.{count_to}
use Rattle.text.specs.Words.{Meant, call, session, mode, key, row, other, same, named, word_of, spelled}

-- what stands before the '=', the '=' and what follows it are the word
cut_step : (b : ℕ) (bs : List ℕ) (t : Bool) → (t ≡ true → b ≡ 61) → (cond t 0 (suc (count_to 61 bs)) ≡ suc (length bs) → ⊥)
    → ((count_to 61 bs ≡ length bs → ⊥) → take (count_to 61 bs) bs ++ (61 ∷ drop (count_to 61 bs + 1) bs) ≡ bs)
    → take (cond t 0 (suc (count_to 61 bs))) (b ∷ bs) ++ (61 ∷ drop (cond t 0 (suc (count_to 61 bs)) + 1) (b ∷ bs)) ≡ b ∷ bs
cut_step b bs true is n again = ap (λ z. z ∷ bs) (sym (is refl))
cut_step b bs false is n again =
    let e : suc (count_to 61 bs) + 1 ≡ suc (count_to 61 bs + 1) = omega arith in
    ap (λ m. b ∷ (take (count_to 61 bs) bs ++ (61 ∷ drop m (b ∷ bs)))) e ∙ ap (λ z. b ∷ z) (again (λ q. n (ap suc q)))

cut_back : (w : List ℕ) → (count_to 61 w ≡ length w → ⊥) → take (count_to 61 w) w ++ (61 ∷ drop (count_to 61 w + 1) w) ≡ w
unfolding count_to
cut_back [] n = absurd (n refl)
cut_back (b ∷ bs) n = cut_step b bs (eqb b 61) (eqb-true b 61) n (cut_back bs)

-- one name tried: if it is the word's, the word is that name, '=' and the value
try_step : (w name value known : List ℕ) (found or_else : Meant) (t : Bool) → (t ≡ true → name ≡ known) → name ++ (61 ∷ value) ≡ w
    → spelled found ≡ known ++ (61 ∷ value) → spelled or_else ≡ w → spelled (cond t found or_else) ≡ w
try_step w name value known found or_else true is e f g = f ∙ ap (λ z. z ++ (61 ∷ value)) (sym (is refl)) ∙ e
try_step w name value known found or_else false is e f g = g

try_name : (w name value known : List ℕ) (found or_else : Meant) → name ++ (61 ∷ value) ≡ w
    → spelled found ≡ known ++ (61 ∷ value) → spelled or_else ≡ w → spelled (cond (same name known) found or_else) ≡ w
try_name w name value known found or_else =
    try_step w name value known found or_else (same name known) (bytes_eq-Decides name known).0

named_back : (w name value : List ℕ) → name ++ (61 ∷ value) ≡ w → spelled (named w name value) ≡ w
named_back w name value e =
    try_name w name value (codes "call") (call value) _ e refl
    (try_name w name value (codes "s") (session value) _ e refl
    (try_name w name value (codes "mode") (mode value) _ e refl
    (try_name w name value (codes "k") (key value) _ e refl
    (try_name w name value (codes "v") (row value) _ e refl refl))))

word_step : (w : List ℕ) (t : Bool) → (t ≡ false → count_to 61 w ≡ length w → ⊥)
    → spelled (cond t (other w) (named w (take (count_to 61 w) w) (drop (count_to 61 w + 1) w))) ≡ w
word_step w true n = refl
word_step w false n = named_back w (take (count_to 61 w) w) (drop (count_to 61 w + 1) w) (cut_back w (n refl))

pub word_back : (w : List ℕ) → spelled (word_of w) ≡ w
word_back w = word_step w (eqb (count_to 61 w) (length w)) (eqb-false (count_to 61 w) (length w))
