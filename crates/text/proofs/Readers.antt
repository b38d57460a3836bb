use Rattle.std.proofs.Common.{◌≡◌, ℕ, List, [], ◌∷◌, map, drop, Some, None, Option, sym, refl, ap, ◌∙◌}
use Rattle.std.specs.Option.{option_map}
use Rattle.std.specs.Iterator.{YieldsFirstBy}
use Rattle.text.specs.Parts.{first}
use Rattle.text.specs.Words.{meant, word_of, spelled, words_left, meanings_left}
use Rattle.text.specs.declared.word.Word.{Word}
use Rattle.text.specs.declared.words.Words.{Words}
use Rattle.text.proofs.Names.{word_back}

-- a reader's `next` gives the first of what was left, and leaves the others
module _ {S A B : Type 0} (view : A → B) (rest : S → List B) where
  pub gives_first : (s : S) (r : Option A) (t : S) → YieldsFirstBy view rest s r t → option_map view r ≡ first (rest s)
  gives_first s None t h = ap first (sym h.0)
  gives_first s (Some x) t h = ap first (sym h)

  pub leaves_others : (s : S) (r : Option A) (t : S) → YieldsFirstBy view rest s r t → rest t ≡ drop 1 (rest s)
  leaves_others s None t h = h.1 ∙ ap (drop 1) (sym h.0)
  leaves_others s (Some x) t h = ap (drop 1) (sym h)

-- the same of the words themselves: what a word means spells it
spelled_others : (ws : List (List ℕ)) → map spelled (map word_of ws) ≡ ws
spelled_others [] = refl
spelled_others (w ∷ ws) = ap (λ z. z ∷ map spelled (map word_of ws)) (word_back w) ∙ ap (λ z. w ∷ z) (spelled_others ws)

spelled_rest : (ws : List (List ℕ)) → map spelled (drop 1 (map word_of ws)) ≡ drop 1 ws
spelled_rest [] = refl
spelled_rest (w ∷ ws) = spelled_others ws

meant_first : (ws : List (List ℕ)) → first (map word_of ws) ≡ option_map word_of (first ws)
meant_first [] = refl
meant_first (w ∷ ws) = refl

pub word_given : (s : Words) (r : Option Word) (t : Words) → YieldsFirstBy meant meanings_left s r t
    → (option_map meant r ≡ option_map word_of (first (words_left s))) × (words_left t ≡ drop 1 (words_left s))
word_given s r t h = (
  gives_first meant meanings_left s r t h ∙ meant_first (words_left s),
  sym (spelled_others (words_left t)) ∙ ap (map spelled) (leaves_others meant meanings_left s r t h) ∙ spelled_rest (words_left s),
)
