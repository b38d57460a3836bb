use Rattle.std.proofs.Common.{◌≡◌, ℕ, ◌%◌, ◌<◌, min, max, false, ◌&&◌, leb, List, length, get_or, replicate, sym, ap, ◌∙◌, ⊎_elim, arith}
use Rattle.std.proofs.lemmas.Bool.{cases_eq, eq-eqb, ne_eqb, cond-true, cond-false}
use Rattle.std.proofs.lemmas.List.{get_or-set_same, get_or-set_other, get_or-replicate}
use Rattle.std.proofs.lemmas.Bool.Decides.{nat_tests}
use Rattle.filter.specs.Band.{low_of, high_of, in_band, lows_with, highs_with, in_band_with}

-- nothing lies between the highest number and 0
pub band_none : (n h : ℕ) → h % 64 < n → in_band (replicate n 18446744073709551615) (replicate n 0) h ≡ false
band_none n h l =
    let a = get_or-replicate n (h % 64) 18446744073709551615 0 l in
    let b = get_or-replicate n (h % 64) 0 0 l in
    ap (λ x. leb x h && leb h (get_or (replicate n 0) (h % 64) 0)) a ∙ ap (λ x. leb 18446744073709551615 h && leb h x) b ∙ grind (arith, nat_tests)

module _ (lows highs : List ℕ) (h : ℕ) (l : h % 64 < length lows) (m : h % 64 < length highs) where
  -- what the new ends admit
  pub band_with : (k : ℕ) → in_band (lows_with lows h) (highs_with highs h) k ≡ in_band_with lows highs h k
  band_with k =
      ⊎_elim
      (λ (f : k % 64 ≡ h % 64).
      let a = ap (λ i. get_or (lows_with lows h) i 0) f ∙ get_or-set_same lows (h % 64) (min (low_of lows h) h) 0 l in
      let b = ap (λ i. get_or (highs_with highs h) i 0) f ∙ get_or-set_same highs (h % 64) (max (high_of highs h) h) 0 m in
      between a b ∙ sym (cond-true _ _ (in_band lows highs k) (eq-eqb (k % 64) (h % 64) f)))
      (λ (f : k % 64 ≡ h % 64 → ⊥).
      let a = get_or-set_other lows (h % 64) (k % 64) (min (low_of lows h) h) 0 f in
      let b = get_or-set_other highs (h % 64) (k % 64) (max (high_of highs h) h) 0 f in
      between a b ∙ sym (cond-false _ _ (in_band lows highs k) (ne_eqb (k % 64) (h % 64) f)))
      (cases_eq (k % 64) (h % 64))
    where
      between : {a b c d : ℕ} → a ≡ c → b ≡ d → (leb a k && leb k b) ≡ (leb c k && leb k d)
      between e f = cc
