-- The steps of the finds through a key's own entries.
use Rattle.std.proofs.Common.{◌≡◌, ℕ, suc, ◌+◌, ◌<◌, ◌≤◌, Bool, true, false, cond, eqb, ltb, leb, List, [], ◌∷◌, length, Some, None, sym, refl, ap, ◌∙◌, arith}
use Rattle.std.proofs.lemmas.Bool.{and_parts, cond-true, cond-false, eqb-true, lt-ltb, le-ltb}
use Rattle.cold.specs.Cold.{Entry, in_order, is_own, own, told, first_of, found}
use Rattle.cold.specs.declared.store.Found.{Found}
use Rattle.cold.proofs.Lists.{kept_first}
use Rattle.cold.proofs.Meaning.{own_next}
use Rattle.rules.specs.Looking.{Looked, cold_one, nothing, walk}

module _ {R : Type 0} (n t : ℕ) (es : List (Entry R)) (o : in_order es ≡ true) where
  -- an entry that a find answered: it is the key's, and the first of those left
  pub record Split (f : Found R) : Type 0 where
    pub entry : Entry R
    pub is : told entry ≡ f
    pub number : entry.number ≡ n
    pub parts : own n t es ≡ entry ∷ own n (f.tag + 1) es

  pub own_split : (f : Found R) → Some f ≡ found es n t → Split f
  own_split f h = go (own n t es) refl h
    where
      go : (l : List (Entry R)) → own n t es ≡ l → Some f ≡ first_of l → Split f
      go [] e h = absurd (let z : ◌≡◌ {A = ℕ} 0 1 = cc in omega arith)
      go (y ∷ ys) e h =
          let q : told y ≡ f = cc in
          let m = and_parts (eqb y.number n) (leb t y.tag) (kept_first (is_own n t) es ys y e) in
          record {
            entry = y;
            is = q;
            number = eqb-true y.number n m.0;
            parts = e ∙ ap (λ zs. y ∷ zs) (own_next n t es ys y o e ∙ ap (λ (z : Found R). own n (z.tag + 1) es) q);
          }

  pub own_empty : None ≡ found es n t → own n t es ≡ []
  own_empty h = go (own n t es) refl h
    where
      go : (l : List (Entry R)) → own n t es ≡ l → None ≡ first_of l → own n t es ≡ []
      go [] e h = e
      go (y ∷ ys) e h = absurd (let z : ◌≡◌ {A = ℕ} 0 1 = cc in omega arith)

  pub own_shorter : (f : Found R) → Some f ≡ found es n t → length (own n t es) ≡ suc (length (own n (f.tag + 1) es))
  own_shorter f h = ap length (own_split f h).parts

  -- `sees` is the test by key number and tag; from tag t on, with c finds before, the walk gives the goal
  module _ {K : Type 0} (sees : ℕ → ℕ → Bool) (c : ℕ) {goal : Looked K R}
      (inv : walk (λ e. sees e.number e.tag) (own n t es) c ≡ goal) where
    module _ (f : Found R) (h : Some f ≡ found es n t) where
      at_entry : sees (own_split f h).entry.number (own_split f h).entry.tag ≡ sees n f.tag
      at_entry = let p = own_split f h in ap (λ m. sees m p.entry.tag) p.number ∙ ap (λ (z : Found R). sees n z.tag) p.is

      step : cond (sees (own_split f h).entry.number (own_split f h).entry.tag)
          (record { seen = cold_one (own_split f h).entry; finds = c + 1 })
          (cond (ltb (own_split f h).entry.tag 4294967295) (walk (λ e. sees e.number e.tag) (own n (f.tag + 1) es) (c + 1))
          (record { seen = nothing; finds = c + 1 })) ≡ goal
      unfolding walk
      step = sym (ap (λ l. walk (λ e. sees e.number e.tag) l c) (own_split f h).parts) ∙ inv

      pub walk_here : true ≡ sees n f.tag → record { seen = cold_one (own_split f h).entry; finds = c + 1 } ≡ goal
      walk_here s = sym (cond-true _ _ _ (at_entry ∙ sym s)) ∙ step

      pub walk_more : false ≡ sees n f.tag → f.tag < 4294967295 → walk (λ e. sees e.number e.tag) (own n (f.tag + 1) es) (c + 1) ≡ goal
      walk_more s l =
          let p = own_split f h in
          let k : p.entry.tag < 4294967295 = omega (arith, ap (λ (z : Found R). z.tag) p.is) in
          sym (cond-true _ _ _ (lt-ltb p.entry.tag 4294967295 k)) ∙ sym (cond-false _ _ _ (at_entry ∙ sym s)) ∙ step

      pub walk_last : false ≡ sees n f.tag → 4294967295 ≤ f.tag → record { seen = nothing; finds = c + 1 } ≡ goal
      walk_last s l =
          let p = own_split f h in
          let k : 4294967295 ≤ p.entry.tag = omega (arith, ap (λ (z : Found R). z.tag) p.is) in
          sym (cond-false _ _ _ (le-ltb p.entry.tag 4294967295 k)) ∙ sym (cond-false _ _ _ (at_entry ∙ sym s)) ∙ step

    pub walk_none : None ≡ found es n t → record { seen = nothing; finds = c + 1 } ≡ goal
    unfolding walk
    walk_none h = sym (ap (λ l. walk (λ e. sees e.number e.tag) l c) (own_empty h)) ∙ inv
