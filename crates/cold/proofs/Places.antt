-- The place of a key number and tag in a list that is in order, and what stands there.
use Rattle.std.proofs.Common.{◌≡◌, ℕ, ◌+◌, ◌<◌, ◌≤◌, Bool, true, false, cond, not, ◌||◌, eqb, leb, List, [], ◌∷◌, length, get_or, Some, None, Option, sym, refl, ap, ◌∙◌, ⊎_elim, arith}
use Rattle.std.specs.List.{remove, prefix_len}
use Rattle.std.specs.List.Sorted.{IsPartitionedBy, IsPartitionPoint}
use Rattle.std.proofs.lemmas.List.Sums.{prefix_len_is}
use Rattle.std.proofs.Math.Numerals.{one-add}
use Rattle.std.proofs.lemmas.Bool.{and_parts, both_ways, cases_lt, cond-true, cond-false}
use Rattle.std.proofs.lemmas.Bool.Decides.{nat_tests}
use Rattle.cold.specs.Lists.{all, any, rise, nth}
use Rattle.cold.specs.Cold.{Entry, below_by, before, in_order, is_of, is_there, put_in, removed_after, is_own, own, told, first_of, found}
use Rattle.cold.specs.Sorted.{place, of_key}
use Rattle.cold.specs.declared.store.Found.{Found}
use Rattle.cold.proofs.Lists.{all_none, kept_none, rise_pair}
use Rattle.cold.proofs.PutIn.{removed_none}

-- the first element that does not pass, by recursion
unfoldable pub seek : {X Y : Type 0} → (X → Bool) → Y → (X → Y) → List X → Y
seek p d f [] = d
seek p d f (x ∷ xs) = cond (p x) (seek p d f xs) (f x)

nth_prefix : {X Y : Type 0} (p : X → Bool) (d : Y) (f : X → Y) (xs : List X) → nth xs (prefix_len p xs) d f ≡ seek p d f xs
unfolding seek nth
nth_prefix p d f [] = refl
nth_prefix p d f (x ∷ xs) = go (p x) (nth_prefix p d f xs)
  where
    go : (t : Bool) → nth xs (prefix_len p xs) d f ≡ seek p d f xs → nth (x ∷ xs) (cond t (1 + prefix_len p xs) 0) d f ≡ cond t (seek p d f xs) (f x)
    go true i = rw one-add i
    go false i = refl

pub below_trans : (a s b t c u : ℕ) → below_by a s b t ≡ true → below_by b t c u ≡ true → below_by a s c u ≡ true
below_trans a s b t c u e f = grind (arith, nat_tests)

-- the better answer of an entry and what was found so far
module _ {R : Type 0} where
  abbrev closer : Entry R → Option (Found R) → Option (Found R)
  closer e None = Some (told e)
  closer e (Some f) = cond (leb e.tag f.tag) (Some (told e)) (Some f)

  abbrev pub nearer : ℕ → ℕ → Option (Entry R) → Option (Found R) → Option (Found R)
  nearer n t None f = f
  nearer n t (Some e) f = cond (is_own n t e) (closer e f) f

module _ {R : Type 0} (n t : ℕ) where
  abbrev low : Entry R → Bool
  low x = below_by x.number x.tag n t

  -- what a find reads at the place
  abbrev pub found_by : List (Entry R) → Option (Found R)
  found_by es = nth es (place n t es) None (of_key n)

  -- what is there stands at its place
  seek_there : (es : List (Entry R)) → in_order es ≡ true → seek low false (is_of n t) es ≡ is_there n t es
  unfolding seek any rise
  seek_there [] o = refl
  seek_there (x ∷ xs) o = let a = and_parts (all (before x) xs) (in_order xs) o in go (low x) (is_of n t x) refl refl a.0 (seek_there xs a.1)
    where
      go : (b q : Bool) → low x ≡ b → is_of n t x ≡ q → all (before x) xs ≡ true → seek low false (is_of n t) xs ≡ is_there n t xs
          → cond b (seek low false (is_of n t) xs) (is_of n t x) ≡ (q || is_there n t xs)
      go true true f g al i = absurd (let z : ⊥ = grind (arith, nat_tests) in z)
      go true false f g al i = i
      go false true f g al i = g
      go false false f g al i = g ∙ sym (all_none (before x) (is_of n t) xs al (λ y w. grind (arith, nat_tests)))

  pub there_at : (es : List (Entry R)) → in_order es ≡ true → nth es (place n t es) false (is_of n t) ≡ is_there n t es
  there_at es o = nth_prefix low false (is_of n t) es ∙ seek_there es o

  -- and the key's first own entry too
  seek_own : (es : List (Entry R)) → in_order es ≡ true → seek low None (of_key n) es ≡ found es n t
  unfolding seek rise
  seek_own [] o = refl
  seek_own (x ∷ xs) o = let a = and_parts (all (before x) xs) (in_order xs) o in go (low x) (eqb x.number n) refl refl a.0 (seek_own xs a.1)
    where
      go : (b q : Bool) → low x ≡ b → eqb x.number n ≡ q → all (before x) xs ≡ true → seek low None (of_key n) xs ≡ found xs n t
          → cond b (seek low None (of_key n) xs) (cond q (Some (told x)) None) ≡ first_of (cond (is_own n t x) (x ∷ own n t xs) (own n t xs))
      go true q h k al i =
          let z : is_own n t x ≡ false = grind (arith, nat_tests) in
          i ∙ ap first_of (sym (cond-false _ (x ∷ own n t xs) _ z))
      go false true h k al i =
          let z : is_own n t x ≡ true = grind (arith, nat_tests) in
          ap first_of (sym (cond-true _ (x ∷ own n t xs) _ z))
      go false false h k al i =
          let z : is_own n t x ≡ false = grind (arith, nat_tests) in
          let w : own n t xs ≡ [] = kept_none (before x) (is_own n t) xs al (λ y s. grind (arith, nat_tests)) in
          ap first_of (sym (cond-false _ (x ∷ own n t xs) _ z ∙ w))

  pub found_at : (es : List (Entry R)) → in_order es ≡ true → found_by es ≡ found es n t
  found_at es o = nth_prefix low None (of_key n) es ∙ seek_own es o

  -- what is there is taken out at its place
  pub removed_at : (es : List (Entry R)) → in_order es ≡ true → is_there n t es ≡ true → remove es (place n t es) ≡ removed_after es n t
  unfolding any rise
  removed_at [] o h = absurd (both_ways false refl h)
  removed_at (x ∷ xs) o h =
      let a = and_parts (all (before x) xs) (in_order xs) o in go (low x) (is_of n t x) refl refl a.0 h (removed_at xs a.1)
    where
      go : (b q : Bool) → low x ≡ b → is_of n t x ≡ q → all (before x) xs ≡ true → (q || is_there n t xs) ≡ true
          → (is_there n t xs ≡ true → remove xs (place n t xs) ≡ removed_after xs n t)
          → remove (x ∷ xs) (cond b (1 + place n t xs) 0) ≡ cond (not q) (x ∷ removed_after xs n t) (removed_after xs n t)
      go true true f g al h i = absurd (let z : ⊥ = grind (arith, nat_tests) in z)
      go true false f g al h i = rw one-add (ap (λ ys. x ∷ ys) (i h))
      go false true f g al h i = sym (removed_none n t xs (all_none (before x) (is_of n t) xs al (λ y w. grind (arith, nat_tests))))
      go false false f g al h i = absurd (both_ways (is_there n t xs) (all_none (before x) (is_of n t) xs al (λ y w. grind (arith, nat_tests))) h)

  -- what is found after one went in, in any order
  seek_found : (e : Entry R) (es : List (Entry R)) → seek low None (of_key n) (put_in e es) ≡ nearer n t (Some e) (seek low None (of_key n) es)
  unfolding seek put_in
  seek_found e [] = grind (arith, nat_tests)
  seek_found e (x ∷ xs) = go (before x e) refl (seek_found e xs)
    where
      pass : (s : Option (Found R)) (l q : Bool) → low x ≡ l → eqb x.number n ≡ q → before x e ≡ true
          → cond l (nearer n t (Some e) s) (cond q (Some (told x)) None) ≡ nearer n t (Some e) (cond l s (cond q (Some (told x)) None))
      pass s true q f g h = refl
      pass s false true f g h = grind (arith, nat_tests)
      pass s false false f g h = grind (arith, nat_tests)

      stop : (s : Option (Found R)) (l q : Bool) → low x ≡ l → eqb x.number n ≡ q → before x e ≡ false
          → cond (low e) (cond l s (cond q (Some (told x)) None)) (of_key n e) ≡ nearer n t (Some e) (cond l s (cond q (Some (told x)) None))
      stop s true q f g h = grind (arith, nat_tests)
      stop s false true f g h = grind (arith, nat_tests)
      stop s false false f g h = grind (arith, nat_tests)

      go : (b : Bool) → before x e ≡ b → seek low None (of_key n) (put_in e xs) ≡ nearer n t (Some e) (seek low None (of_key n) xs)
          → seek low None (of_key n) (cond b (x ∷ put_in e xs) (e ∷ (x ∷ xs))) ≡ nearer n t (Some e)
          (cond (low x) (seek low None (of_key n) xs) (of_key n x))
      go true h i = rw i (pass (seek low None (of_key n) xs) (low x) (eqb x.number n) refl refl h)
      go false h i = stop (seek low None (of_key n) xs) (low x) (eqb x.number n) refl refl h

  pub found_put_in : (e : Entry R) (es : List (Entry R)) → found_by (put_in e es) ≡ nearer n t (Some e) (found_by es)
  found_put_in e es = nth_prefix low None (of_key n) (put_in e es) ∙ seek_found e es
      ∙ ap (nearer n t (Some e)) (sym (nth_prefix low None (of_key n) es))

-- a table in order is parted by what comes before a key number and tag
pub parted : {X : Type 0} (num tag : X → ℕ) (n t : ℕ) (xs : List X) → rise (λ y z. below_by (num y) (tag y) (num z) (tag z)) xs ≡ true
    → IsPartitionedBy (λ y. below_by (num y) (tag y) n t) xs
parted num tag n t xs s i j d h l e =
    ⊎_elim
    (λ (f : i < j). below_trans (num (get_or xs i d)) (tag (get_or xs i d)) (num (get_or xs j d)) (tag (get_or xs j d)) n t
    (rise_pair (λ y z. below_by (num y) (tag y) (num z) (tag z)) xs i j d s f l) e)
    (λ (f : j ≤ i). let z : i ≡ j = omega arith in rw z e)
    (cases_lt i j)

pub parted_at : {X : Type 0} (p : X → Bool) (xs : List X) (r : ℕ) → r ≤ length xs → IsPartitionPoint (λ y. p y ≡ true) (λ y. p y ≡ false) xs r
    → r ≡ prefix_len p xs
parted_at p [] r h e = omega arith
parted_at p (x ∷ xs) r h e = sym (prefix_len_is p (x ∷ xs) r x h (λ k l. e.0 k x (omega arith) l) (λ l. e.1 r x (omega arith) l))
