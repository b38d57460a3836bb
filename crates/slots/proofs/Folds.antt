-- Lemmas on any, All, each, kept and first, over lists of any element.
use Rattle.std.proofs.Common.{◌≡◌, ℕ, Bool, true, false, cond, not, ◌&&◌, ◌||◌, List, [], ◌∷◌, ◌++◌, map, Some, None, refl, ap, ◌∙◌, subst, inl, inr, append_assoc, arith}
use Rattle.std.specs.List.{AllByRecursion as All}
use Rattle.std.proofs.lemmas.List.Elements.{filter-append}
use Rattle.std.proofs.ByRecursion.{All-append, All-weaker}
use Rattle.std.proofs.lemmas.Bool.{cases_Bool}
use Rattle.slots.specs.Lists.{first, any, at_first, kept, one, each}

-- any
pub any_append : {X : Type 0} (p : X → Bool) (xs ys : List X) → any p (xs ++ ys) ≡ (any p xs || any p ys)
unfolding any
any_append p [] ys = refl
any_append p (x ∷ xs) ys = let ih = any_append p xs ys in grind arith

pub any_same : {X : Type 0} (p q : X → Bool) (xs : List X) → All (λ x. p x ≡ q x) xs → any p xs ≡ any q xs
unfolding any
any_same p q [] h = refl
any_same p q (x ∷ xs) h = let ih = any_same p q xs h.1 in rw (h.0, ih)

pub none_all : {X : Type 0} (p : X → Bool) (xs : List X) → any p xs ≡ false → All (λ x. p x ≡ false) xs
unfolding any
none_all p [] h = tt
none_all p (x ∷ xs) h = (grind arith, none_all p xs (grind arith))

pub all_none : {X : Type 0} (p : X → Bool) (xs : List X) → All (λ x. p x ≡ false) xs → any p xs ≡ false
unfolding any
all_none p [] h = refl
all_none p (x ∷ xs) h = let ih = all_none p xs h.1 in rw (h.0, ih)

pub any_map : {X Y : Type 0} (p : Y → Bool) (f : X → Y) (xs : List X) → any p (map f xs) ≡ any (λ x. p (f x)) xs
unfolding any
any_map p f [] = refl
any_map p f (x ∷ xs) = let ih = any_map p f xs in rw ih

-- all
pub all_both : {X : Type 0} (P Q : X → Type 0) (xs : List X) → All P xs → All Q xs → All (λ x. P x × Q x) xs
all_both P Q [] h g = tt
all_both P Q (x ∷ xs) h g = ((h.0, g.0), all_both P Q xs h.1 g.1)

pub all_then : {X : Type 0} (P Q : X → Type 0) (xs : List X) → All P xs → ((x : X) → P x → Q x) → All Q xs
all_then P Q xs h f = All-weaker P Q f xs h

pub all_every : {X : Type 0} (Q : X → Type 0) (xs : List X) → ((x : X) → Q x) → All Q xs
all_every Q [] f = tt
all_every Q (x ∷ xs) f = (f x, all_every Q xs f)

pub all_front : {X : Type 0} (P : X → Type 0) (xs ys : List X) → All P (xs ++ ys) → All P xs
all_front P [] ys h = tt
all_front P (x ∷ xs) ys h = (h.0, all_front P xs ys h.1)

pub all_back : {X : Type 0} (P : X → Type 0) (xs ys : List X) → All P (xs ++ ys) → All P ys
all_back P [] ys h = h
all_back P (x ∷ xs) ys h = all_back P xs ys h.1

pub all_join : {X : Type 0} (P : X → Type 0) (xs ys : List X) → All P xs → All P ys → All P (xs ++ ys)
all_join P xs ys h g = All-append P xs ys h g

-- each
pub each_append : {X Y : Type 0} (f : X → List Y) (xs ys : List X) → each f (xs ++ ys) ≡ each f xs ++ each f ys
unfolding each
each_append f [] ys = refl
each_append f (x ∷ xs) ys = let ih = each_append f xs ys in rw (ih, append_assoc)

pub each_same : {X Y : Type 0} (f g : X → List Y) (xs : List X) → All (λ x. f x ≡ g x) xs → each f xs ≡ each g xs
unfolding each
each_same f g [] h = refl
each_same f g (x ∷ xs) h = let ih = each_same f g xs h.1 in rw (h.0, ih)

pub each_map : {X Y Z : Type 0} (f : Y → List Z) (g : X → Y) (xs : List X) → each f (map g xs) ≡ each (λ x. f (g x)) xs
unfolding each
each_map f g [] = refl
each_map f g (x ∷ xs) = let ih = each_map f g xs in rw ih

pub each_each : {X Y Z : Type 0} (f : Y → List Z) (g : X → List Y) (xs : List X) → each f (each g xs) ≡ each (λ x. each f (g x)) xs
unfolding each
each_each f g [] = refl
each_each f g (x ∷ xs) = let ih = each_each f g xs in each_append f (g x) (each g xs) ∙ ap (λ z. each f (g x) ++ z) ih

-- kept
pub kept_append : {X : Type 0} (p : X → Bool) (xs ys : List X) → kept p (xs ++ ys) ≡ kept p xs ++ kept p ys
unfolding kept
kept_append p xs ys = filter-append p xs ys

pub each_kept : {X Y : Type 0} (f : X → List Y) (p : X → Bool) (xs : List X) → each f (kept p xs) ≡ each (λ x. cond (p x) (f x) []) xs
unfolding each kept
each_kept f p [] = refl
each_kept f p (x ∷ xs) =
    let ih = each_kept f p xs in
    elim (cases_Bool (p x)) [ inl e ↦ rw e (ap (λ z. f x ++ z) ih) | inr e ↦ rw e ih ]

-- where the first that passes stands, and what an edit there leaves
pub record Spot {X : Type 0} (p : X → Bool) (xs : List X) (x : X) : Type 0 where
  pub pre : List X
  pub post : List X
  pub is : xs ≡ pre ++ (x ∷ post)
  pub passes : p x ≡ true
  pub before : All (λ y. p y ≡ false) pre
  pub edit : (f : X → List X) → at_first p f xs ≡ pre ++ (f x ++ post)

module _ {X : Type 0} (p : X → Bool) where
  unfoldable pub spot_here : (xs : List X) (x : X) → p x ≡ true → Spot p (x ∷ xs) x
  unfolding at_first
  spot_here xs x e = record { pre = []; post = xs; is = refl; passes = e; before = tt; edit = λ f. rw e }

  unfoldable pub spot_later : (xs : List X) (x y : X) → p y ≡ false → Spot p xs x → Spot p (y ∷ xs) x
  unfolding at_first
  spot_later xs x y e s = record {
    pre = y ∷ s.pre;
    post = s.post;
    is = ap (λ z. y ∷ z) s.is;
    passes = s.passes;
    before = (e, s.before);
    edit = λ f. rw e (ap (λ z. y ∷ z) (s.edit f));
  }

  pub spot : (xs : List X) (x : X) → first p xs ≡ Some x → Spot p xs x
  unfolding first
  spot [] x h = absurd (let z : ◌≡◌ {A = ℕ} 0 1 = cc in omega arith)
  spot (y ∷ xs) x h = elim (cases_Bool (p y)) [
    | inl e ↦ let same : y ≡ x = grind arith in subst (λ z. Spot p (y ∷ xs) z) same (spot_here xs y e)
    | inr e ↦ spot_later xs x y e (spot xs x (rw e at h))
  ]

pub first_none : {X : Type 0} (p : X → Bool) (xs : List X) → first p xs ≡ None → any p xs ≡ false
unfolding first any
first_none p [] h = refl
first_none p (y ∷ xs) h = let ih = first_none p xs in grind arith

-- where none passes there is nothing to edit
pub at_first_none : {X : Type 0} (p : X → Bool) (f : X → List X) (xs : List X) → first p xs ≡ None → at_first p f xs ≡ xs
unfolding first at_first
at_first_none p f [] h = refl
at_first_none p f (y ∷ xs) h = elim (cases_Bool (p y)) [
  | inl e ↦ absurd (let z : ◌≡◌ {A = ℕ} 0 1 = cc (rw e at h) in omega arith)
  | inr e ↦ rw e (ap (λ z. y ∷ z) (at_first_none p f xs (rw e at h)))
]

pub first_some : {X : Type 0} (p : X → Bool) (xs : List X) → any p xs ≡ true → (x : X) × (first p xs ≡ Some x)
unfolding first any
first_some p [] h = absurd (let z : ◌≡◌ {A = ℕ} 0 1 = cc in omega arith)
first_some p (y ∷ xs) h = elim (cases_Bool (p y)) [ inl e ↦ (y, rw e) | inr e ↦ let r = first_some p xs (rw e at h) in (r.0, rw e r.1) ]

pub any_each : {X Y : Type 0} (p : Y → Bool) (f : X → List Y) (xs : List X) → any p (each f xs) ≡ any (λ x. any p (f x)) xs
unfolding any each
any_each p f [] = refl
any_each p f (x ∷ xs) = any_append p (f x) (each f xs) ∙ ap (λ z. any p (f x) || z) (any_each p f xs)

pub all_each : {X Y : Type 0} (P : Y → Type 0) (f : X → List Y) (xs : List X) → All (λ x. All P (f x)) xs → All P (each f xs)
unfolding each
all_each P f [] a = tt
all_each P f (x ∷ xs) a = all_join P (f x) (each f xs) a.0 (all_each P f xs a.1)

pub any_unless : {X : Type 0} (p : X → Bool) (t : Bool) (x : X) → any p (cond t [] (one x)) ≡ (not t && p x)
unfolding any
any_unless p true x = refl
any_unless p false x = grind arith
