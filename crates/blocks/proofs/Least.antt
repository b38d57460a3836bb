-- The least of the elements that pass a test, by the runs of a chain over references to them.
use Rattle.std.proofs.Common.{◌≡◌, ℕ, zero, suc, ◌<◌, ◌≤◌, Bool, true, false, cond, List, [], ◌∷◌, map, length, get_or, filter, Some, None, Option, Bor, refl, subst, arith}
use Rattle.std.specs.Iterator.Runs.{Run, AllItems}
use Rattle.std.specs.List.{All}
use Rattle.std.specs.Option.{MatchOption, IfSome, option_map}
use Rattle.std.specs.Ordering.{is_lt, nat_cmp}

pub if_some : {X : Type 0} (o : Option X) (P : Type 0) (Q R : X → Type 0) → MatchOption o P Q → ((x : X) → Q x → R x) → IfSome o R
if_some None P Q R m f = tt
if_some (Some x) P Q R m f = f x m

-- what holds of each element that is kept holds of each that passes
each_passing : {X : Type 0} (p : X → Bool) (P : X → Type 0) (xs : List X) → ((k : ℕ) (d : X) → k < length (filter p xs) → P (get_or (filter p xs) k d))
    → (k : ℕ) (d : X) → k < length xs → p (get_or xs k d) ≡ true → P (get_or xs k d)
each_passing p P [] h k d l e = absurd (let z : ⊥ = omega arith in z)
each_passing {X = X} p P (x ∷ xs) h k d l e = go (p x) refl k l e h (λ f j. each_passing p P xs f j d)
  where
    go : (b : Bool) → p x ≡ b → (k : ℕ) → k < length (x ∷ xs) → p (get_or (x ∷ xs) k d) ≡ true
        → ((k : ℕ) (d : X) → k < length (cond b (x ∷ filter p xs) (filter p xs)) → P (get_or (cond b (x ∷ filter p xs) (filter p xs)) k d))
        → (((k : ℕ) (d : X) → k < length (filter p xs) → P (get_or (filter p xs) k d)) → (j : ℕ) → j < length xs → p (get_or xs j d) ≡ true → P (get_or xs j d))
        → P (get_or (x ∷ xs) k d)
    go true f zero l e h i = h 0 d (omega arith)
    go true f (suc k) l e h i = i (λ j c m. h (suc j) c (omega arith)) k (omega arith) e
    go false f zero l e h i = absurd (let z : ⊥ = cc in z)
    go false f (suc k) l e h i = i h k (omega arith) e

-- and so it does of what the references point to
each_read : {X : Type 0} (P : X → Type 0) (bs : List (Bor X)) → ((k : ℕ) (d : Bor X) → k < length bs → P (get_or bs k d).now)
    → (k : ℕ) (d : X) → k < length (map (λ b. b.now) bs) → P (get_or (map (λ b. b.now) bs) k d)
each_read P [] h k d l = absurd (let z : ⊥ = omega arith in z)
each_read P (b ∷ bs) h zero d l = h 0 b (omega arith)
each_read P (b ∷ bs) h (suc k) d l = each_read P bs (λ j c m. h (suc j) c (omega arith)) k d (omega arith)

-- what holds of each item of a run that kept what passes holds of each element that passes
pub each_own : {S T X : Type 0} {steps : S → Option (Bor X) → S → Type 0} {source : T → Option (Bor X) → T → Type 0} (own : X → Bool) (P : X → Type 0)
    (p : Run steps) (q : Run source) (bs : List X) → p.items ≡ filter (λ b. own b.now) q.items → map (λ b. b.now) q.items ≡ bs
    → AllItems p (λ b. P b.now) → All (λ x. own x ≡ true → P x) bs
each_own {X = X} own P p q bs e f h =
    let held : (k : ℕ) (d : Bor X) → k < length p.items → P (get_or p.items k d).now = λ k d l. at_some (p.at k) (get_or p.items k d) (p.reads k d (omega (arith, l, p.long))) (h k) in
    let all = each_passing (λ b. own b.now) (λ b. P b.now) q.items (subst (λ xs. (k : ℕ) (d : Bor X) → k < length xs → P (get_or xs k d).now) e held) in
    subst (All (λ x. own x ≡ true → P x)) f (each_read (λ x. own x ≡ true → P x) q.items all)
  where
    at_some : (o : Option (Bor X)) (x : Bor X) → option_map (λ y. y) o ≡ Some x → IfSome o (λ b. P b.now) → P x.now
    at_some None x e h = absurd (let z : ⊥ = cc in z)
    at_some (Some y) x e h = let z : y ≡ x = cc in subst (λ (b : Bor X). P b.now) z h

pub not_below : (j k a b : ℕ) → is_lt (nat_cmp j k) ≡ false → j ≡ b → k ≡ a → a ≤ b
not_below j k a b h e f = grind arith
