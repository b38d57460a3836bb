use Rattle.std.specs.Prelude.{◌≡◌, ℕ, ◌^◌, ◌<◌}
use Rattle.std.proofs.Common.{◌∙◌, ap, subst}
use Rattle.std.proofs.Math.Bridge.{le_prop}
use Rattle.keys.specs.declared.rows.ListingRow.{ListingRow}
use Rattle.keys.specs.declared.rows.Word32.{Word32}

-- A ghost field that is an order has one proof, so values with equal fields are equal.
pub same_record : {X Y : Type 0} (P : X → Type 0) (mk : (x : X) → P x → Y) → ((x : X) (p q : P x) → p ≡ q) → (x y : X) (p : P x) (q : P y) → x ≡ y → mk x p ≡ mk y q
same_record P mk prop x y p q e = subst (λ z. (q : P z) → mk x p ≡ mk z q) e (λ q. ap (mk x) (prop x p q)) q

pub word_ext : (a b : Word32) → a.value ≡ b.value → a ≡ b
word_ext a b e =
    same_record (λ (n : ℕ). n < 2 ^ 32) (λ n p. record { value = n; fits = p }) (λ n p q. le_prop p q) a.value b.value a.fits b.fits e

triple : {X Y Z : Type 0} (p q : X × Y × Z) → p.0 ≡ q.0 → p.1 ≡ q.1 → p.2 ≡ q.2 → p ≡ q
triple p q e f g = ap (λ x. (x, p.1, p.2)) e ∙ ap (λ y. (q.0, y, p.2)) f ∙ ap (λ z. (q.0, q.1, z)) g

pub listing_ext : (a b : ListingRow) → a.price ≡ b.price → a.seller ≡ b.seller → a.seats ≡ b.seats → a ≡ b
listing_ext a b e f g =
    same_record (λ (t : ℕ × ℕ × ℕ). (t.0 < 2 ^ 32) × (t.1 < 2 ^ 32) × (t.2 < 2 ^ 16)) (λ t p. record { price = t.0; seller = t.1; seats = t.2; fits = p })
    (λ t p q. triple p q (le_prop p.0 q.0) (le_prop p.1 q.1) (le_prop p.2 q.2))
    (a.price, a.seller, a.seats) (b.price, b.seller, b.seats) a.fits b.fits (triple _ _ e f g)

pub two_orders : {m n : ℕ} (t : ℕ × ℕ) (p q : (t.0 < m) × (t.1 < n)) → p ≡ q
two_orders t p q = ap (λ x. (x, p.1)) (le_prop p.0 q.0) ∙ ap (λ y. (q.0, y)) (le_prop p.1 q.1)
