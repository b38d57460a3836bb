-- The loops over the records: each keeps that what is done, with what the records that are left add, is the whole.
use Rattle.std.proofs.Common.{◌≡◌, ℕ, ◌+◌, ◌<◌, ◌≤◌, Bool, true, false, cond, List, [], ◌∷◌, ◌++◌, length, get_or, take, drop, is_ok, Option, sym, refl, ap, ◌∙◌, append_assoc, arith}
use mir.Val.{bool_byte}
use Rattle.std.proofs.lemmas.List.{at_drop_more, at_drop_all, take_more, take_all, append-nil}
use Rattle.std.proofs.lemmas.Bool.{and_parts, and_from}
use Rattle.keys.specs.declared.rows.ListingRow.{ListingRow}
use Rattle.cold.specs.Lists.{all}
use Rattle.cold.specs.Cold.{Entry, put_answer, put_after}
use Rattle.cold.proofs.Lists.{all_more}
use Rattle.records.specs.declared.record.Record.{Record}
use Rattle.loading.specs.Loading.{loaded, served, row_behind}
use Rattle.loading.specs.Text.{find_text}
use Rattle.loading.specs.Report.{finds_text}

-- the element that a loop is at, and those after it
at_next : {X Y : Type 0} (F : List X → Y) (xs : List X) (i : ℕ) (x : X) → i < length xs → x ≡ get_or xs i x → F (drop i xs) ≡ F (x ∷ drop (i + 1) xs)
at_next F xs i x lt e = at_drop_more F xs i x lt ∙ ap (λ z. F (z ∷ drop (i + 1) xs)) (sym e)

-- all elements so far pass
all_push : {X : Type 0} (p : X → Bool) (xs : List X) (y : X) → all p xs ≡ true → p y ≡ true → all p (xs ++ (y ∷ [])) ≡ true
unfolding all
all_push p [] y h e = and_from (p y) true e refl
all_push p (x ∷ xs) y h e =
    let a = and_parts (p x) (all p xs) h in and_from (p x) (all p (xs ++ (y ∷ []))) a.0 (all_push p xs y a.1 e)

pub front_none : {X : Type 0} (p : X → Bool) (xs : List X) → all p (take 0 xs) ≡ true
unfolding all
front_none p xs = refl

module _ {X : Type 0} (p : X → Bool) (xs : List X) (i : ℕ) where
  pub front_more : (q : X → Bool) (x : X) → i < length xs → x ≡ get_or xs i x → all p (take i xs) ≡ true → ((z : X) → p z ≡ true → q z ≡ true)
      → q x ≡ true → all q (take (i + 1) xs) ≡ true
  front_more q x lt e h f k =
      ap (all q) (take_more xs i x lt ∙ ap (λ z. take i xs ++ (z ∷ [])) (sym e)) ∙ all_push q (take i xs) x (all_more p q (take i xs) h f) k

  pub front_all : length xs ≤ i → all p (take i xs) ≡ true → all p xs ≡ true
  front_all le h = ap (all p) (sym (take_all i xs le)) ∙ h

-- puts
module _ (limit : ℕ) (rs : List Record) (i t count : ℕ) (es : List (Entry ListingRow)) {goal : List (Entry ListingRow)} {total : ℕ} where
  pub load_more : (x : Record) (new : List (Entry ListingRow)) (most bit : ℕ) (ok : Bool) → i < length rs → x ≡ get_or rs i x → most ≡ limit
      → new ≡ put_after most es x.key.id t x.row → ok ≡ is_ok (put_answer most es x.key.id t) → bit ≡ bool_byte ok
      → loaded limit es t (drop i rs) ≡ goal → count + served limit es t (drop i rs) ≡ total
      → (loaded limit new (t + 1) (drop (i + 1) rs) ≡ goal) × ((count + bit) + served limit new (t + 1) (drop (i + 1) rs) ≡ total)
  unfolding loaded served
  load_more x new most bit ok lt e el en eo eb h k =
      let rest = drop (i + 1) rs in
      let en' : new ≡ put_after limit es x.key.id t x.row = en ∙ ap (λ m. put_after m es x.key.id t x.row) el in
      let eo' : ok ≡ is_ok (put_answer limit es x.key.id t) = eo ∙ ap (λ m. is_ok (put_answer m es x.key.id t)) el in
      let s = at_next (served limit es t) rs i x lt e in
      let b : bit ≡ cond (is_ok (put_answer limit es x.key.id t)) 1 0 = eb ∙ byte_is ok ∙ ap (λ z. cond z 1 0) eo' in (
        ap (λ z. loaded limit z (t + 1) rest) en' ∙ sym (at_next (loaded limit es t) rs i x lt e) ∙ h,
        omega (arith, s, b, ap (λ z. served limit z (t + 1) rest) en', k),
      )
    where
      byte_is : (b : Bool) → bool_byte b ≡ cond b 1 0
      byte_is true = refl
      byte_is false = refl

  pub load_done : length rs ≤ i → loaded limit es t (drop i rs) ≡ goal → count + served limit es t (drop i rs) ≡ total → (es ≡ goal) × (count ≡ total)
  unfolding loaded served
  load_done le h k =
      let s = at_drop_all (served limit es t) rs i le in (
        sym (at_drop_all (loaded limit es t) rs i le) ∙ h,
        omega (arith, s, k),
      )

-- finds
module _ (f : ℕ → Bool) (ss : List (Entry ListingRow)) (g : ℕ → Bool) (bs : List (Entry ListingRow)) (rs : List Record) (i : ℕ) (out : List ℕ)
    {goal : List ℕ} where
  pub finds_more : (x : Record) (p q : Option ListingRow) (new : List ℕ) → i < length rs → x ≡ get_or rs i x
      → p ≡ row_behind (f x.key.id) ss x.key.id → q ≡ row_behind (g x.key.id) bs x.key.id
      → new ≡ out ++ find_text x.key.id p q
      → out ++ finds_text f ss g bs (drop i rs) ≡ goal → new ++ finds_text f ss g bs (drop (i + 1) rs) ≡ goal
  unfolding finds_text
  finds_more x p q new lt e ep eq en h =
      let rest = finds_text f ss g bs (drop (i + 1) rs) in
      let n = x.key.id in
      ap (λ z. z ++ rest) (en ∙ ap (λ z. out ++ find_text n z q) ep ∙ ap (λ z. out ++ find_text n (row_behind (f n) ss n) z) eq)
      ∙ append_assoc out _ rest ∙ ap (λ z. out ++ z) (sym (at_next (finds_text f ss g bs) rs i x lt e)) ∙ h

  pub finds_done : length rs ≤ i → out ++ finds_text f ss g bs (drop i rs) ≡ goal → out ≡ goal
  unfolding finds_text
  finds_done le h = sym (append-nil out) ∙ ap (λ z. out ++ z) (sym (at_drop_all (finds_text f ss g bs) rs i le)) ∙ h
