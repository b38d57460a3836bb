-- The sorted table against its meaning.
use Rattle.std.proofs.Common.{◌≡◌, ℕ, suc, ◌<◌, ◌≤◌, Bool, true, false, cond, List, ◌∷◌, map, length, take, drop, Some, None, Ok, Err, Bor, sym, refl, ap, ◌∙◌, ⊎_elim, arith}
use Rattle.std.specs.List.{insert, remove}
use Rattle.std.specs.Slice.{IsItemAt}
use Rattle.std.proofs.lemmas.Bool.{cases_lt, both_ways}
use Rattle.std.proofs.lemmas.List.{map-append, take-map, drop-map, length-map}
use Rattle.std.proofs.lemmas.List.Sums.{prefix_len-le-length}
use Rattle.cold.specs.Lists.{rise, nth}
use Rattle.cold.specs.Cold.{Entry, below_by, before, in_order, is_of, is_there, put_in, removed_after}
use Rattle.cold.specs.Sorted.{meant, table, place, seat}
use Rattle.cold.specs.declared.sorted.Held.{Held}
use Rattle.cold.proofs.Lists.{nth_map, nth_at, nth_past, rise_map}
use Rattle.cold.proofs.Places.{there_at, removed_at}
use Rattle.cold.proofs.PutIn.{put_in_is}

inserted_map : {X Y : Type 0} (f : X → Y) (xs : List X) (i : ℕ) (x : X) → map f (insert xs i x) ≡ insert (map f xs) i (f x)
inserted_map f xs i x = map-append f (take i xs) (x ∷ drop i xs) ∙ rw (take-map f i xs, drop-map f i xs) refl

removed_map : {X Y : Type 0} (f : X → Y) (xs : List X) (i : ℕ) → map f (remove xs i) ≡ remove (map f xs) i
removed_map f xs i = map-append f (take i xs) (drop (suc i) xs) ∙ rw (take-map f i xs, drop-map f (suc i) xs) refl

module _ {K R : Type 0} (number : K → ℕ) (xs : List (Held K R)) where
  pub ordered : in_order (table number xs) ≡ true → rise (λ y z. below_by (number y.key) y.tag (number z.key) z.tag) xs ≡ true
  ordered h = sym (rise_map (meant number) before xs) ∙ h

  -- what a `get` reads, in the table's meaning
  pub read_some : {Y : Type 0} (ys : List (Held K R)) (i : ℕ) (n : Y) (f : Entry R → Y) (h : Bor (Held K R)) → ys ≡ xs → IsItemAt ys i (Some h)
      → f (meant number h.now) ≡ nth (table number xs) i n f
  read_some ys i n f h e r =
      ap (λ y. f (meant number y)) r.1 ∙ sym (nth_at ys i n (λ y. f (meant number y)) h.now r.3.0)
      ∙ ap (λ zs. nth zs i n (λ y. f (meant number y))) e ∙ sym (nth_map (meant number) xs i n f)

  pub read_none : {Y : Type 0} (ys : List (Held K R)) (i : ℕ) (n : Y) (f : Entry R → Y) → ys ≡ xs → IsItemAt ys i None
      → n ≡ nth (table number xs) i n f
  read_none ys i n f e r =
      sym (nth_past ys i n (λ y. f (meant number y)) r.3)
      ∙ ap (λ zs. nth zs i n (λ y. f (meant number y))) e ∙ sym (nth_map (meant number) xs i n f)

  module _ (n t at : ℕ) where
    -- the test at the place tells what is there
    pub seated : (b : Bool) → in_order (table number xs) ≡ true → at ≡ place n t (table number xs) → b ≡ nth (table number xs) at false (is_of n t)
        → cond b (Ok at) (Err at) ≡ seat n t (table number xs)
    seated b o is e =
        let z : is_there n t (table number xs) ≡ b = sym (there_at n t (table number xs) o)
        ∙ ap (λ i. nth (table number xs) i false (is_of n t)) (sym is) ∙ sym e in
        ap (λ i. cond b (Ok i) (Err i)) is
        ∙ ap (λ q. cond q (Ok (place n t (table number xs))) (Err (place n t (table number xs)))) (sym z)

    -- what a seat tells
    pub seat_ok : Ok at ≡ seat n t (table number xs) → (is_there n t (table number xs) ≡ true) × (at ≡ place n t (table number xs))
    seat_ok e = go (is_there n t (table number xs)) refl e
      where
        go : (b : Bool) → is_there n t (table number xs) ≡ b → Ok at ≡ cond b (Ok (place n t (table number xs))) (Err (place n t (table number xs)))
            → (is_there n t (table number xs) ≡ true) × (at ≡ place n t (table number xs))
        go true h e = (h, let z : at ≡ place n t (table number xs) = cc in z)
        go false h e = absurd (let z : ⊥ = cc in z)

    pub seat_err : Err at ≡ seat n t (table number xs) → (is_there n t (table number xs) ≡ false) × (at ≡ place n t (table number xs))
    seat_err e = go (is_there n t (table number xs)) refl e
      where
        go : (b : Bool) → is_there n t (table number xs) ≡ b → Err at ≡ cond b (Ok (place n t (table number xs))) (Err (place n t (table number xs)))
            → (is_there n t (table number xs) ≡ false) × (at ≡ place n t (table number xs))
        go true h e = absurd (let z : ⊥ = cc in z)
        go false h e = (h, let z : at ≡ place n t (table number xs) = cc in z)

    pub seat_within : at ≡ place n t (table number xs) → at ≤ length xs
    seat_within e =
        let l = length-map xs (meant number) in
        let p = prefix_len-le-length (λ d. below_by d.number d.tag n t) (table number xs) in
        omega (arith, e)

    -- what is there stands at a place of the table
    pub seat_below : in_order (table number xs) ≡ true → at ≡ place n t (table number xs) → is_there n t (table number xs) ≡ true → at < length xs
    seat_below o is e =
        let l = length-map xs (meant number) in
        ⊎_elim (λ (h : at < length xs). h)
        (λ (h : length xs ≤ at). absurd (both_ways false refl (sym (nth_past (table number xs) at false (is_of n t) (omega arith))
        ∙ ap (λ i. nth (table number xs) i false (is_of n t)) is ∙ there_at n t (table number xs) o ∙ e)))
        (cases_lt at (length xs))

    pub inserts : (h : Held K R) → number h.key ≡ n → h.tag ≡ t → at ≡ place n t (table number xs)
        → table number (insert xs at h) ≡ put_in (meant number h) (table number xs)
    inserts h e f is =
        inserted_map (meant number) xs at h
        ∙ ap (λ i. insert (table number xs) i (meant number h))
        (is ∙ ap (λ m. place m t (table number xs)) (sym e) ∙ ap (λ s. place (number h.key) s (table number xs)) (sym f))
        ∙ put_in_is (meant number h) (table number xs)

    pub removes : in_order (table number xs) ≡ true → at ≡ place n t (table number xs) → is_there n t (table number xs) ≡ true
        → table number (remove xs at) ≡ removed_after (table number xs) n t
    removes o is e = removed_map (meant number) xs at ∙ ap (remove (table number xs)) is ∙ removed_at n t (table number xs) o e
