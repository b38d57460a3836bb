use Rattle.std.proofs.Common.{◌≡◌, ℕ, ◌^◌, ◌<◌, true, false, List, [], ◌∷◌, drop, is_some, Some, None, Option, sym, refl, ap, ◌∙◌, mod-eq_of_lt}
use native.Mathlib.Bridge.{le_prop}
use Rattle.std.specs.Option.{option_map}
use Rattle.keys.specs.Ext.{listing_ext, same_record}
use Rattle.keys.specs.declared.listing.Listing.{Listing}
use Rattle.keys.specs.declared.rows.ListingRow.{ListingRow}
use Rattle.text.specs.Parts.{first}
use Rattle.text.specs.Numbers.{decimal_of}
use Rattle.text.specs.Words.{Meant, word_of}
use Rattle.records.specs.Reading.{next_number, listing, row_from, row_read, row_parts, key_in, row_in, record_read, record_words}
use Rattle.records.specs.declared.record.Record.{Record}

-- numbers that fit are their own remainders
row_is : (r : ListingRow) → row_from r.price r.seats r.seller ≡ r
row_is r = listing_ext _ r (mod-eq_of_lt r.fits.0) (mod-eq_of_lt r.fits.1) (mod-eq_of_lt r.fits.2)

pub listing_is : (k : Listing) → listing k.id ≡ k
listing_is k = same_record (λ (n : ℕ). n < 2 ^ 64) (λ n p. record { id = n; fits = p }) (λ n p q. le_prop p q) (listing k.id).id k.id
    (listing k.id).fits k.fits (mod-eq_of_lt k.fits)

-- three numbers and no further part are a row
row_three : (ps : List (List ℕ)) (p s q : ℕ) → Some p ≡ next_number 4294967295 ps → Some s ≡ next_number 65535 (drop 1 ps)
    → Some q ≡ next_number 4294967295 (drop 1 (drop 1 ps))
    → false ≡ is_some (first (drop 1 (drop 1 (drop 1 ps)))) → Some (row_from p s q) ≡ row_parts ps
row_three [] p s q e f g h = absurd cc
row_three (a ∷ []) p s q e f g h = absurd cc
row_three (a ∷ (b ∷ [])) p s q e f g h = absurd cc
row_three (a ∷ (b ∷ (d ∷ []))) p s q e f g h =
    ap (λ x. row_read x (Some s) (Some q)) e ∙ ap (λ x. row_read (decimal_of 4294967295 a) x (Some q)) f
    ∙ ap (row_read (decimal_of 4294967295 a) (decimal_of 65535 b)) g
row_three (a ∷ (b ∷ (d ∷ (more ∷ others)))) p s q e f g h = absurd cc

-- the same as the reader has it, part by part
pub row_whole : (ps one two three : List (List ℕ)) (r : ListingRow) → Some r.price ≡ next_number 4294967295 ps → one ≡ drop 1 ps
    → Some r.seats ≡ next_number 65535 one → two ≡ drop 1 one
    → Some r.seller ≡ next_number 4294967295 two → three ≡ drop 1 two → false ≡ is_some (first three) → Some r ≡ row_parts ps
row_whole ps one two three r e d f d2 g d3 h =
    let d2' = d2 ∙ ap (drop 1) d in
    let d3' = d3 ∙ ap (drop 1) d2' in
    ap Some (sym (row_is r)) ∙ row_three ps r.price r.seats r.seller e (f ∙ ap (next_number 65535) d)
    (g ∙ ap (next_number 4294967295) d2') (h ∙ ap (λ x. is_some (first x)) d3')

pub mapped_some : {X Y : Type 0} (f : X → Y) (o : Option X) → is_some (option_map f o) ≡ is_some o
mapped_some f None = refl
mapped_some f (Some x) = refl

-- a key, a row and no further word are a record
record_two : (ws : List (List ℕ)) (k v : Meant) (n : ℕ) (r : ListingRow) → Some k ≡ option_map word_of (first ws)
    → Some v ≡ option_map word_of (first (drop 1 ws)) → false ≡ is_some (first (drop 1 (drop 1 ws)))
    → Some n ≡ key_in k → Some r ≡ row_in v → Some (record { key = listing n; row = r }) ≡ record_words ws
record_two [] k v n r e f h a b = absurd cc
record_two (x ∷ []) k v n r e f h a b = absurd cc
record_two (x ∷ (y ∷ [])) k v n r e f h a b =
    let p : k ≡ word_of x = cc in
    let q : v ≡ word_of y = cc in
    ap (λ z. record_read z (Some r)) (a ∙ ap key_in p) ∙ ap (record_read (key_in (word_of x))) (b ∙ ap row_in q)
record_two (x ∷ (y ∷ (more ∷ others))) k v n r e f h a b = absurd cc

pub record_whole : (ws one two : List (List ℕ)) (k v : Meant) (r : Record) → Some k ≡ option_map word_of (first ws) → one ≡ drop 1 ws
    → Some v ≡ option_map word_of (first one) → two ≡ drop 1 one
    → false ≡ is_some (first two) → Some r.key.id ≡ key_in k → Some r.row ≡ row_in v → Some r ≡ record_words ws
record_whole ws one two k v r e d f d2 h a b =
    ap (λ (z : Listing). Some (let w : Record = record { key = z; row = r.row } in w)) (sym (listing_is r.key))
    ∙ record_two ws k v r.key.id r.row e (f ∙ ap (λ x. option_map word_of (first x)) d) (h ∙ ap (λ x. is_some (first x)) (d2 ∙ ap (drop 1) d)) a b

-- a third word is one too many
record_three : (ws : List (List ℕ)) → true ≡ is_some (first (drop 1 (drop 1 ws))) → None ≡ record_words ws
record_three [] h = refl
record_three (x ∷ []) h = refl
record_three (x ∷ (y ∷ [])) h = absurd cc
record_three (x ∷ (y ∷ (more ∷ others))) h = refl

pub record_long : (ws one two : List (List ℕ)) → one ≡ drop 1 ws → two ≡ drop 1 one → true ≡ is_some (first two) → None ≡ record_words ws
record_long ws one two d d2 h = record_three ws (h ∙ ap (λ x. is_some (first x)) (d2 ∙ ap (drop 1) d))

-- whether the reader gave a word is whether there was one
pub same_some : {X Y Z : Type 0} (f : X → Z) (g : Y → Z) (o : Option X) (p : Option Y) → option_map f o ≡ option_map g p → is_some o ≡ is_some p
same_some f g o p e = sym (mapped_some f o) ∙ ap is_some e ∙ mapped_some g p
