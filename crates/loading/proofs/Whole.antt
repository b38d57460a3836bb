-- The text of an archive, put together.
use Rattle.std.proofs.Common.{◌≡◌, ℕ, zero, suc, ◌+◌, ◌-◌, ◌^◌, ◌<◌, ◌≤◌, Bool, true, ltb, List, [], ◌∷◌, ◌++◌, length, get_or, Some, None, Ok, Err, Option, sym, refl, ap, ◌∙◌, append_assoc, arith}
use Rattle.std.specs.Option.{SomeIff}
use Rattle.std.proofs.lemmas.List.{append-nil}
use Rattle.std.proofs.lemmas.Bool.{and_parts, cond-true, cond-false}
use Rattle.std.proofs.lemmas.Bool.Decides.{nat_tests}
use Rattle.keys.specs.declared.rows.ListingRow.{ListingRow}
use Rattle.cold.specs.Lists.{all}
use Rattle.cold.specs.Cold.{Entry}
use Rattle.records.specs.Writing.{entry_text, entries_text, count_good, summary_text}
use Rattle.records.specs.Entries as line
use Rattle.records.specs.declared.record.Record.{Record}
use Rattle.loading.proofs.Texts.{before}
use Rattle.loading.specs.Loading.{loaded, served, first_row, row_behind}
use Rattle.loading.specs.Text.{same_rows, find_text, loaded_text}
use Rattle.loading.specs.Report.{
  good,
  goods,
  number_after,
  next_number,
  finds_text,
  next_text,
  loads_text,
  agree_text,
  agrees_text,
  alike_text,
  report_of,
}

-- an archive on its way: what is written and kept, with what the entries that are left add, is the whole
module _ (out : List ℕ) (rs : List Record) {text : List ℕ} {total : List Record} where
  pub read_more : (es rest : List line.Entry) (e : line.Entry) (new : List ℕ) (more : List Record) → es ≡ e ∷ rest
      → new ≡ out ++ entry_text e → more ≡ rs ++ good e
      → (out ++ entries_text es ≡ text) × (rs ++ goods es ≡ total) → (new ++ entries_text rest ≡ text) × (more ++ goods rest ≡ total)
  unfolding entries_text goods
  read_more es rest e new more s f k inv = (
    ap (λ z. z ++ entries_text rest) f ∙ append_assoc out (entry_text e) (entries_text rest)
        ∙ ap (λ z. out ++ entries_text z) (sym s) ∙ inv.0,
    ap (λ z. z ++ goods rest) k ∙ append_assoc rs (good e) (goods rest) ∙ ap (λ z. rs ++ goods z) (sym s) ∙ inv.1,
  )

  pub read_done : (es : List line.Entry) → es ≡ [] → (out ++ entries_text es ≡ text) × (rs ++ goods es ≡ total) → (out ≡ text) × (rs ≡ total)
  unfolding entries_text goods
  read_done es s inv = (
    sym (append-nil out) ∙ ap (λ z. out ++ entries_text z) (sym s) ∙ inv.0,
    sym (append-nil rs) ∙ ap (λ z. rs ++ goods z) (sym s) ∙ inv.1,
  )

pub length_goods : (es : List line.Entry) → length (goods es) ≡ count_good es
unfolding goods count_good
length_goods [] = refl
length_goods (Ok r ∷ es) = omega (arith, length_goods es)
length_goods (Err b ∷ es) = omega (arith, length_goods es)

-- the number after the last
pub next_none : (rs : List Record) → length rs ≤ 0 → Some 0 ≡ next_number rs
unfolding next_number
next_none [] h = refl
next_none (r ∷ rs) h = absurd (omega arith)

next_at : (rs : List Record) (i : ℕ) (x : Record) → length rs ≡ suc i → x ≡ get_or rs i x → number_after x.key.id ≡ next_number rs
unfolding next_number
next_at [] i x l e = absurd (omega arith)
next_at (r ∷ []) zero x l e = ap (λ (z : Record). number_after z.key.id) e
next_at (r ∷ []) (suc i) x l e = absurd (omega arith)
next_at (r ∷ (s ∷ rs)) zero x l e = absurd (omega arith)
next_at (r ∷ (s ∷ rs)) (suc i) x l e = next_at (s ∷ rs) i x (omega arith) e

after_is : (r : Option ℕ) (n : ℕ) → SomeIff r (n + 1 < 2 ^ 64) (n + 1) → r ≡ number_after n
after_is None n h = sym (cond-false (ltb (n + 1) (2 ^ 64)) (Some (n + 1)) None (grind (arith, nat_tests)))
after_is (Some x) n h = ap Some h.1 ∙ sym (cond-true (ltb (n + 1) (2 ^ 64)) (Some (n + 1)) None (grind (arith, nat_tests)))

pub next_last : (rs : List Record) (x : Record) (r : Option ℕ) → 0 < length rs → x ≡ get_or rs (length rs - 1) x
    → SomeIff r (x.key.id + 1 < 2 ^ 64) (x.key.id + 1) → r ≡ next_number rs
next_last rs x r lt e h = after_is r x.key.id h ∙ next_at rs (length rs - 1) x (omega arith) e

-- both loads, put together
module _ (f g : ℕ → Bool) (m n : ℕ) (ss bs : List (Entry ListingRow)) (rs : List Record) where
  pub loads_appended : (ss' bs' : List (Entry ListingRow)) (x y : ℕ) (o a b new : List ℕ) → ss' ≡ loaded m ss 1 rs → bs' ≡ loaded n bs 1 rs
      → x ≡ served m ss 1 rs → y ≡ served n bs 1 rs
      → a ≡ o ++ finds_text f ss' g bs' rs → b ≡ a ++ loaded_text x y → new ≡ b ++ next_text f ss' g bs' (next_number rs)
      → new ≡ o ++ loads_text f g m ss n bs rs
  loads_appended ss' bs' x y o a b new es eb ex ey ea ec en =
      let whole : List (Entry ListingRow) → List (Entry ListingRow) → ℕ → ℕ → List ℕ =
      λ s t p q. finds_text f s g t rs ++ (loaded_text p q ++ next_text f s g t (next_number rs)) in
      before o (finds_text f ss' g bs' rs) a _ new ea (before a (loaded_text x y) b (next_text f ss' g bs' (next_number rs)) new ec en)
      ∙ ap (λ z. o ++ whole z bs' x y) es ∙ ap (λ z. o ++ whole (loaded m ss 1 rs) z x y) eb
      ∙ ap (λ z. o ++ whole (loaded m ss 1 rs) (loaded n bs 1 rs) z y) ex
      ∙ ap (λ z. o ++ whole (loaded m ss 1 rs) (loaded n bs 1 rs) (served m ss 1 rs) z) ey

-- the same row twice is no difference
same_row : (x : Option ListingRow) → same_rows x x ≡ true
same_row None = refl
same_row (Some a) = grind (arith, nat_tests)

find_agrees : (n : ℕ) (x : Option ListingRow) → find_text n x x ≡ agree_text n x
find_agrees n x = simp (same_row x)

-- behind filters that admit each record, equal entries are found alike
finds_agree : (f g : ℕ → Bool) (es : List (Entry ListingRow)) (rs : List Record) → all (λ r. f r.key.id) rs ≡ true
    → all (λ r. g r.key.id) rs ≡ true → finds_text f es g es rs ≡ agrees_text es rs
unfolding all finds_text agrees_text
finds_agree f g es [] h k = refl
finds_agree f g es (r ∷ rs) h k =
    let n = r.key.id in
    let a = and_parts (f n) (all (λ r. f r.key.id) rs) h in
    let b = and_parts (g n) (all (λ r. g r.key.id) rs) k in
    let p : find_text n (row_behind (f n) es n) (row_behind (g n) es n) ≡ agree_text n (first_row es n) =
    ap (λ z. find_text n (row_behind z es n) (row_behind (g n) es n)) a.0 ∙ ap (λ z. find_text n (first_row es n) (row_behind z es n)) b.0
    ∙ find_agrees n (first_row es n) in
    ap (λ z. z ++ finds_text f es g es rs) p ∙ ap (λ z. agree_text n (first_row es n) ++ z) (finds_agree f g es rs a.1 b.1)

loads_alike : (f g : ℕ → Bool) (m n : ℕ) (ss bs : List (Entry ListingRow)) (rs : List Record) → m ≡ 8192 → ss ≡ [] → n ≡ 8192 → bs ≡ []
    → all (λ r. f r.key.id) rs ≡ true → all (λ r. g r.key.id) rs ≡ true → loads_text f g m ss n bs rs ≡ alike_text f g rs
loads_alike f g m n ss bs rs em es en eb hf hg =
    ap (λ z. loads_text f g z ss n bs rs) em ∙ ap (λ z. loads_text f g 8192 z n bs rs) es
    ∙ ap (λ z. loads_text f g 8192 [] z bs rs) en ∙ ap (λ z. loads_text f g 8192 [] 8192 z rs) eb
    ∙ ap (λ z. z ++ (loaded_text (served 8192 [] 1 rs) (served 8192 [] 1 rs)
    ++ next_text f (loaded 8192 [] 1 rs) g (loaded 8192 [] 1 rs) (next_number rs))) (finds_agree f g (loaded 8192 [] 1 rs) rs hf hg)

-- the lines of an archive, the loads and the count
pub report_whole : (f g : ℕ → Bool) (m n : ℕ) (ss bs : List (Entry ListingRow)) (es : List line.Entry) (rs : List Record) (o a b new : List ℕ)
    (count : ℕ) → m ≡ 8192 → ss ≡ [] → n ≡ 8192 → bs ≡ [] → all (λ r. f r.key.id) rs ≡ true → all (λ r. g r.key.id) rs ≡ true
    → rs ≡ goods es → count ≡ length rs → o ≡ [] → a ≡ o ++ entries_text es → b ≡ a ++ loads_text f g m ss n bs rs → new ≡ b ++ summary_text count
    → new ≡ report_of f g es
report_whole f g m n ss bs es rs o a b new count em ess en ebs hf hg er ec eo ea eb ew =
    let c : count ≡ count_good es = ec ∙ ap length er ∙ length_goods es in
    let l : loads_text f g m ss n bs rs ≡ alike_text f g (goods es) = loads_alike f g m n ss bs rs em ess en ebs hf hg ∙ ap (alike_text f g) er in
    before a (loads_text f g m ss n bs rs) b (summary_text count) new eb ew
    ∙ ap (λ z. z ++ (loads_text f g m ss n bs rs ++ summary_text count)) (ea ∙ ap (λ z. z ++ entries_text es) eo)
    ∙ ap (λ z. entries_text es ++ (z ++ summary_text count)) l
    ∙ ap (λ z. entries_text es ++ (alike_text f g (goods es) ++ summary_text z)) c
