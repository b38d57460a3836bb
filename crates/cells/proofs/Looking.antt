-- What a lookup finds is what the history shows, under the session's own writes.
use Rattle.std.proofs.Common.{◌≡◌, ℕ, Bool, true, false, cond, ◌&&◌, eqb, List, [], ◌∷◌, ◌++◌, Some, None, Option, sym, refl, ap, ◌∙◌, subst, inl, inr, append-nil, arith, option_map}
use Rattle.std.proofs.lemmas.Bool.{cases_Bool}
use Rattle.rules.specs.declared.times.Moment.{Moment}
use Rattle.rules.specs.declared.sheet.Reading.{Reading}
use Rattle.rules.specs.declared.tables.HotRow.{HotRow}
use Rattle.rules.specs.declared.tables.Kind.{Kind}
use Rattle.rules.specs.declared.tables.Kind.TheVariants.{N, B, E, BE, X}
use Rattle.rules.specs.declared.tables.Notice.{Notice}
use Rattle.cold.specs.Cold.{Entry}
use Rattle.rules.specs.Looking.{noted_sees, notice_for, hot_sees, cold_sees, row_of, looked}
use Rattle.rules.specs.Notices.{kind_sees}
use Rattle.rules.specs.Stores.{Store, session_at}
use Rattle.slots.specs.Lists.{first, each, one_if, list_of}
use Rattle.slots.proofs.Folds.{all_every, each_same, each_each}
use Rattle.slots.proofs.Edits.{head}
use Rattle.versions.specs.History.{History, over, shown, turn_writes, turn_read}
use Rattle.versions.proofs.Versions.{Version, v_sees, rows, writes_of}
use Rattle.versions.proofs.Rows.{rows_append}
use Rattle.versions.proofs.Marks.{no_mark}
use Rattle.versions.proofs.Seeing.{plain_reader}
use Rattle.cells.proofs.Cells.{hot_version, cold_version, hot_part, cold_part, versions, entry_version, kind_version, Whole}
use Rattle.cells.proofs.Sessions.{Reader, reader, read_time}
use Rattle.cells.proofs.Walking.{found, entry_sees, looked_is}

abbrev or_else : {X : Type 0} → Option X → Option X → Option X
or_else None q = q
or_else (Some x) q = Some x

module _ {R : Type 0} where
  head_append : (xs ys : List R) → head (xs ++ ys) ≡ or_else (head xs) (head ys)
  unfolding head
  head_append [] ys = refl
  head_append (x ∷ xs) ys = refl

  head_list : (o : Option R) → head (list_of o) ≡ o
  unfolding head
  head_list None = refl
  head_list (Some x) = refl

  -- the first row seen, in a fold of tests
  head_first : {X : Type 0} (p : X → Bool) (f : X → R) (xs : List X)
      → head (each (λ x. one_if (p x) (f x)) xs) ≡ option_map f (first p xs)
  unfolding each first head
  head_first p f [] = refl
  head_first p f (x ∷ xs) = elim (cases_Bool (p x)) [ inl y ↦ rw y | inr y ↦ rw y (head_first p f xs) ]

  rows_one_if : (p : Version R → Bool) (t : Bool) (v : Version R) → rows p (one_if t v) ≡ one_if (t && p v) v.row
  unfolding each
  rows_one_if p true v = append-nil _
  rows_one_if p false v = refl

  -- the times that a notice gives its entry are seen as the rule says
  kind_rows : (kind : Kind) (x : ℕ) (y : Option Moment) (r : R) (s t : ℕ)
      → rows (v_sees s t) (kind_version kind x y r) ≡ one_if (kind_sees kind x y s t) r
  unfolding each
  kind_rows N x y r s t = refl
  kind_rows B x y r s t = append-nil _
  kind_rows E x y r s t = append-nil _
  kind_rows BE x y r s t = append-nil _
  kind_rows X x y r s t = refl

module _ {K R : Type 0} where
  row_found : (o : Option (HotRow K R)) (q : Option (Entry R))
      → row_of (found o q) ≡ or_else (option_map (λ x. x.row) o) (option_map (λ x. x.row) q)
  row_found None None = refl
  row_found None (Some c) = refl
  row_found (Some x) q = refl

  entry_rows : (o : Option (Notice K)) (r : R) (s t : ℕ) → rows (v_sees s t) (entry_version o r) ≡ one_if (noted_sees o s t) r
  unfolding each
  entry_rows None r s t = append-nil _
  entry_rows (Some n) r s t = kind_rows n.kind n.begin n.end r s t

module _ {K R : Type 0} (number : K → ℕ) where
  cold_rows : (memo : List (Notice K)) (s t k : ℕ) (c : Entry R)
      → rows (v_sees s t) (cold_version number memo k c) ≡ one_if (entry_sees number memo s t k c) c.row
  unfolding each
  cold_rows memo s t k c = go (eqb c.number k)
    where
      go : (q : Bool)
          → rows (v_sees s t) (cond q (entry_version (notice_for number memo c.number c.tag) c.row) [])
          ≡ one_if (q && cold_sees number memo s t c) c.row
      go true = entry_rows (notice_for number memo c.number c.tag) c.row s t
      go false = refl

  hot_head : (s t k : ℕ) (hot : List (HotRow K R))
      → head (rows (v_sees s t) (hot_part number hot k)) ≡ option_map (λ x. x.row) (first (hot_sees number s t k) hot)
  hot_head s t k hot =
      ap head (each_each (λ v. one_if (v_sees s t v) v.row) (hot_version number k) hot
      ∙ each_same _ _ hot (all_every _ hot (λ x. rows_one_if (v_sees s t) (eqb (number x.key) k) _)))
      ∙ head_first (hot_sees number s t k) (λ x. x.row) hot

  cold_head : (s t k : ℕ) (memo : List (Notice K)) (cold : List (Entry R))
      → head (rows (v_sees s t) (cold_part number memo cold k)) ≡ option_map (λ c. c.row) (first (entry_sees number memo s t k) cold)
  cold_head s t k memo cold =
      ap head (each_each (λ v. one_if (v_sees s t v) v.row) (cold_version number memo k) cold
      ∙ each_same _ _ cold (all_every _ cold (cold_rows memo s t k)))
      ∙ head_first (entry_sees number memo s t k) (λ c. c.row) cold

  module _ (σ : Store K R) (T : History R) (w : Whole number σ T) where
    pub looked_head : (s t k : ℕ) → head (rows (v_sees s t) (versions number σ k)) ≡ row_of (looked number σ s t k).seen
    looked_head s t k =
        let hot : List (Version R) = hot_part number σ.hot k in
        let cold : List (Version R) = cold_part number σ.memo σ.cold k in
        ap head (rows_append (v_sees s t) hot cold)
        ∙ (head_append (rows (v_sees s t) hot) (rows (v_sees s t) cold)
        ∙ rw (hot_head s t k σ.hot, cold_head s t k σ.memo σ.cold, looked_is number σ T w s t k)
        (sym (row_found (first (hot_sees number s t k) σ.hot) (first (entry_sees number σ.memo s t k) σ.cold))))

    module _ (s : ℕ) (o : Reader number σ T s) (k : ℕ) where
      abbrev time : ℕ
      time = turn_read (T.turn s)

      -- the rows that the session sees: its own write, else what the history shows at its read time
      pub sees_rows : rows (v_sees s time) (versions number σ k) ≡ list_of (over (turn_writes (T.turn s) k) (shown T.commits time k))
      sees_rows = go (writes_of T.turn s k) refl
        where
          go : (o : Option (Option R)) → writes_of T.turn s k ≡ o
              → rows (v_sees s time) (versions number σ k) ≡ list_of (over o (shown T.commits time k))
          go None p =
              plain_reader s time (versions number σ k) (no_mark (w.rel k) s p)
              ∙ (w.rel k).plain time o.from
          go (Some v) p = (w.rel k).mine s v p time (omega arith)

      pub looked_row : row_of (looked number σ s time k).seen ≡ over (turn_writes (T.turn s) k) (shown T.commits time k)
      looked_row = sym (looked_head s time k) ∙ (ap head sees_rows ∙ head_list (over (writes_of T.turn s k) (shown T.commits time k)))

    -- the same at the read time that the sheet has
    pub lookup_is : (s : ℕ) (r : Reading) (k : ℕ) → (session_at σ.sessions s).reading ≡ Some r
        → row_of (looked number σ s r.time k).seen ≡ over (turn_writes (T.turn s) k) (shown T.commits r.time k)
    lookup_is s r k reads =
        subst (λ t. row_of (looked number σ s t k).seen ≡ over (turn_writes (T.turn s) k) (shown T.commits t k))
        (read_time number σ T w s r reads) (looked_row s (reader number σ T w s r reads) k)
