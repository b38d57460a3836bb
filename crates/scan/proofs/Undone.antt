-- Undoing in two steps is undoing as the rules say.
use Rattle.std.proofs.Common.{◌≡◌, ℕ, Bool, true, false, cond, not, ◌||◌, List, [], ◌∷◌, map, is_some, Some, None, Option, sym, refl, ap, inl, inr}
use Rattle.std.proofs.lemmas.Bool.{cases_Bool}
use Rattle.slots.specs.Lists.{each, kept, one}
use Rattle.rules.specs.declared.times.Moment.{Moment}
use Rattle.rules.specs.declared.tables.HotRow.{HotRow}
use Rattle.rules.specs.declared.tables.Kind.{Kind}
use Rattle.rules.specs.declared.tables.Notice.{Notice}
use Rattle.rules.specs.declared.notices.NoticeEvent.TheVariants.{Abandon}
use Rattle.rules.specs.Times.{begin_marked, end_marked, reopen}
use Rattle.rules.specs.Notices.{becomes}
use Rattle.rules.specs.Selling.{kind_or, undo_row, undo_notice, unended}
use Rattle.scan.specs.Undoing.{row_stays, reopen_row, notice_stays, reopen_notice}

-- what f gives for each is g of those that are kept, where f gives nothing for the others
pub each_is_kept : {X Y : Type 0} (f : X → List Y) (g : X → Y) (q : X → Bool) → ((x : X) → f x ≡ cond (q x) (one (g x)) []) → (xs : List X)
    → map g (kept q xs) ≡ each f xs
unfolding each kept
each_is_kept f g q h [] = refl
each_is_kept f g q h (x ∷ xs) = let i = each_is_kept f g q h xs in elim (cases_Bool (q x)) [
  | inl y ↦ rw (h x, y) (ap (λ z. g x ∷ z) i)
  | inr y ↦ rw (h x, y) i
]

pub rows_undone : {K R : Type 0} (s : ℕ) (xs : List (HotRow K R)) → map (reopen_row s) (kept (row_stays s) xs) ≡ each (undo_row s) xs
rows_undone s xs = each_is_kept (undo_row s) (reopen_row s) (row_stays s) (λ h. go h (begin_marked h.begin s)) xs
  where
    go : {K R : Type 0} (h : HotRow K R) (b : Bool) → cond b [] (one (reopen_row s h)) ≡ cond (not b) (one (reopen_row s h)) []
    go h true = refl
    go h false = refl

-- an end that the session did not mark stays; one that it did is open again
reopen_other : (s : ℕ) (end : Option Moment) → end_marked end s ≡ false → reopen s end ≡ end
reopen_other s None h = refl
reopen_other s (Some x) h = ap (λ b. cond b None (Some x)) h

reopen_own : (s : ℕ) (end : Option Moment) → end_marked end s ≡ true → reopen s end ≡ None
reopen_own s None h = refl
reopen_own s (Some x) h = ap (λ b. cond b None (Some x)) h

module _ {K : Type 0} (s : ℕ) where
  notice_undone : (n : Notice K) → undo_notice s n ≡ cond (notice_stays s n) (one (reopen_notice s n)) []
  notice_undone n = go (end_marked n.end s) refl (becomes n.kind Abandon)
    where
      go : (b : Bool) → end_marked n.end s ≡ b → (o : Option Kind)
          → cond b (unended n o) (one n)
          ≡ cond (not b || is_some o) (one (record { key = n.key; tag = n.tag; kind = cond b (kind_or n.kind o) n.kind; begin = n.begin; end = reopen s n.end })) []
      go true h None = refl
      go true h (Some kind) =
          ap (λ end. one (record { key = n.key; tag = n.tag; kind = kind; begin = n.begin; end = end })) (sym (reopen_own s n.end h))
      go false h o =
          ap (λ end. one (record { key = n.key; tag = n.tag; kind = n.kind; begin = n.begin; end = end })) (sym (reopen_other s n.end h))

  pub notices_undone : (xs : List (Notice K)) → map (reopen_notice s) (kept (notice_stays s) xs) ≡ each (undo_notice s) xs
  notices_undone xs = each_is_kept (undo_notice s) (reopen_notice s) (notice_stays s) notice_undone xs
