-- Another history that says the same of a key, under a higher horizon or clock: the versions fit it too.
use Rattle.std.proofs.Common.{◌≡◌, ℕ, ◌≤◌, ◌&&◌, List, is_some, Some, None, Option, sym, refl, ap, ◌∙◌, arith}
use Rattle.std.specs.List.{AllByRecursion as All}
use Rattle.slots.specs.Lists.{list_of}
use Rattle.versions.specs.History.{Commit, Turn, shown}
use Rattle.versions.proofs.Versions.{Version, put_of, wrote_above, read_of, writes_of, had_at, Rel, Tidy}

-- the commits ds and the sessions next say of key k what cs and turn say
pub record SameAt {R : Type 0} (cs ds : List (Commit R)) (turn next : ℕ → Option (Turn R)) (k : ℕ) : Type 0 where
  pub sees_same : (t : ℕ) → shown ds t k ≡ shown cs t k
  pub above_same : (t : ℕ) → wrote_above ds t k ≡ wrote_above cs t k
  pub writes_same : (s : ℕ) → writes_of next s k ≡ writes_of turn s k
  pub reads_same : (s : ℕ) (w : Option R) → writes_of turn s k ≡ Some w → read_of next s ≡ read_of turn s

module _ {R : Type 0} {cs ds : List (Commit R)} {turn next : ℕ → Option (Turn R)} {k : ℕ} (same : SameAt cs ds turn next k) where
  -- a session's write in the one is its write in the other
  wrote_too : (s : ℕ) {o : Option (Option R)} → writes_of next s k ≡ o → writes_of turn s k ≡ o
  wrote_too s p = sym (same.writes_same s) ∙ p

  -- for a session that wrote the key, it was there in both or in neither
  had_same : (s : ℕ) (w : Option R) → writes_of turn s k ≡ Some w → had_at ds next s k ≡ had_at cs turn s k
  had_same s w wrote = rw (same.reads_same s w wrote) (ap is_some (same.sees_same (read_of turn s)))

  ended_same : (s : ℕ) (o : Option (Option R)) → writes_of turn s k ≡ o
      → (is_some o && had_at cs turn s k) ≡ (is_some o && had_at ds next s k)
  ended_same s None wrote = refl
  ended_same s (Some w) wrote = sym (had_same s w wrote)

  pub rel_same : {h h' : ℕ} {V : List (Version R)} → h ≤ h' → Rel h cs turn k V → Rel h' ds next k V
  rel_same up rel = record {
    plain = λ t l. rel.plain t (omega arith) ∙ ap list_of (sym (same.sees_same t));
    mine = λ s w wrote t l. let was = wrote_too s wrote in rel.mine s w was t (rw (same.reads_same s w was) at l);
    begun = λ s. rel.begun s ∙ ap (λ x. list_of (put_of x)) (sym (same.writes_same s));
    ended = λ s.
        rel.ended s
        ∙ (ended_same s (writes_of turn s k) refl ∙ ap (λ x. is_some x && had_at ds next s k) (sym (same.writes_same s)));
    stamps = λ t l. rel.stamps t (omega arith) ∙ sym (same.above_same t);
    shaped = rel.shaped;
  }

  pub tidy_same : {h h' c c' : ℕ} → h' ≤ c' → c ≤ c'
      → ((s : ℕ) (w : Option R) → writes_of turn s k ≡ Some w → h' ≤ read_of turn s)
      → All (λ x. x.stamp ≤ c') ds → Tidy h c cs turn k → Tidy h' c' ds next k
  tidy_same low later reads past tidy = record {
    past = past;
    low = low;
    lone = λ s u w x p q. tidy.lone s u w x (wrote_too s p) (wrote_too u q);
    newest = λ s w p.
        let was = wrote_too s p in rw (same.reads_same s w was) (same.above_same (read_of turn s) ∙ tidy.newest s w was);
    dropped = λ s p. let was = wrote_too s p in had_same s None was ∙ tidy.dropped s was;
    reads = λ s w p.
        let was = wrote_too s p in rw (same.reads_same s w was) (reads s w was, omega (arith, tidy.reads s w was));
  }
