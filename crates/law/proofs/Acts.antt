-- A session's own puts and drops, replayed on a table that shows a key as the session saw it at its read time, leave of
-- that key what the session sees.
use Rattle.std.proofs.Common.{◌≡◌, ℕ, ◌+◌, ◌≤◌, Bool, true, false, cond, ◌&&◌, eqb, List, [], ◌∷◌, is_some, Some, None, Option, sym, refl, ap, ◌∙◌, subst, arith, Ok, Err}
use Rattle.std.proofs.lemmas.Bool.{eqb-true, eq-eqb, ne_eqb, lt-leb, or_parts, true≢false}
use Rattle.rules.specs.declared.sheet.Mode.{Mode}
use Rattle.rules.specs.declared.answers.Answer.TheVariants as answer
use Rattle.rules.specs.declared.answers.Call.{Call}
use Rattle.rules.specs.declared.answers.Call.TheVariants as call
use Rattle.rules.specs.Outcomes.{Told, if_served}
use Rattle.rules.specs.Refusals.{is_stale}
use Rattle.slots.specs.Lists.{any}
use Rattle.versions.specs.Writes.{over, upd}
use Rattle.versions.specs.History.{Turn, History, shown, turn_writes, turn_read, with_turn, wrote, had, closes, commits_at, feed, feed_commit}
use Rattle.law.specs.Runs.{Event}
use Rattle.law.specs.Single.{Table}
use Rattle.law.specs.Episodes.{closes_by, commit_closes, own_act, own_acts}
use Rattle.law.proofs.Past.{BeginFact, CommitFact, Fact, Facts, feeds, Past, past_step, by_answer}

module _ {R : Type 0} where
  -- session s is open in mode m with read time r, at which v is shown of key k
  pub record Working (T : History R) (s : ℕ) (m : Mode) (k r : ℕ) (v : Option R) : Type 0 where
    pub turn : Turn R
    pub has : T.turn s ≡ Some turn
    pub mode : turn.mode ≡ m
    pub time : turn.read ≡ r
    pub seen : shown T.commits r k ≡ v

  none_some : (y : Turn R) {A : Type 0} {o : Option (Turn R)} → o ≡ None → o ≡ Some y → A
  none_some y e f = absurd cc

  module _ (T : History R) (s : ℕ) (m : Mode) (k r : ℕ) (v : Option R) (w : Working T s m k r v) where
    -- another session's turn changes
    working_other : (u : ℕ) (o : Option (Turn R)) → eqb s u ≡ false → Working (with_turn T u o) s m k r v
    working_other u o ne = record { turn = w.turn; has = rw ne w.has; mode = w.mode; time = w.time; seen = w.seen }

    -- the session writes
    working_own : (j : ℕ) (x : Option (Option R)) → Working (with_turn T s (wrote (T.turn s) j x)) s m k r v
    working_own j x = record {
      turn = record { mode = w.turn.mode; read = w.turn.read; writes = upd w.turn.writes j x };
      has = rw (eq-eqb s s refl, w.has) refl;
      mode = w.mode;
      time = w.time;
      seen = w.seen;
    }

    -- another session commits
    working_commit : (u : ℕ) → r ≤ T.clock → eqb s u ≡ false → Working (commits_at T u (T.clock + 1)) s m k r v
    working_commit u low ne = record {
      turn = w.turn;
      has = rw ne w.has;
      mode = w.mode;
      time = w.time;
      seen = rw (lt-leb (T.clock + 1) r (omega arith)) w.seen;
    }

    abbrev Sees : History R → Table R → Type 0
    Sees U table = table k ≡ over (turn_writes (U.turn s) k) v

    writes_are : turn_writes (T.turn s) k ≡ w.turn.writes k
    writes_are = ap (λ o. turn_writes o k) w.has

    -- an act of the session on key j, with the history's write x and the table's new row o
    act_own : (table : Table R) (j : ℕ) (x : Option (Option R)) (o : Option R) → Sees T table → (k ≡ j → o ≡ over x v)
        → Sees (with_turn T s (wrote (T.turn s) j x)) (upd table j o)
    act_own table j x o h f =
        let new : turn_writes ((with_turn T s (wrote (T.turn s) j x)).turn s) k ≡ cond (eqb k j) x (w.turn.writes k)
        = rw (eq-eqb s s refl, w.has) refl in
        go (eqb k j) refl ∙ ap (λ z. over z v) (sym new)
      where
        go : (t : Bool) → eqb k j ≡ t → cond t o (table k) ≡ over (cond t x (w.turn.writes k)) v
        go true e = f (eqb-true k j e)
        go false e = h ∙ ap (λ z. over z v) writes_are

    -- a drop of what was not there writes nothing
    dropped : (o : Option R) → v ≡ o → None ≡ over (cond (is_some o) (Some None) None) o
    dropped None e = refl
    dropped (Some q) e = refl

    drop_write : (j : ℕ) → k ≡ j → None ≡ over (cond (had T s j) (Some None) None) v
    drop_write j e =
        let h : had T s j ≡ is_some v =
        ap (λ z. had T s z) (sym e) ∙ (ap (λ o. is_some (shown T.commits (turn_read o) k)) w.has
        ∙ (ap (λ z. is_some (shown T.commits z k)) w.time ∙ ap is_some w.seen)) in
        dropped v refl ∙ ap (λ t. over (cond t (Some None) None) v) (sym h)

module _ {K R : Type 0} (number : K → ℕ) where
  module _ (T : History R) (s : ℕ) (m : Mode) (k r : ℕ) (v : Option R) (w : Working T s m k r v) (p : Past T) (table : Table R)
      (h : table k ≡ over (turn_writes (T.turn s) k) v) where
    -- after the event the session still works, and the replayed table still shows the key as the session sees it
    abbrev Goes : History R → Table R → Type 0
    Goes U t = Working U s m k r v × (t k ≡ over (turn_writes (U.turn s) k) v)

    stays : Goes T table
    stays = (w, h)

    low : r ≤ T.clock
    low = subst (λ z. z ≤ T.clock) w.time (p.reads s w.turn w.has)

    other : (u : ℕ) (o : Option (Turn R)) → eqb s u ≡ false → Goes (with_turn T u o) table
    other u o ne = (working_other T s m k r v w u o ne, rw ne h)

    act : (u j : ℕ) (x : Option (Option R)) (o : Option R) → (u ≡ s → k ≡ j → o ≡ over x v)
        → Goes (with_turn T u (wrote (T.turn u) j x)) (cond (eqb u s) (upd table j o) table)
    act u j x o f = go (eqb u s) refl
      where
        sym_ne : eqb u s ≡ false → eqb s u ≡ false
        sym_ne e = ne_eqb s u (λ z. let q = eq-eqb u s (sym z) in let y : ◌≡◌ {A = ℕ} 0 1 = cc in omega arith)

        go : (t : Bool) → eqb u s ≡ t → Goes (with_turn T u (wrote (T.turn u) j x)) (cond t (upd table j o) table)
        go true e =
            let q = eqb-true u s e in
            rw q (working_own T s m k r v w j x, act_own T s m k r v w table j x o h (f q))
        go false e = other u _ (sym_ne e)

    -- the event does not close the session
    not_closing : (u : ℕ) (t : Bool) → (eqb u s && t) ≡ false → t ≡ true → eqb s u ≡ false
    not_closing u t e q = ne_eqb s u (λ z. true≢false (sym (rw (eq-eqb u s (sym z), q) refl) ∙ e))

    commit_goes : (u : ℕ) (a : Told R) → CommitFact T u a → (eqb u s && commit_closes a) ≡ false → Goes (feed_commit T u a) table
    commit_goes u (Ok answer.Done) f e = stays
    commit_goes u (Ok (answer.Row o)) f e = stays
    commit_goes u (Ok (answer.Was o)) f e = stays
    commit_goes u (Ok (answer.At n)) f e =
        let ne = not_closing u true e refl in
        by_answer T u n (λ _ U. Goes U table) f (other u None ne) (working_commit T s m k r v w u low ne, rw ne h)
    commit_goes u (Ok (answer.Tag n)) f e = stays
    commit_goes u (Ok (answer.Swept o)) f e = stays
    commit_goes u (Err why) f e = go (is_stale why) refl
      where
        go : (t : Bool) → is_stale why ≡ t → Goes (cond t (closes T u) T) table
        go true q = other u None (not_closing u (is_stale why) e q)
        go false q = stays

    begin_goes : (u : ℕ) (a : Told R) (o : Turn R) → BeginFact T u a → Goes (if_served a (with_turn T u (Some o)) T) table
    begin_goes u a o f = go a f
      where
        ne : T.turn u ≡ None → eqb s u ≡ false
        ne e = ne_eqb s u (λ z. none_some w.turn (ap T.turn z ∙ e) w.has)

        go : (a : Told R) → BeginFact T u a → Goes (if_served a (with_turn T u (Some o)) T) table
        go (Ok v) f = other u (Some o) (ne f)
        go (Err x) f = stays

    -- a put or drop that is served is carried out on both sides, and else on none
    served_act : (u : ℕ) (a : Told R) (new : Table R) (U : History R) → Goes U (cond (eqb u s) new table)
        → Goes (if_served a U T) (cond (eqb u s) (if_served a new table) table)
    served_act u (Ok v) new U g = g
    served_act u (Err e) new U g = go (eqb u s)
      where
        go : (t : Bool) → Goes T (cond t table table)
        go true = stays
        go false = stays

    drop_of_own : (u j : ℕ) → u ≡ s → k ≡ j → None ≡ over (cond (had T u j) (Some None) None) v
    drop_of_own u j q e = subst (λ z. None ≡ over (cond (had T z j) (Some None) None) v) (sym q) (drop_write T s m k r v w j e)

    abandon_goes : (u : ℕ) (a : Told R) → (eqb u s && if_served a true false) ≡ false → Goes (if_served a (closes T u) T) table
    abandon_goes u (Ok v) e = other u None (not_closing u true e refl)
    abandon_goes u (Err why) e = stays

    act_step : (c : Call K R) (a : Told R) → Fact T c a → closes_by s c a ≡ false → Goes (feed number T c a) (own_act number s table c a)
    act_step (call.Begin u n) a f e = begin_goes u a _ f
    act_step (call.Read u j) a f e = stays
    act_step (call.Put u j q) a f e =
        let done = act u (number j) (Some (Some q)) (Some q) (λ _ _. refl) in
        served_act u a (upd table (number j) (Some q)) _ done
    act_step (call.Drop u j) a f e =
        let done = act u (number j) (cond (had T u (number j)) (Some None) None) None (λ q. drop_of_own u (number j) q) in
        served_act u a (upd table (number j) None) _ done
    act_step (call.Commit u) a f e = commit_goes u a f e
    act_step (call.Abandon u) a f e = abandon_goes u a e
    act_step (call.Choose j) a f e = stays
    act_step (call.Copy t) a f e = stays
    act_step (call.Settle t) a f e = stays
    act_step (call.GiveUp t) a f e = stays
    act_step call.Sweep a f e = stays
    act_step call.Collect a f e = stays

  -- over the session's work
  pub act_all : (es : List (Event K R)) (T : History R) (s : ℕ) (m : Mode) (k r : ℕ) (v : Option R) (table : Table R)
      → Working T s m k r v → Past T → Facts number T es → any (λ ev. closes_by s ev.call ev.answer) es ≡ false
      → table k ≡ over (turn_writes (T.turn s) k) v
      → Working (feeds number T es) s m k r v × (own_acts number s table es k ≡ over (turn_writes ((feeds number T es).turn s) k) v)
  unfolding feeds Facts own_acts any
  act_all [] T s m k r v table w p f e h = (w, h)
  act_all (ev ∷ es) T s m k r v table w p f e h =
      let c = ev.call in
      let a = ev.answer in
      let q = or_parts (closes_by s c a) (any (λ x. closes_by s x.call x.answer) es) e in
      let g = act_step T s m k r v w p table h c a f.0 q.0 in
      act_all es (feed number T c a) s m k r v (own_act number s table c a) g.0 (past_step number T c a p f.0) f.1 q.1 g.1
