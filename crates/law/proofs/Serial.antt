-- Every served read and drop of a committed checked session answers as the single table does after the sessions placed
-- earlier, then the session's own puts and drops before it.
use Rattle.std.proofs.Common.{◌≡◌, ℕ, ◌+◌, ◌*◌, ◌≤◌, Bool, true, false, cond, ◌⊎◌, List, [], ◌∷◌, ◌++◌, is_some, Some, None, Option, sym, refl, ap, ◌∙◌, subst, inl, inr, arith, Ok}
use Rattle.std.proofs.lemmas.Bool.{eq-eqb, ne_eqb, or_parts}
use Rattle.slots.specs.Lists.{any}
use Rattle.slots.proofs.Folds.{any_append}
use Rattle.rules.specs.declared.sheet.Mode.TheVariants.{Checked}
use Rattle.rules.specs.declared.answers.Answer.TheVariants as answer
use Rattle.rules.specs.declared.answers.Call.TheVariants as call
use Rattle.rules.specs.Stores.{Store}
use Rattle.rules.specs.Selling.{line_for, commit_rule}
use Rattle.versions.specs.Writes.{no_writes, over}
use Rattle.versions.specs.History.{Turn, History, shown, turn_writes, turn_read, begins, fresh}
use Rattle.versions.proofs.Versions.{wrote_above}
use Rattle.cells.proofs.Cells.{Whole}
use Rattle.cells.proofs.Beginning.{whole_opened}
use Rattle.law.specs.Runs.{Event, Step, Runs, Opening, Served, at_opening, answering}
use Rattle.law.specs.Single.{Table, all_fed, at_start}
use Rattle.law.specs.Episodes.{closes, begin_of, read_of, drop_of, commit_of, Committed, place, own_acts}
use Rattle.law.specs.Law.{Serial, table_before, place_of}
use Rattle.law.proofs.Past.{Past, Facts, feeds, past_fresh, past_step}
use Rattle.law.proofs.Tables.{Same, same_start, same_all, past_all}
use Rattle.law.proofs.Places.{shown_before, before_after, before_next, placing_fresh, placing_all}
use Rattle.law.proofs.Acts.{Working, act_all}
use Rattle.law.proofs.Later.{Later, later_all, shown_still}
use Rattle.law.proofs.Steps.{step_ok, runs_ok, runs_cut, feeds_cut}
use Rattle.law.proofs.Facts.{facts_of, facts_cut}
use Rattle.law.proofs.Lines.{runs_line}
use Rattle.law.proofs.Looks.{ReadTells, read_tells, DropTells, drop_tells, commit_tells}

module _ (K R : Type 0) (number : K → ℕ) (o : Opening) (served : Served o) (s n : ℕ)
    (before work after done rest : List (Event K R)) (look : Event K R) (k : ℕ) (τ : Store K R) where
  -- the events of a run, cut at a committed checked session and at one of its reads or drops
  abbrev es : List (Event K R)
  es = before ++ (begin_of s Checked ∷ (work ++ (commit_of s n ∷ after)))

  abbrev clock : ℕ
  clock = o.clock

  abbrev start : History R
  start = fresh clock

  abbrev T₀ : History R
  T₀ = feeds number start before

  -- after the begin, before the look, before the commit, at the end
  abbrev T₁ : History R
  T₁ = begins T₀ s Checked

  abbrev T₂ : History R
  T₂ = feeds number T₁ done

  abbrev T₄ : History R
  T₄ = feeds number T₁ work

  abbrev end : History R
  end = feeds number start es

  abbrev read : ℕ
  read = T₀.clock

  abbrev row_then : Option R
  row_then = shown T₀.commits read k

  abbrev table : Table R
  table = table_before K R number clock es (place (all_fed number (at_start clock) before).clock n)

  -- the store before the look and after it
  record Looked : Type 0 where
    σ₂ : Store K R
    σ₃ : Store K R
    whole : Whole number σ₂ T₂
    step : Step number σ₂ look.call look.answer σ₃
    turn : Turn R
    has : T₂.turn s ≡ Some turn
    checked : turn.mode ≡ Checked
    tells : any (line_for number s k) σ₃.ledger ≡ true
        → own_acts number s table done k ≡ over (turn_writes (T₂.turn s) k) (shown T₂.commits (turn_read (T₂.turn s)) k)

  module _ (run : Runs number (at_opening o) es τ) (quiet : any (closes s) work ≡ false) (cut : work ≡ done ++ (look ∷ rest)) where
    whole_start : Whole number (at_opening o) start
    whole_start = whole_opened number o.lengths o.clock o.last_tag o.limit o.admits served

    facts : Facts number start es
    facts = facts_of number es (at_opening o) τ start whole_start run

    facts_here : Facts number start before × Facts number T₀ (begin_of s Checked ∷ (work ++ (commit_of s n ∷ after)))
    facts_here = facts_cut number before (begin_of s Checked ∷ (work ++ (commit_of s n ∷ after))) start facts

    past₀ : Past T₀
    past₀ = past_all number before start (past_fresh clock) facts_here.0

    facts_begun : (T₀.turn s ≡ None) × Facts number T₁ (work ++ (commit_of s n ∷ after))
    unfolding Facts
    facts_begun = facts_here.1

    past₁ : Past T₁
    past₁ = past_step number T₀ (call.Begin s Checked) (Ok answer.Done) past₀ facts_begun.0

    facts_work : Facts number T₁ work × Facts number T₄ (commit_of s n ∷ after)
    facts_work = facts_cut number work (commit_of s n ∷ after) T₁ facts_begun.1

    -- at the begin
    working₁ : Working T₁ s Checked k read row_then
    working₁ = record {
      turn = record { mode = Checked; read = read; writes = no_writes };
      has = rw (eq-eqb s s refl) refl;
      mode = refl;
      time = refl;
      seen = refl;
    }

    no_write_yet : turn_writes (T₁.turn s) k ≡ None
    no_write_yet = rw (eq-eqb s s refl) refl

    -- at the commit
    working₄ : Working T₄ s Checked k read row_then
    working₄ = (act_all number work T₁ s Checked k read row_then (λ _. row_then) working₁ past₁ facts_work.0 quiet
        (ap (λ z. over z row_then) (sym no_write_yet))).0

    end_is : end ≡ feeds number T₁ (work ++ (commit_of s n ∷ after))
    unfolding feeds
    end_is = feeds_cut number before (begin_of s Checked ∷ (work ++ (commit_of s n ∷ after))) start

    end_late : end ≡ feeds number T₄ (commit_of s n ∷ after)
    end_late = end_is ∙ feeds_cut number work (commit_of s n ∷ after) T₁

    later₁ : Later T₁ end
    later₁ = subst (Later T₁) (sym end_is) (later_all number (work ++ (commit_of s n ∷ after)) T₁ facts_begun.1)

    later₄ : Later T₄ end
    later₄ = subst (Later T₄) (sym end_late) (later_all number (commit_of s n ∷ after) T₄ facts_work.1)

    past₄ : Past T₄
    past₄ = past_all number work T₁ past₁ facts_work.0

    same₀ : Same (all_fed number (at_start clock) before) T₀
    same₀ = same_all number before (at_start clock) start (past_fresh clock) (same_start clock) facts_here.0

    -- the sessions placed earlier leave what the history shows just before the place
    table_is : table k ≡ shown_before end.commits (place read n) k
    table_is =
        (placing_all number es [] (at_start clock) start (past_fresh clock) (same_start clock) facts (placing_fresh clock)
        ).carried (place (all_fed number (at_start clock) before).clock n) k
        ∙ ap (λ t. shown_before end.commits (place t n) k) same₀.clock

    -- the commit's answer decides the place
    placed_row : ((n ≡ 0) ⊎ ((n ≡ T₄.clock + 1) × (wrote_above T₄.commits (turn_read (T₄.turn s)) k ≡ false)))
        → table k ≡ row_then
    placed_row (inl z) =
        table_is ∙ (ap (λ m. shown_before end.commits (place read m) k) z
        ∙ (before_after end.commits read k ∙ later₁.still read k (omega arith)))
    placed_row (inr z) =
        let at : place read n ≡ 2 * (T₄.clock + 1) =
        ap (place read) z.0 ∙ ap (λ t. cond t (2 * read + 1) (2 * (T₄.clock + 1))) (ne_eqb (T₄.clock + 1) 0 (λ e. omega arith)) in
        let time : turn_read (T₄.turn s) ≡ read = ap turn_read working₄.has ∙ working₄.time in
        let low : read ≤ T₄.clock = subst (λ t. t ≤ T₄.clock) working₄.time (past₄.reads s working₄.turn working₄.has) in
        table_is ∙ (ap (λ p. shown_before end.commits p k) at
        ∙ (before_next end.commits T₄.clock k
        ∙ (later₄.still T₄.clock k (omega arith)
        ∙ (shown_still T₄.commits read T₄.clock k low
        (subst (λ t. wrote_above T₄.commits t k ≡ false) time z.1)
        ∙ working₄.seen))))

    quiet_parts : (any (closes s) done ≡ false) × (any (closes s) rest ≡ false)
    unfolding any
    quiet_parts =
        let p = or_parts (any (closes s) done) (any (closes s) (look ∷ rest))
        (sym (any_append (closes s) done (look ∷ rest)) ∙ (ap (any (closes s)) (sym cut) ∙ quiet)) in
        (p.0, (or_parts (closes s look) (any (closes s) rest) p.1).1)

    facts_done : Facts number T₁ done
    facts_done = (facts_cut number done (look ∷ rest) T₁ (subst (Facts number T₁) cut facts_work.0)).0

    looked : Looked
    unfolding Runs
    looked =
        let a = runs_cut number before (begin_of s Checked ∷ (work ++ (commit_of s n ∷ after))) (at_opening o) τ run in
        let w₀ = runs_ok number before (at_opening o) a.0 start whole_start a.1 in
        let σ₁ = a.2.0 in
        let w₁ = step_ok number a.0 σ₁ T₀ (call.Begin s Checked) (Ok answer.Done) w₀ a.2.1 in
        let b = runs_cut number work (commit_of s n ∷ after) σ₁ τ a.2.2 in
        let σ₄ = b.0 in
        let w₄ = runs_ok number work σ₁ σ₄ T₁ w₁ b.1 in
        let c = runs_cut number done (look ∷ rest) σ₁ σ₄ (subst (λ z. Runs number σ₁ z σ₄) cut b.1) in
        let w₂ = runs_ok number done σ₁ c.0 T₁ w₁ c.1 in
        let working₂ = (act_all number done T₁ s Checked k read row_then (λ _. row_then) working₁ past₁ facts_done quiet_parts.0
        (ap (λ z. over z row_then) (sym no_write_yet))).0 in
        let commit : commit_rule number σ₄.lengths σ₄ s ≡ answering (Ok (answer.At n)) b.2.0 = b.2.1 in
        let told = commit_tells number σ₄ T₄ w₄ s working₄.turn working₄.has working₄.mode n (ap (λ z. z.answer) commit) in
        record {
          σ₂ = c.0;
          σ₃ = c.2.0;
          whole = w₂;
          step = c.2.1;
          turn = working₂.turn;
          has = working₂.has;
          checked = working₂.mode;
          tells = λ line.
              let KeptLine = runs_line number rest c.2.0 σ₄ s k line c.2.2 quiet_parts.1 in
              let fixed : table k ≡ row_then = placed_row (elim told [ inl z ↦ inl z | inr z ↦ inr (z.0, z.1 k KeptLine) ]) in
              (act_all number done T₁ s Checked k read row_then table working₁ past₁ facts_done quiet_parts.0
              (fixed ∙ ap (λ z. over z row_then) (sym no_write_yet))).1
              ∙ ap (over (turn_writes (T₂.turn s) k))
              (sym (ap (λ u. shown T₂.commits (turn_read u) k) working₂.has
              ∙ (ap (λ t. shown T₂.commits t k) working₂.time ∙ working₂.seen)));
        }

module _ (K R : Type 0) (number : K → ℕ) (o : Opening) (es : List (Event K R)) (σ : Store K R) (served : Served o)
    (run : Runs number (at_opening o) es σ) (c : Committed es) (checked : c.mode ≡ Checked) (done rest : List (Event K R)) (k : K) where
  abbrev s : ℕ
  s = c.session

  abbrev events : List (Event K R)
  events = c.before ++ (begin_of s Checked ∷ (c.work ++ (commit_of s c.stamp ∷ c.after)))

  -- what the single table has of the key then, for a list of events
  abbrev row_in : List (Event K R) → Option R
  row_in z = own_acts number s (table_before K R number o.clock z (place_of K R number o.clock c)) done (number k)

  same : es ≡ events
  same = c.cut ∙ ap (λ m. c.before ++ (begin_of s m ∷ (c.work ++ (commit_of s c.stamp ∷ c.after)))) checked

  at : (look : Event K R) → c.work ≡ done ++ (look ∷ rest)
      → Looked K R number o served s c.stamp c.before c.work c.after done rest look (number k) σ
  at look cut =
      looked K R number o served s c.stamp c.before c.work c.after done rest look (number k) σ
      (subst (λ z. Runs number (at_opening o) z σ) same run) c.open_still cut

  reads : (row : Option R) → c.work ≡ done ++ (read_of s k row ∷ rest) → row ≡ row_in es
  reads row cut =
      let l = at (read_of s k row) cut in
      let told : ReadTells number l.σ₂ _ l.whole s l.turn l.has l.checked k (answering (Ok (answer.Row row)) l.σ₃) =
      subst (ReadTells number l.σ₂ _ l.whole s l.turn l.has l.checked k) l.step
      (read_tells number l.σ₂ _ l.whole s l.turn l.has l.checked k) in
      let h = told row refl in
      h.0 ∙ (sym (l.tells h.1) ∙ ap row_in (sym same))

  drops : (was : Bool) → c.work ≡ done ++ (drop_of s k was ∷ rest) → was ≡ is_some (row_in es)
  drops was cut =
      let l = at (drop_of s k was) cut in
      let told : DropTells number l.σ₂ _ l.whole s l.turn l.has l.checked k (answering (Ok (answer.Was was)) l.σ₃) =
      subst (DropTells number l.σ₂ _ l.whole s l.turn l.has l.checked k) l.step
      (drop_tells number l.σ₂ _ l.whole s l.turn l.has l.checked k) in
      let h = told was refl in
      h.0 ∙ ap is_some (sym (l.tells h.1) ∙ ap row_in (sym same))

pub serial : (K R : Type 0) (number : K → ℕ) → Serial K R number
serial K R number o es σ served run c checked done rest k =
    (reads K R number o es σ served run c checked done rest k, drops K R number o es σ served run c checked done rest k)
