-- The eight marked cases, of the rules themselves. Keys are plain numbers here, and rows too.
use Rattle.std.specs.Prelude.{◌≡◌, ℕ, Bool, true, false, List, [], ◌∷◌, None, Some, Ok, Err}
use Rattle.filter.specs.Bloom.{first_place, second_place, third_place}
use Rattle.rules.specs.Outcomes.{Told}
use Rattle.rules.specs.declared.times.Moment.{Moment}
use Rattle.rules.specs.declared.times.Moment.TheVariants as moment
use Rattle.rules.specs.declared.tables.MoveMark.TheVariants.{Unmoved}
use Rattle.rules.specs.declared.tables.HotRow.{HotRow}
use Rattle.rules.specs.declared.tables.Kind.TheVariants.{B, E, BE}
use Rattle.rules.specs.declared.tables.Line.{Line}
use Rattle.rules.specs.declared.sheet.Mode.{Mode}
use Rattle.rules.specs.declared.sheet.Mode.TheVariants.{Plain, Checked}
use Rattle.rules.specs.declared.sheet.Session.{Session}
use Rattle.rules.specs.declared.answers.Refusal.TheVariants as refusal
use Rattle.rules.specs.declared.answers.Answer.TheVariants as answer
use Rattle.rules.specs.Times.{sees}
use Rattle.rules.specs.Notices.{kind_sees, due_kind}
use Rattle.rules.specs.Refusals.{number_of}
use Rattle.rules.specs.Horizon.{horizon}
use Rattle.rules.specs.Stores.{Store, closed, opened_at}
use Rattle.rules.specs.Selling.{put_rule, commit_rule}
use Rattle.rules.specs.Moving.{choose_rule, copy_rule}

abbrev pub same : ℕ → ℕ
same k = k

-- a hot row of a key, with its begin, not ended and not on the move
abbrev pub row_from : ℕ → Moment → HotRow ℕ ℕ
row_from k begin = record { key = k; row = 50; begin = begin; end = None; mark = Unmoved }

-- a store with room, clock 9, these sessions, hot rows and ledger lines, and nothing below
abbrev pub sample : List Session → List (HotRow ℕ ℕ) → List (Line ℕ) → Store ℕ ℕ
sample sessions hot ledger = record {
  lengths = record { hots = 8; memos = 8; lines = 8 };
  sessions = sessions;
  clock = 9;
  last_tag = 0;
  finds = 0;
  hot = hot;
  memo = [];
  ledger = ledger;
  cold = [];
  limit = 8;
  admits = λ k. true;
}

-- session 0 with read time t, and stamp 6 on key 1
abbrev pub reader_at : Mode → ℕ → List (HotRow ℕ ℕ) → List (Line ℕ) → Store ℕ ℕ
reader_at mode t more ledger = sample (opened_at mode t ∷ []) (row_from 1 (moment.Stamp 6) ∷ more) ledger

abbrev pub put_at : ℕ → Told ℕ
put_at t = (put_rule same (reader_at Plain t [] []).lengths (reader_at Plain t [] []) 0 1 70).answer

-- a commit of session 0 after a checked read of key 1 at 5, with these hot rows of its own
abbrev pub commit_after : List (HotRow ℕ ℕ) → Told ℕ
commit_after own =
    (commit_rule same (reader_at Checked 5 own (record { session = 0; key = 1 } ∷ [])).lengths
    (reader_at Checked 5 own (record { session = 0; key = 1 } ∷ [])) 0).answer

-- choose key 1, then a put of that key by session 0, then copy
abbrev pub chosen_first : Store ℕ ℕ
chosen_first = (choose_rule same (reader_at Plain 6 [] []).lengths (reader_at Plain 6 [] []) 1).after

abbrev pub overtaken : Store ℕ ℕ
overtaken = (put_rule same chosen_first.lengths chosen_first 0 1 70).after

abbrev pub copied_last : Told ℕ
copied_last = (copy_rule same overtaken.lengths overtaken 1 overtaken.admits).answer

pub record MarkedCases : Type 0 where
  -- 1: a version from 10 to 20
  pub version_edges : (s : ℕ)
      → (sees (moment.Stamp 10) (Some (moment.Stamp 20)) s 10 ≡ true)
      × (sees (moment.Stamp 10) (Some (moment.Stamp 20)) s 9 ≡ false)
      × (sees (moment.Stamp 10) (Some (moment.Stamp 20)) s 20 ≡ false)
  -- 2: a cold entry with BE from 5 to 9
  pub entry_edges : (s : ℕ)
      → (kind_sees BE 5 (Some (moment.Stamp 9)) s 5 ≡ true)
      × (kind_sees BE 5 (Some (moment.Stamp 9)) s 8 ≡ true)
      × (kind_sees BE 5 (Some (moment.Stamp 9)) s 4 ≡ false)
      × (kind_sees BE 5 (Some (moment.Stamp 9)) s 9 ≡ false)
  -- 3: stamp 6 on a key, and a put at 5 and at 6
  pub conflict_edges : (put_at 5 ≡ Err refusal.Conflict) × (put_at 6 ≡ Ok answer.Done)
  -- 4: the same stamp after a checked read at 5
  pub stale_edges :
      (commit_after (row_from 2 (moment.Mark 0) ∷ []) ≡ Err refusal.StaleRead) × (commit_after [] ≡ Ok (answer.At 0))
  -- 5: read times 4 and 7 open at clock 9, and none open
  pub horizon_edges :
      (horizon 9 (opened_at Plain 7 ∷ (closed ∷ (opened_at Checked 4 ∷ []))) ≡ 4) × (horizon 9 (closed ∷ (closed ∷ [])) ≡ 9)
  -- 6: B and E at 4 and at 5, with horizon 4
  pub due_edges : (borne : Bool)
      → (due_kind B 4 None 4 borne ≡ true)
      × (due_kind B 5 None 4 borne ≡ false)
      × (due_kind E 1 (Some (moment.Stamp 4)) 4 borne ≡ true)
      × (due_kind E 1 (Some (moment.Stamp 5)) 4 borne ≡ false)
  -- 7: the Bloom places of 4,097 and of 5
  pub bloom_places :
      (first_place 4097 ≡ 1) × (second_place 4097 ≡ 1) × (third_place 4097 ≡ 2)
      × (first_place 5 ≡ 5) × (second_place 5 ≡ 0) × (third_place 5 ≡ 5)
  -- 8: choose, put by a session, copy
  pub overtaken_move : (copied_last ≡ Err refusal.MoveOver) × (number_of refusal.MoveOver ≡ 14)
