-- What a run of `sheets` did: which answers were given, what stands in the tables then, and what was written.
use Rattle.std.specs.Prelude.{◌≡◌, ℕ, ◌<◌, Bool, true, ◌⊎◌, List, [], ◌∷◌, ◌++◌, length, take, Some}
use Rattle.paygo_spec.specs.Streams.{SinkView}
use Rattle.ledger_spec.specs.Keeper.{KeeperView}
use Rattle.ledger_spec.specs.Tables.{Tables}
use Rattle.run_spec.specs.declared.Status.{Status}
use Rattle.run_spec.specs.declared.Status.TheVariants as status
use Rattle.run_spec.specs.Lines.{whole_lines, all_lines}
use Rattle.run_spec.specs.Ran.{IsAmong}
use Rattle.line_loop.specs.Outside.{Outside}
use Rattle.sheet_loop.specs.Office.{Office, Answered, answers_of_line, behind, answers_to, last_word}
use Rattle.sheet_loop.specs.Office.{answers_with_last, line_of, text_of}

-- Before the first line: these tables, and no report.
abbrev pub opened : Tables → Office
opened tables = record { tables = tables; reports = [] }

-- A line failed at one of its answers. Given are all answers to the lines before it, and its own up to that one; left
-- are its own from that one on.
pub record BreaksOff (next : List ℕ → ℕ → ℕ) (ended : Bool) (taken : List ℕ) (start : Office)
    (given left : List Answered) : Type 0 where
  pub earlier : List (List ℕ)
  pub line : List ℕ
  pub place : IsAmong ended taken earlier line
  pub own : List Answered
  pub given_are : given ≡ answers_to next earlier start ++ own
  pub line_has : answers_of_line next line (behind start (answers_to next earlier start)) ≡ own ++ left

-- The last word alone is left, behind all lines of an input that has ended.
pub record LacksLast (next : List ℕ → ℕ → ℕ) (ended : Bool) (taken : List ℕ) (start : Office)
    (given left : List Answered) : Type 0 where
  pub told : ended ≡ true
  pub given_are : given ≡ answers_to next (all_lines taken) start
  pub left_is : left ≡ last_word (behind start given) ∷ []

-- Which answers were given, and which are left, by the status and whether the source has told its end.
abbrev pub EndsAt : (List ℕ → ℕ → ℕ) → Status → Bool → List ℕ → Office → (given left : List Answered) → Type 0
EndsAt next status.Ok ended taken start given left =
    (given ≡ answers_with_last next (all_lines taken) start) × (left ≡ [])
EndsAt next status.Read ended taken start given left =
    (given ≡ answers_to next (whole_lines taken) start) × (left ≡ [])
EndsAt next status.Long ended taken start given left =
    (given ≡ answers_to next (whole_lines taken) start) × (left ≡ [])
EndsAt next status.Write ended taken start given left =
    BreaksOff next ended taken start given left ⊎ LacksLast next ended taken start given left
EndsAt next status.Keep ended taken start given left = BreaksOff next ended taken start given left
EndsAt next status.Memory ended taken start given left = BreaksOff next ended taken start given left
EndsAt next status.Usage ended taken start given left = ⊥

-- The answers that were given are written whole, and the tables are those behind them.
pub record LeavesWhole (start : Office) (given : List Answered) (old : SinkView) (keeper : KeeperView) (new : SinkView)
    : Type 0 where
  pub tables : keeper.tables ≡ Some (behind start given).tables
  pub written : new.written ≡ old.written ++ text_of given

-- The sink failed at the first answer that is left: what it answers was done, and of its line fewer bytes were written
-- than it has.
pub record LeavesCut (given left : List Answered) (old : SinkView) (keeper : KeeperView) (new : SinkView) : Type 0 where
  pub failed : Answered
  pub later : List Answered
  pub left_are : left ≡ failed ∷ later
  pub tables : keeper.tables ≡ Some failed.office.tables
  pub more : ℕ
  pub fewer : more < length (line_of failed)
  pub written : new.written ≡ old.written ++ (text_of given ++ take more (line_of failed))

-- The keeper failed at the first answer that is left: nothing was written of it, and the tables are as before it, or
-- have its whole change.
pub record LeavesDoubt (start : Office) (given left : List Answered) (old : SinkView) (keeper : KeeperView)
    (new : SinkView) : Type 0 where
  pub failed : Answered
  pub later : List Answered
  pub left_are : left ≡ failed ∷ later
  pub tables : (keeper.tables ≡ Some (behind start given).tables) ⊎ (keeper.tables ≡ Some failed.office.tables)
  pub written : new.written ≡ old.written ++ text_of given

-- What stands then, by the status.
abbrev pub Leaves : Status → Office → (given left : List Answered) → SinkView → KeeperView → SinkView → Type 0
Leaves status.Write start given left old keeper new = LeavesCut given left old keeper new
Leaves status.Keep start given left old keeper new = LeavesDoubt start given left old keeper new
Leaves status.Usage start given left old keeper new = ⊥
Leaves _ start given left old keeper new = LeavesWhole start given old keeper new

-- What a run of `sheets` did: its source handed out these bytes, and to their lines these answers were given.
pub record DidSheets (next : List ℕ → ℕ → ℕ) (result : Status) (start : Office) (old new : Outside) : Type 0 where
  pub taken : List ℕ
  pub handed : new.source.given ≡ old.source.given ++ taken
  pub given : List Answered
  pub left : List Answered
  pub ends : EndsAt next result new.source.ended taken start given left
  pub leaves : Leaves result start given left old.sink new.keeper new.sink

-- The same from whatever tables the keeper tells.
abbrev pub RunsSheets : (List ℕ → ℕ → ℕ) → Status → Outside → Outside → Type 0
RunsSheets next result old new =
    (tables : Tables) → old.keeper.tables ≡ Some tables → DidSheets next result (opened tables) old new
