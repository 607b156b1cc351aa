-- What becomes of one line of an agent: its answers, up to the one at which it fails.
use Rattle.std.specs.Prelude.{◌≡◌, List, [], ◌++◌, Some, Result, Ok, Err}
use Rattle.paygo_spec.specs.Streams.{SinkView}
use Rattle.ledger_spec.specs.Keeper.{KeeperView}
use Rattle.ledger_spec.specs.declared.LedgerFault.{LedgerFault}
use Rattle.ledger_spec.specs.declared.LedgerFault.TheVariants as ledger
use Rattle.line_loop.specs.declared.handler.LineFault.{LineFault}
use Rattle.line_loop.specs.declared.handler.LineFault.TheVariants as fault
use Rattle.sheet_book.specs.declared.book.Book.{Book}
use Rattle.sheet_book.specs.Books.{StandsFor}
use Rattle.sheet_loop.specs.Office.{Office, Answered, behind}
use Rattle.sheet_loop.specs.Sheets.{LeavesWhole, LeavesCut, LeavesDoubt}

-- A fault of the ledger as one of a line.
abbrev pub fault_of : LedgerFault → LineFault
fault_of ledger.Keeper = fault.Keep
fault_of ledger.Memory = fault.Memory

-- What came of a call, without what it answers.
abbrev pub plain : {A : Type 0} → Result A LineFault → Result (Unit {0}) LineFault
plain (Ok answer) = Ok tt
plain (Err failed) = Err failed

-- A keeper that tells its tables and a book stand for this office.
pub record StandsAs (keeper : KeeperView) (book : Book) (office : Office) : Type 0 where
  pub tables : keeper.tables ≡ Some office.tables
  pub reports : StandsFor book office.reports

-- All answers were given: they are written, and keeper and book stand for what is behind them.
pub record GaveAll (start : Office) (given left : List Answered) (old : SinkView) (keeper : KeeperView) (book : Book)
    (new : SinkView) : Type 0 where
  pub all : left ≡ []
  pub stands : StandsAs keeper book (behind start given)
  pub leaves : LeavesWhole start given old keeper new

-- What stands behind the answers that were given, and those that are left.
abbrev pub GaveBy : Result (Unit {0}) LineFault → Office → (given left : List Answered) → SinkView → KeeperView → Book
    → SinkView → Type 0
GaveBy (Ok done) start given left old keeper book new = GaveAll start given left old keeper book new
GaveBy (Err fault.Write) start given left old keeper book new = LeavesCut given left old keeper new
GaveBy (Err fault.Keep) start given left old keeper book new = LeavesDoubt start given left old keeper new
GaveBy (Err fault.Memory) start given left old keeper book new = LeavesWhole start given old keeper new

-- Of these answers the first ones were given, up to where it failed.
pub record Gave (answers : List Answered) (outcome : Result (Unit {0}) LineFault) (start : Office) (old : SinkView)
    (keeper : KeeperView) (book : Book) (new : SinkView) : Type 0 where
  pub given : List Answered
  pub left : List Answered
  pub split : answers ≡ given ++ left
  pub by : GaveBy outcome start given left old keeper book new

-- Whatever keeper and book stand for, that became of the answers.
abbrev pub Gives : (Office → List Answered) → Result (Unit {0}) LineFault → (keeper : KeeperView) (book : Book)
    (old : SinkView) → (keeper' : KeeperView) (book' : Book) (new : SinkView) → Type 0
Gives answers outcome keeper book old keeper' book' new =
    (office : Office) → StandsAs keeper book office → Gave (answers office) outcome office old keeper' book' new
