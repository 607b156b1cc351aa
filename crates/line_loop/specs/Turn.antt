-- One turn of a run: a line is taken and handled, or the run ends.
use Rattle.std.specs.Prelude.{◌≡◌, ℕ, ◌<◌, true, false, List, [], ◌++◌, length, Option, Some, None, Result, Ok, Err, ◌⊎◌}
use Rattle.paygo_spec.specs.Streams.{SourceView, SinkView}
use Rattle.run_spec.specs.declared.Status.{Status}
use Rattle.run_spec.specs.declared.Status.TheVariants as status
use Rattle.run_spec.specs.Lines.{whole_lines}
use Rattle.paygo_ports.specs.declared.sink.WriteFault.{WriteFault}
use Rattle.line_loop.specs.declared.handler.LineFault.{LineFault}
use Rattle.line_loop.specs.declared.handler.LineFault.TheVariants as fault
use Rattle.line_loop.specs.Handling.{Desk}
use Rattle.line_loop.specs.Reader.{LinesView, Came, IsLine}

-- What is seen of the parts of a run.
pub record Parts (Handler : Type 0) : Type 0 where
  pub lines : LinesView
  pub source : SourceView
  pub desk : Desk Handler

abbrev pub parts : {Handler : Type 0} → LinesView → SourceView → Desk Handler → Parts Handler
parts lines source desk = record { lines = lines; source = source; desk = desk }

-- The status with which a run ends where a line failed.
abbrev pub ended_by : Result (Unit {0}) LineFault → Option Status
ended_by (Ok done) = None
ended_by (Err fault.Write) = Some status.Write
ended_by (Err fault.Keep) = Some status.Keep
ended_by (Err fault.Memory) = Some status.Memory

-- The status with which a run ends behind its last word.
abbrev pub concluded_by : Result (Unit {0}) WriteFault → Status
concluded_by (Ok done) = status.Ok
concluded_by (Err failed) = status.Write

-- A line was taken, and that became of it.
pub record TakesLine {Handler : Type 0}
    (handles : List ℕ → Result (Unit {0}) LineFault → Desk Handler → Desk Handler → Type 0)
    (outcome : Result (Unit {0}) LineFault) (came : List ℕ) (old new : Parts Handler) : Type 0 where
  pub line : List ℕ
  pub is_line : IsLine (old.lines.held ++ came) line new.lines
  pub ahead : length new.lines.held < 8192
  pub handled : handles line outcome old.desk new.desk

-- The input has ended, no line is left of it, and the last word was said or cut.
pub record TakesEnd {Handler : Type 0} (concludes : Handler → Result (Unit {0}) WriteFault → SinkView → SinkView → Type 0)
    (outcome : Result (Unit {0}) WriteFault) (came : List ℕ) (old new : Parts Handler) : Type 0 where
  pub all : old.lines.held ++ came ≡ []
  pub none : new.lines.held ≡ []
  pub ended : new.lines.ended ≡ true
  pub last : concludes old.desk.handler outcome old.desk.sink new.desk.sink
  pub same : new.desk ≡ record old.desk { sink = new.desk.sink }

-- The source failed before the next line was whole, or no more bytes may be taken: no whole line is left.
pub record TakesNone {Handler : Type 0} (came : List ℕ) (old new : Parts Handler) : Type 0 where
  pub none : whole_lines (old.lines.held ++ came) ≡ []
  pub unended : new.lines.ended ≡ false
  pub same : new.desk ≡ old.desk

-- What a turn did, by how the run ended in it: not, because of a line, at the end of the input, because of the source, or because
-- all bytes were taken that may be.
abbrev pub Turns : {Handler : Type 0}
    → (List ℕ → Result (Unit {0}) LineFault → Desk Handler → Desk Handler → Type 0)
    → (Handler → Result (Unit {0}) WriteFault → SinkView → SinkView → Type 0)
    → Option Status → List ℕ → Parts Handler → Parts Handler → Type 0
Turns handles concludes None came old new = TakesLine handles (Ok tt) came old new
Turns handles concludes (Some status.Write) came old new =
    TakesLine handles (Err fault.Write) came old new
    ⊎ ((failed : WriteFault) × TakesEnd concludes (Err failed) came old new)
Turns handles concludes (Some status.Keep) came old new = TakesLine handles (Err fault.Keep) came old new
Turns handles concludes (Some status.Memory) came old new = TakesLine handles (Err fault.Memory) came old new
Turns handles concludes (Some status.Ok) came old new = TakesEnd concludes (Ok tt) came old new
Turns handles concludes (Some status.Read) came old new =
    TakesNone came old new × (new.lines.taken < new.lines.budget)
Turns handles concludes (Some status.Long) came old new =
    TakesNone came old new × (new.lines.taken ≡ new.lines.budget)
Turns handles concludes (Some status.Usage) came old new = ⊥

-- What a turn did, by the bytes that came in it.
pub record Turned {Handler : Type 0}
    (handles : List ℕ → Result (Unit {0}) LineFault → Desk Handler → Desk Handler → Type 0)
    (concludes : Handler → Result (Unit {0}) WriteFault → SinkView → SinkView → Type 0)
    (result : Option Status) (old new : Parts Handler) : Type 0 where
  pub came : List ℕ
  pub counts : Came came old.lines new.lines old.source new.source
  pub turns : Turns handles concludes result came old new
