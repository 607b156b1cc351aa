-- How a line is gathered out of the blocks that are read.
use Rattle.std.specs.Prelude.{◌≡◌, ℕ, ◌+◌, ◌<◌, Bool, false, ◌==◌, nat_le, List, [], ◌∷◌, ◌++◌, length, take, Result, Ok, Err, if◌then◌else◌}
use Rattle.paygo_spec.specs.Faults.{Rose}
use Rattle.paygo_spec.specs.Streams.{SourceView}
use Rattle.run_spec.specs.Lines.{whole_lines}
use Rattle.line_loop.specs.declared.lines.Next.{Next}
use Rattle.line_loop.specs.declared.lines.Next.TheVariants.{Line, Long}
use Rattle.line_loop.specs.declared.lines.LinesFault.{LinesFault}
use Rattle.line_loop.specs.declared.lines.LinesFault.TheVariants as fault
use Rattle.line_loop.specs.Reader.{LinesView, Came}

abbrev pub is_end : ℕ → Bool
is_end byte = byte == 10

-- What a line of this length is handed out as.
abbrev pub handed_of : ℕ → Next
handed_of size = if nat_le size 4096 then Line size else Long size

-- The buffer has the front of this text, which has this length.
pub record IsFront (buffer text : List ℕ) (size : ℕ) : Type 0 where
  pub size_is : size ≡ length text
  pub same : take size buffer ≡ take 4096 text

-- The bytes held, up to the end of a line or all of them, went behind what the buffer had.
pub record IsPiece (size : ℕ) (whole : Bool) (before : ℕ) (buffer buffer' : List ℕ) (old new : LinesView) : Type 0 where
  pub piece : List ℕ
  pub unended : whole_lines piece ≡ []
  pub held : old.held ≡ (if whole then piece ++ 10 ∷ new.held else piece)
  pub none : whole ≡ false → new.held ≡ []
  pub size_is : size ≡ before + length piece
  pub front : (text : List ℕ) → IsFront buffer text before → IsFront buffer' (text ++ piece) size
  pub ahead : length new.held < 8192
  pub budget : new.budget ≡ old.budget
  pub taken : new.taken ≡ old.taken
  pub ended : new.ended ≡ old.ended

-- A block was read; nothing was, at the end of the source; or nothing could be.
abbrev pub Fills : Result (Unit {0}) LinesFault → LinesView → LinesView → SourceView → SourceView → Type 0
Fills (Ok done) old new was now =
    (came : List ℕ) × Came came old new was now × (new.held ≡ came) × (new.ended ≡ (length came == 0))
    × (now.faults ≡ was.faults)
Fills (Err fault.Read) old new was now =
    Came [] old new was now × (new.ended ≡ false) × (new.taken < new.budget) × Rose was.faults now.faults
Fills (Err fault.Budget) old new was now = (now ≡ was) × (new ≡ old) × (old.taken ≡ old.budget)
