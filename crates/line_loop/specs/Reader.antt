-- A reader of lines, as it is seen from outside.
use Rattle.std.specs.Prelude.{◌≡◌, ◌≢◌, ◌⊎◌, ℕ, ◌+◌, ◌<◌, ◌≤◌, Bool, true, false, List, [], ◌∷◌, ◌++◌, length, take, Result, Ok, Err, OnOk}
use Rattle.std.specs.Io.KnownBytes.{prepend_known, IsAtEnd}
use Rattle.paygo_spec.specs.Faults.{Rose}
use Rattle.paygo_spec.specs.Streams.{SourceView}
use Rattle.run_spec.specs.Lines.{whole_lines}
use Rattle.line_loop.specs.declared.lines.Next.{Next}
use Rattle.line_loop.specs.declared.lines.Next.TheVariants.{Line, Long, End}
use Rattle.line_loop.specs.declared.lines.LinesFault.{LinesFault}
use Rattle.line_loop.specs.declared.lines.LinesFault.TheVariants as fault

-- The most bytes that it takes in all, how many it has taken, those of them that it hasn't handed out, and whether the
-- source has told its end.
pub record LinesView : Type 0 where
  pub budget : ℕ
  pub taken : ℕ
  pub held : List ℕ
  pub ended : Bool

-- In a call these bytes came from the source, and were counted.
pub record Came (came : List ℕ) (old new : LinesView) (was now : SourceView) : Type 0 where
  pub given : now.given ≡ was.given ++ came
  pub left : was.left ≡ prepend_known came now.left
  pub counted : new.taken ≡ old.taken + length came
  pub budget : new.budget ≡ old.budget
  pub most : new.taken ≤ new.budget
  -- once the end is told the source isn't read again, it stays told, and it is told only where the source is at its end
  pub unread : old.ended ≡ true → now ≡ was
  pub quiet : old.ended ≡ true → length came ≡ 0
  pub once : old.ended ≡ true → new.ended ≡ true
  pub told : old.ended ≡ false → new.ended ≡ true → (now.ended ≡ true) × IsAtEnd now.left
  -- where it isn't told, the source tells no end behind the bytes that came, and otherwise what it told before
  pub unended : new.ended ≡ false → length came ≢ 0 → now.ended ≡ false
  pub same : new.ended ≡ false → length came ≡ 0 → now.ended ≡ was.ended

-- The bytes held, up to the end of a line, are this line; or all of them are, as the last piece of an input that ended.
abbrev pub IsLine : List ℕ → List ℕ → LinesView → Type 0
IsLine bytes line new =
    (whole_lines line ≡ [])
    × ((bytes ≡ line ++ 10 ∷ new.held) ⊎ ((bytes ≡ line) × (new.held ≡ []) × (new.ended ≡ true) × (line ≢ [])))

-- What a call answered, by the bytes that it had and those that came. Of a line above 4,096 bytes its length is told.
abbrev pub HandsOut : Result Next LinesFault → List ℕ → List ℕ → LinesView → Type 0
HandsOut (Ok (Line len)) bytes buffer new = (len ≤ 4096) × (len ≤ length bytes) × IsLine bytes (take len buffer) new
HandsOut (Ok (Long size)) bytes buffer new =
    (line : List ℕ) × (length line ≡ size) × (4096 < size) × IsLine bytes line new
HandsOut (Ok End) bytes buffer new = (bytes ≡ []) × (new.held ≡ []) × (new.ended ≡ true)
HandsOut (Err fault.Read) bytes buffer new = (whole_lines bytes ≡ []) × (new.taken < new.budget) × (new.ended ≡ false)
HandsOut (Err fault.Budget) bytes buffer new = (whole_lines bytes ≡ []) × (new.taken ≡ new.budget) × (new.ended ≡ false)

-- A call that answers Read had one fault of the source, and any other had none.
abbrev pub ReadsBy : Result Next LinesFault → ℕ → ℕ → Type 0
ReadsBy (Err fault.Read) before now = Rose before now
ReadsBy result before now = now ≡ before

-- A call of `next`: some bytes came, and with those held before they make what it answers. The source was read only
-- where no whole line was held, so behind what is handed out less than a block is held.
pub record Hands (result : Result Next LinesFault) (buffer : List ℕ) (old new : LinesView) (was now : SourceView)
    : Type 0 where
  pub came : List ℕ
  pub counts : Came came old new was now
  pub answer : HandsOut result (old.held ++ came) buffer new
  pub faults : ReadsBy result was.faults now.faults
  pub needed : (now ≡ was) ⊎ (whole_lines old.held ≡ [])
  pub ahead : OnOk result (length new.held < 8192)
