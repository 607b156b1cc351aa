-- The parts of what a run of the program over lines did: what it uses, and two tables by the status: which steps it took,
-- with what stands then (`EndsBy`), and which bytes were written (`WritesBy`). The record of the whole run, `Ran`, is made
-- of them in the specs of bench_loop.
use Rattle.std.specs.Prelude.{◌≡◌, ◌≢◌, ℕ, suc, ◌<◌, ◌≤◌, Bool, true, false, ◌⊎◌, List, [], ◌∷◌, ◌++◌, length, take, Option, Some, None, if◌then◌else◌}
use Rattle.paygo_spec.specs.declared.Event.{Event}
use Rattle.paygo_spec.specs.declared.Reply.{Reply}
use Rattle.paygo_spec.specs.declared.Reply.TheVariants.{Down}
use Rattle.paygo_spec.specs.Flash.{FlashView, DueAfter, DueWithin}
use Rattle.paygo_spec.specs.Streams.{SinkView}
use Rattle.paygo_spec.specs.Machine.{State, Stand, Acts, calls_of}
use Rattle.ledger_spec.specs.declared.Command.{Command}
use Rattle.ledger_spec.specs.Keeper.{KeeperView}
use Rattle.ledger_spec.specs.Ledger.{IsCommand, done}
use Rattle.run_spec.specs.declared.Mode.{Mode}
use Rattle.run_spec.specs.declared.Mode.TheVariants as mode
use Rattle.run_spec.specs.declared.Status.{Status}
use Rattle.run_spec.specs.declared.Status.TheVariants as status
use Rattle.run_spec.specs.Lines.{whole_lines, all_lines, behind}
use Rattle.run_spec.specs.Run.{Step, Do, Act, Answer, Told, World, MayAnswerBy}
use Rattle.run_spec.specs.Meaning.{trimmed, is_ledger_text, steps_of_line, steps_of}
use Rattle.run_spec.specs.Text.{line_of, text}

-- Whether a run uses the keeper, and whether it uses the flash.
abbrev pub uses_keeper : Mode → Bool
uses_keeper mode.Device = false
uses_keeper _ = true

abbrev pub uses_flash : Mode → Bool
uses_flash mode.Serve = false
uses_flash _ = true

-- What a run uses stands for what the machine says: the keeper for its tables, and the flash for its device.
pub record Agree (mode : Mode) (keeper : KeeperView) (flash : FlashView) (world : World) : Type 0 where
  pub tables : uses_keeper mode ≡ true → keeper.tables ≡ Some world.tables
  pub device : uses_flash mode ≡ true → Stand flash world.device

-- The lines of the bytes taken. A last piece without its end is a line only where the source has told its end.
abbrev pub lines_taken : Bool → List ℕ → List (List ℕ)
lines_taken ended taken = if ended then all_lines taken else whole_lines taken

-- This is a line of the bytes taken, and these are the lines before it. Of the bytes behind its end fewer than 8,192 were taken,
-- since a block of so many is read only where no whole line is held.
pub record IsAmong (ended : Bool) (taken : List ℕ) (earlier : List (List ℕ)) (line : List ℕ) : Type 0 where
  pub later : List (List ℕ)
  pub split : lines_taken ended taken ≡ earlier ++ line ∷ later
  pub ahead : length (behind (suc (length earlier)) taken) < 8192

-- The steps are those of the lines before this one, which is a line of the ledger that is read: it has at most 4,096
-- bytes, and the run takes such lines.
pub record IsBefore (mode : Mode) (line : List ℕ) (ended : Bool) (taken : List ℕ) (steps : List Step) : Type 0 where
  pub earlier : List (List ℕ)
  pub place : IsAmong ended taken earlier line
  pub steps_are : steps ≡ steps_of mode earlier
  pub takes : uses_keeper mode ≡ true
  pub short : length line ≤ 4096
  pub is_ledger : is_ledger_text (trimmed line) ≡ true

-- These steps are this command alone, which is in range.
pub record AsksFor (command : Command) (steps : List Step) : Type 0 where
  pub alone : steps ≡ Do command ∷ []
  pub range : IsCommand command

-- The steps are those of the lines before this one and first steps of its own, at least one.
pub record IsWithin (mode : Mode) (line : List ℕ) (ended : Bool) (taken : List ℕ) (steps : List Step) : Type 0 where
  pub earlier : List (List ℕ)
  pub place : IsAmong ended taken earlier line
  pub front : List Step
  pub others : List Step
  pub some : front ≢ []
  pub own : steps_of_line mode line ≡ front ++ others
  pub steps_are : steps ≡ steps_of mode earlier ++ front

-- The world is as it was, or the tables are those with the whole change of this command.
abbrev pub MayChange : (List ℕ → ℕ → ℕ) → Command → World → World → Type 0
MayChange next command old new =
    (new ≡ old) ⊎ (new ≡ record old { tables = (done next old.tables command).tables })

-- Which steps were taken, by the status of the run and whether the source has told its end: those of all lines of the
-- bytes taken at Ok, those of the whole lines at Read and Long, and at Write those of the lines before the one that failed, and
-- the first ones of that line, up to the one whose answer was cut. At Keep and Memory they are those of the lines before the
-- one that failed, a line of the ledger. At Keep that one asks for a command, which has changed the tables or hasn't; at
-- Memory nothing has changed.
abbrev pub EndsBy : (List ℕ → ℕ → ℕ) → Mode → Status → Bool → List ℕ → List Step → World → World → Type 0
EndsBy next mode status.Ok ended taken steps reached now = (steps ≡ steps_of mode (all_lines taken)) × (now ≡ reached)
EndsBy next mode status.Read ended taken steps reached now =
    (steps ≡ steps_of mode (whole_lines taken)) × (now ≡ reached)
EndsBy next mode status.Long ended taken steps reached now =
    (steps ≡ steps_of mode (whole_lines taken)) × (now ≡ reached)
EndsBy next mode status.Write ended taken steps reached now =
    ((line : List ℕ) × IsWithin mode line ended taken steps) × (now ≡ reached)
EndsBy next mode status.Keep ended taken steps reached now =
    (line : List ℕ) × (command : Command) × IsBefore mode line ended taken steps
    × AsksFor command (steps_of_line mode line) × MayChange next command reached now
EndsBy next mode status.Memory ended taken steps reached now =
    ((line : List ℕ) × IsBefore mode line ended taken steps) × (now ≡ reached)
EndsBy next mode status.Usage ended taken steps reached now = ⊥

-- The last of these answers was cut: of its line fewer bytes were written than it has. Every earlier answer was written
-- whole.
pub record IsCut (before : List ℕ) (answers : List (Option Answer)) (sink : SinkView) : Type 0 where
  pub earlier : List (Option Answer)
  pub last : Answer
  pub answers_are : answers ≡ earlier ++ Some last ∷ []
  pub more : ℕ
  pub cut : more < length (line_of (Some last))
  pub written : sink.written ≡ before ++ (text earlier ++ take more (line_of (Some last)))

-- Which bytes were written of these answers behind those that were there before, by the status: at Write all but the end of
-- the last answer, and else all.
abbrev pub WritesBy : Status → List ℕ → List (Option Answer) → SinkView → Type 0
WritesBy status.Write before answers sink = IsCut before answers sink
WritesBy _ before answers sink = sink.written ≡ before ++ text answers

-- How many calls of the flash a step makes, if that is said: an event as many as this says, and any other step none.
abbrev pub calls_of_step : (State → Event → Option ℕ) → World → Step → Option ℕ
calls_of_step calls world (Act event) = calls world.device event
calls_of_step calls world step = Some 0

-- A due after calls whose number isn't said: a number fell, or the failure that it planned came.
abbrev pub MayFall : Option (Option ℕ) → Option (Option ℕ) → Type 0
MayFall (Some (Some due)) now = (now ≡ Some None) ⊎ ((left : ℕ) × (left ≤ due) × (now ≡ Some (Some left)))
MayFall due now = now ≡ due

-- What becomes of the flash's due at the answer to a step that makes so many calls: it falls by their number, and where
-- the answer is `down`, it was below it.
abbrev pub DueBy : Option ℕ → Option Answer → Option (Option ℕ) → Option (Option ℕ) → Type 0
DueBy None answer due now = MayFall due now
DueBy (Some calls) (Some (Told Down)) due now = DueWithin calls due now
DueBy (Some calls) answer due now = DueAfter calls due now

-- These steps may have these answers, one after another, and that becomes of the due.
abbrev pub SpendsBy : (Event → Option Reply → State → State → Type 0) → (State → Event → Option ℕ) → (List ℕ → ℕ → ℕ)
    → World → List Step → List (Option Answer) → World → Option (Option ℕ) → Option (Option ℕ) → Type 0
SpendsBy acts calls next old [] [] new due now = (new ≡ old) × (now ≡ due)
SpendsBy acts calls next old (step ∷ steps) (answer ∷ answers) new due now =
    (mid : World) × (left : Option (Option ℕ)) × MayAnswerBy acts next step answer old mid
    × DueBy (calls_of_step calls old step) answer due left × SpendsBy acts calls next mid steps answers new left now
SpendsBy acts calls next old _ _ new due now = ⊥

-- The same of the device's machine, whose events make as many calls as the specification says. It isn't said of `power`
-- on a damaged flash.
abbrev pub Spends : (List ℕ → ℕ → ℕ) → World → List Step → List (Option Answer) → World
    → Option (Option ℕ) → Option (Option ℕ) → Type 0
Spends next = SpendsBy (Acts next) (calls_of next) next
