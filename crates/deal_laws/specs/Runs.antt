-- Which turns a run of the program is, by its status.
use Rattle.std.specs.Prelude.{◌≡◌, ℕ, ◌⊎◌, Bool, List, [], ◌∷◌, ◌++◌, Option}
use Rattle.ledger_spec.specs.declared.Command.{Command}
use Rattle.run_spec.specs.declared.Mode.{Mode}
use Rattle.run_spec.specs.declared.Status.{Status}
use Rattle.run_spec.specs.declared.Status.TheVariants as status
use Rattle.run_spec.specs.Lines.{whole_lines, all_lines}
use Rattle.run_spec.specs.Meaning.{steps_of_line, steps_of}
use Rattle.run_spec.specs.Ran.{IsBefore, IsWithin, AsksFor}
use Rattle.run_spec.specs.Run.{Step, Answer, World}
use Rattle.deal_laws.specs.Meaning.{Turn, Answered, Unanswered}
use Rattle.deal_laws.specs.Lives.{Lives}

-- The turns of a run of the program: each step with its answer.
abbrev pub turns_of : List Step → List (Option Answer) → List Turn
turns_of (step ∷ steps) (answer ∷ answers) = Answered step answer ∷ turns_of steps answers
turns_of _ _ = []

-- Which steps were answered, by the status of a run, and which command wasn't, behind them. They are those of all lines
-- at Ok, and of the whole lines at Read and Long; at Write those up to the answer that was cut, at Keep and Memory
-- those of the lines before the one that failed. Only at Keep a command may have been lost, that of the line that
-- failed.
abbrev pub EndsIn : Mode → Status → Bool → List ℕ → List Step → List Turn → Type 0
EndsIn mode status.Ok ended taken steps lost = (steps ≡ steps_of mode (all_lines taken)) × (lost ≡ [])
EndsIn mode status.Read ended taken steps lost = (steps ≡ steps_of mode (whole_lines taken)) × (lost ≡ [])
EndsIn mode status.Long ended taken steps lost = (steps ≡ steps_of mode (whole_lines taken)) × (lost ≡ [])
EndsIn mode status.Write ended taken steps lost =
    ((line : List ℕ) × IsWithin mode line ended taken steps) × (lost ≡ [])
EndsIn mode status.Keep ended taken steps lost =
    (line : List ℕ) × (command : Command) × IsBefore mode line ended taken steps
    × AsksFor command (steps_of_line mode line) × ((lost ≡ []) ⊎ (lost ≡ Unanswered command ∷ []))
EndsIn mode status.Memory ended taken steps lost =
    ((line : List ℕ) × IsBefore mode line ended taken steps) × (lost ≡ [])
EndsIn mode status.Usage ended taken steps lost = ⊥

-- A run that ended so is a life from this world to that: its steps with their answers, and behind them the command that
-- it lost, if it did.
pub record IsLife (next : List ℕ → ℕ → ℕ) (mode : Mode) (result : Status) (ended : Bool) (taken : List ℕ)
    (steps : List Step) (answers : List (Option Answer)) (start now : World) : Type 0 where
  pub lost : List Turn
  pub ends : EndsIn mode result ended taken steps lost
  pub lives : Lives next start (turns_of steps answers ++ lost) now
