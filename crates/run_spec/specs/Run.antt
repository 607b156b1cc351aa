-- A run of shop and device as a machine: what may be answered to each step, and what stands then. A command changes the
-- tables alone, and an event the device alone. Its free choices are those of the device.
use Rattle.std.specs.Prelude.{◌≡◌, ℕ, List, [], ◌∷◌, Option, Some, None}
use Rattle.paygo_spec.specs.declared.Event.{Event}
use Rattle.paygo_spec.specs.declared.Reply.{Reply}
use Rattle.paygo_spec.specs.Machine.{State, Stored, Acts, IsEvent, starting}
use Rattle.ledger_spec.specs.declared.Answer.{Answer as LedgerAnswer}
use Rattle.ledger_spec.specs.declared.Command.{Command}
use Rattle.ledger_spec.specs.Tables.{Tables}
use Rattle.ledger_spec.specs.Ledger.{IsCommand, done}

-- One step of a run: a text is said, a command is given to the ledger, or an event happens to the device.
pub data Step : Type 0 where
  Say : (text : List ℕ) → Step
  Do : (command : Command) → Step
  Act : (event : Event) → Step

-- What is answered to a step.
pub data Answer : Type 0 where
  Said : (text : List ℕ) → Answer
  Did : (answer : LedgerAnswer) → Answer
  Told : (reply : Reply) → Answer

-- The shop and the device: the tables, and what stands on the other side.
pub record World : Type 0 where
  pub tables : Tables
  pub device : State

-- Before the first line: these tables, and a device that is off.
abbrev pub beginning : Tables → Stored → ℕ → World
beginning tables stored faults = record { tables = tables; device = starting stored faults }

-- A command in range has the answer and the tables that the ledger says.
abbrev pub Serves : (List ℕ → ℕ → ℕ) → Command → LedgerAnswer → Tables → Tables → Type 0
Serves next command answer old new =
    IsCommand command × (answer ≡ (done next old command).answer) × (new ≡ (done next old command).tables)

-- The step may be answered so, and the world goes on to new, where this says what a device may reply to an event and what
-- it goes on to: a command leaves the device as it was, and an event the tables.
abbrev pub MayAnswerBy : (Event → Option Reply → State → State → Type 0) → (List ℕ → ℕ → ℕ) → Step → Option Answer
    → World → World → Type 0
MayAnswerBy acts next (Say text) (Some (Said said)) old new = (said ≡ text) × (new ≡ old)
MayAnswerBy acts next (Do command) (Some (Did answer)) old new =
    Serves next command answer old.tables new.tables × (new.device ≡ old.device)
MayAnswerBy acts next (Act event) (Some (Told reply)) old new =
    (IsEvent event × acts event (Some reply) old.device new.device) × (new.tables ≡ old.tables)
MayAnswerBy acts next (Act event) None old new =
    (IsEvent event × acts event None old.device new.device) × (new.tables ≡ old.tables)
MayAnswerBy acts next _ _ old new = ⊥

-- These steps may have these answers, one after another.
abbrev pub RunBy : (Event → Option Reply → State → State → Type 0) → (List ℕ → ℕ → ℕ) → World → List Step
    → List (Option Answer) → World → Type 0
RunBy acts next old [] [] new = new ≡ old
RunBy acts next old (step ∷ steps) (answer ∷ answers) new =
    (mid : World) × MayAnswerBy acts next step answer old mid × RunBy acts next mid steps answers new
RunBy acts next old _ _ new = ⊥

-- The same of the device's machine.
abbrev pub MayAnswer : (List ℕ → ℕ → ℕ) → Step → Option Answer → World → World → Type 0
MayAnswer next = MayAnswerBy (Acts next) next

abbrev pub Run : (List ℕ → ℕ → ℕ) → World → List Step → List (Option Answer) → World → Type 0
Run next = RunBy (Acts next) next
