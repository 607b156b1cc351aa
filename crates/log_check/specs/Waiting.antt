-- What waits for its answers, as steps of a run, and how the first of them are taken.
use Rattle.std.specs.Prelude.{◌≡◌, ℕ, Bool, true, false, List, [], ◌∷◌, map, drop, codes}
use Rattle.paygo_spec.specs.declared.Event.{Event}
use Rattle.paygo_spec.specs.Machine.{State, IsEvent}
use Rattle.ledger_spec.specs.AnswerText.{text_of_fault}
use Rattle.ledger_spec.specs.Ledger.{IsCommand}
use Rattle.ledger_spec.specs.Tables.{Tables}
use Rattle.run_spec.specs.Run.{Step, Say, Do, Act}
use Rattle.log_check.specs.declared.states.States.{States}
use Rattle.log_check.specs.declared.waiting.Waiting.{Waiting}
use Rattle.log_check.specs.declared.waiting.Waiting.TheVariants.{Unread, Fault, Command, Events}
use Rattle.log_check.specs.declared.waiting.First.{First}
use Rattle.log_check.specs.declared.waiting.First.TheVariants as first
use Rattle.log_check.specs.Fits.{is_silent, settled}
use Rattle.log_check.specs.Kept.{AreStates}

-- Each of these may be asked for.
abbrev pub AreEvents : List Event → Type 0
AreEvents [] = Unit {0}
AreEvents (event ∷ events) = IsEvent event × AreEvents events

-- What waits may be asked for.
abbrev pub IsWaiting : Waiting → Type 0
IsWaiting (Command command) = IsCommand command
IsWaiting (Events events at) = AreEvents events.items
IsWaiting _ = Unit {0}

-- Whether a step waits.
abbrev pub some_wait : List Step → Bool
some_wait [] = false
some_wait (step ∷ steps) = true

-- The steps of these events from this place on.
abbrev pub acts_from : ℕ → List Event → List Step
acts_from at events = map Act (drop at events)

-- The steps that wait.
abbrev pub steps_of : Waiting → List Step
steps_of Unread = Say (codes "unread") ∷ []
steps_of (Fault fault) = Say (text_of_fault fault) ∷ []
steps_of (Command command) = Do command ∷ []
steps_of (Events events at) = acts_from at events.items

-- The first of these steps, which may be asked for.
abbrev pub IsFirst : First → List Step → Type 0
IsFirst first.Nothing steps = steps ≡ []
IsFirst first.Unread steps = steps ≡ Say (codes "unread") ∷ []
IsFirst (first.Fault fault) steps = steps ≡ Say (text_of_fault fault) ∷ []
IsFirst (first.Command command) steps = (steps ≡ Do command ∷ []) × IsCommand command
IsFirst (first.Event event) steps = (steps ≡ Act event ∷ drop 1 steps) × IsEvent event

-- No step that waits first is silent.
abbrev pub IsSettled : List Step → List State → Type 0
IsSettled (Act event ∷ waiting) states = is_silent event states ≡ false
IsSettled waiting states = Unit {0}

-- Of the steps that wait, the first that have no answer are taken: then these wait, and the kept states are those that
-- fit.
pub record SettledTo (next : List ℕ → ℕ → ℕ) (tables : Tables) (old : List State) (waiting : List Step) (kept : States)
    (left : List Step) : Type 0 where
  pub tables_are : (settled next waiting tables old).tables ≡ tables
  pub left_are : (settled next waiting tables old).waiting ≡ left
  pub states_are : AreStates kept (settled next waiting tables old).states
  pub is_settled : IsSettled left (settled next waiting tables old).states
