-- What is promised of a run, by how it ended.
use Rattle.std.proofs.Common.{◌≡◌, ℕ, Bool, inl, inr, List, Option, Some, sym, ap, subst}
use Rattle.paygo_spec.specs.declared.Event.{Event}
use Rattle.paygo_spec.specs.declared.Reply.{Reply}
use Rattle.paygo_spec.specs.Machine.{State, Acts}
use Rattle.paygo_spec.specs.Searched.{SearchedOn}
use Rattle.ledger_spec.specs.declared.Command.{Command}
use Rattle.ledger_spec.specs.declared.Order.{Order}
use Rattle.ledger_spec.specs.Ledger.{IsCommand, done}
use Rattle.ledger_spec.specs.Sound.{Sound, StaysBelow}
use Rattle.ledger_spec.specs.Tables.{order_of, Kept}
use Rattle.ledger_laws.proofs.LaterLemmas.{done_well}
use Rattle.ledger_laws.proofs.SoundLemmas.{sound_done}
use Rattle.run_spec.specs.declared.Mode.{Mode}
use Rattle.run_spec.specs.declared.Status.{Status}
use Rattle.run_spec.specs.declared.Status.TheVariants as status
use Rattle.run_spec.specs.Run.{Step, Answer, World, RunBy, Run}
use Rattle.run_spec.specs.Ran.{EndsBy, MayChange}
use Rattle.run_spec.specs.Headline.{OrdersStand}
use Rattle.run_laws.proofs.Commands.{sound_by, kept_by, orders_stand_by}
use Rattle.run_laws.proofs.Once.{stays_found, tokens_once}
use Rattle.run_laws.proofs.Points.{usables_taken}
use Rattle.bench_loop.specs.Runs.{Promise}

-- What stands at the end of a run is what its steps reached, but where a command that failed changed the tables.
data Changed (next : List ℕ → ℕ → ℕ) (reached now : World) : Type 0 where
  Same : now ≡ reached → Changed next reached now
  Whole : (command : Command) → IsCommand command → now ≡ record reached { tables = (done next reached.tables command).tables } → Changed next reached now

changed_by : (next : List ℕ → ℕ → ℕ) (command : Command) (reached now : World) → IsCommand command → MayChange next command reached now → Changed next reached now
changed_by next command reached now range (inl same) = Same same
changed_by next command reached now range (inr whole) = Whole command range whole

changed : (next : List ℕ → ℕ → ℕ) (mode : Mode) (result : Status) (ended : Bool) (taken : List ℕ) (steps : List Step) (reached now : World) → EndsBy next mode result ended taken steps reached now → Changed next reached now
changed next mode status.Ok ended taken steps reached now ends = Same ends.1
changed next mode status.Usage ended taken steps reached now ends = absurd ends
changed next mode status.Read ended taken steps reached now ends = Same ends.1
changed next mode status.Write ended taken steps reached now ends = Same ends.1
changed next mode status.Keep ended taken steps reached now (line, command, before, asks, change) = changed_by next command reached now asks.range change
changed next mode status.Memory ended taken steps reached now ends = Same ends.1
changed next mode status.Long ended taken steps reached now ends = Same ends.1

-- and the device is what they reached
same_by : (next : List ℕ → ℕ → ℕ) (reached now : World) → Changed next reached now → now.device ≡ reached.device
same_by next reached now (Same same) = ap (λ (w : World). w.device) same
same_by next reached now (Whole command range whole) = ap (λ (w : World). w.device) whole

pub same_device : (next : List ℕ → ℕ → ℕ) (mode : Mode) (result : Status) (ended : Bool) (taken : List ℕ) (steps : List Step) (reached now : World) → EndsBy next mode result ended taken steps reached now
    → now.device ≡ reached.device
same_device next mode result ended taken steps reached now ends = same_by next reached now (changed next mode result ended taken steps reached now ends)

module _ (next : List ℕ → ℕ → ℕ) (below : StaysBelow next) where
  still_sound : (reached now : World) → Changed next reached now → Sound next reached.tables → Sound next now.tables
  still_sound reached now (Same same) sound = subst (λ (w : World). Sound next w.tables) (sym same) sound
  still_sound reached now (Whole command range whole) sound = subst (λ (w : World). Sound next w.tables) (sym whole) (sound_done next below reached.tables command sound range)

  still_there : (reached now : World) → Changed next reached now → Kept reached.tables → (order : Order) → order_of reached.tables order.id ≡ Some order → order_of now.tables order.id ≡ Some order
  still_there reached now (Same same) kept order has = subst (λ (w : World). order_of w.tables order.id ≡ Some order) (sym same) has
  still_there reached now (Whole command range whole) kept order has =
      subst (λ (w : World). order_of w.tables order.id ≡ Some order) (sym whole) ((done_well next below reached.tables command kept range).later.orders order.id order has)

  -- what the tables keep rests on the commands, whatever a device does at its events
  module _ (acts : Event → Option Reply → State → State → Type 0) (mode : Mode) (result : Status) (ended : Bool) (taken : List ℕ) (steps : List Step) (answers : List (Option Answer)) (start reached now : World)
      (run : RunBy acts next start steps answers reached) (ends : EndsBy next mode result ended taken steps reached now) where
    pub stand : Kept start.tables → OrdersStand steps answers now.tables
    stand kept i command order form step answer =
        let stands = orders_stand_by acts next below start reached steps answers kept run i command order form step answer in
        (still_there reached now (changed next mode result ended taken steps reached now ends) (kept_by acts next below start reached steps answers kept run) order stands.0, stands.1)

    pub sound : Sound next start.tables → Sound next now.tables
    sound was = still_sound reached now (changed next mode result ended taken steps reached now ends) (sound_by acts next below start reached steps answers was run)

  module _ (mode : Mode) (result : Status) (ended : Bool) (taken : List ℕ) (steps : List Step) (answers : List (Option Answer)) (start reached now : World)
      (run : Run next start steps answers reached) (ends : EndsBy next mode result ended taken steps reached now) where
    found_now : SearchedOn next start.device.stored → SearchedOn next now.device.stored
    found_now were = subst (λ (s : State). SearchedOn next s.stored) (sym (same_device next mode result ended taken steps reached now ends)) (stays_found next start reached steps answers were run)

    pub promise : Sound next start.tables → Promise next start steps answers reached now
    promise was =
        let sound_now = sound (Acts next) mode result ended taken steps answers start reached now run ends was in
        record {
          sound = sound_now;
          found = found_now;
          once = λ were. tokens_once next now.tables now.device.stored sound_now (found_now were);
          taken = usables_taken next below start reached steps answers was;
        }
