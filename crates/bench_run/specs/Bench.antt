-- What a bench does with steps: they are answered one after the other, and each answer is written before the next step is
-- taken.
use Rattle.std.specs.Prelude.{◌≡◌, ℕ, List, ◌++◌, true, Option, Some, None, Result, Ok, Err}
use Rattle.paygo_spec.specs.declared.Event.{Event}
use Rattle.paygo_spec.specs.declared.Reply.{Reply}
use Rattle.paygo_spec.specs.Faults.{Counted}
use Rattle.paygo_spec.specs.Flash.{FlashView, KeepsPlan}
use Rattle.paygo_spec.specs.Machine.{State, Acts, calls_of}
use Rattle.paygo_spec.specs.Streams.{SinkView}
use Rattle.ledger_spec.specs.declared.Command.{Command}
use Rattle.ledger_spec.specs.Keeper.{KeeperView}
use Rattle.run_spec.specs.declared.Mode.{Mode}
use Rattle.run_spec.specs.Run.{Step, Answer, World}
use Rattle.run_spec.specs.Unseen.{ActsUnseen}
use Rattle.run_spec.specs.Text.{text}
use Rattle.run_spec.specs.Ran.{AsksFor, IsCut, MayChange, SpendsBy, uses_keeper, uses_flash}
use Rattle.device_core.specs.declared.device.Device.{Device}
use Rattle.device_core.specs.Memory.{Agrees, Recalls, Holds}
use Rattle.paygo_ports.specs.declared.sink.WriteFault.{WriteFault}
use Rattle.line_loop.specs.declared.handler.LineFault.{LineFault}
use Rattle.line_loop.specs.declared.handler.LineFault.TheVariants as fault
use Rattle.line_loop.specs.Handling.{of_line}

-- What a bench works with: its device, and what is seen of keeper, flash and sink.
pub record Desk : Type 0 where
  pub device : Device
  pub keeper : KeeperView
  pub flash : FlashView
  pub sink : SinkView

abbrev pub desk : Device → KeeperView → FlashView → SinkView → Desk
desk device keeper flash sink = record { device = device; keeper = keeper; flash = flash; sink = sink }

-- What a run in this mode uses of the desk stands for this world, where this says what device and flash stand for.
pub record IsAt (stands : Device → FlashView → State → Type 0) (mode : Mode) (desk : Desk) (world : World)
    : Type 0 where
  pub tables : uses_keeper mode ≡ true → desk.keeper.tables ≡ Some world.tables
  pub device : uses_flash mode ≡ true → stands desk.device desk.flash world.device

-- These steps were answered, and the text of the answers was written whole. The desk stands for what the run went on to.
pub record Done (acts : Event → Option Reply → State → State → Type 0) (stands : Device → FlashView → State → Type 0)
    (calls : State → Event → Option ℕ) (next : List ℕ → ℕ → ℕ) (mode : Mode) (steps : List Step) (start : World)
    (was desk : Desk) : Type 0 where
  pub answers : List (Option Answer)
  pub now : World
  pub run : SpendsBy acts calls next start steps answers now was.flash.due desk.flash.due
  pub is_at : IsAt stands mode desk now
  pub written : desk.sink.written ≡ was.sink.written ++ text answers

-- The sink failed at an answer: the first of these steps were taken, up to the one whose answer it was, and the others
-- weren't.
pub record Stopped (acts : Event → Option Reply → State → State → Type 0) (stands : Device → FlashView → State → Type 0)
    (calls : State → Event → Option ℕ) (next : List ℕ → ℕ → ℕ) (mode : Mode) (steps : List Step) (start : World)
    (was desk : Desk) : Type 0 where
  pub front : List Step
  pub others : List Step
  pub split : steps ≡ front ++ others
  pub answers : List (Option Answer)
  pub now : World
  pub run : SpendsBy acts calls next start front answers now was.flash.due desk.flash.due
  pub is_at : IsAt stands mode desk now
  pub cut : IsCut was.sink.written answers desk.sink

-- The steps are a command, which failed: nothing was written, and but for its change of the tables nothing was done.
pub record CommandFailed (stands : Device → FlashView → State → Type 0) (next : List ℕ → ℕ → ℕ) (mode : Mode)
    (steps : List Step) (start : World) (was desk : Desk) : Type 0 where
  pub command : Command
  pub asks : AsksFor command steps
  pub now : World
  pub change : MayChange next command start now
  pub is_at : IsAt stands mode desk now
  pub written : desk.sink.written ≡ was.sink.written
  pub due : desk.flash.due ≡ was.flash.due

-- There was no memory for a command: nothing was done.
pub record CommandRefused (stands : Device → FlashView → State → Type 0) (mode : Mode) (start : World) (was desk : Desk)
    : Type 0 where
  pub is_at : IsAt stands mode desk start
  pub written : desk.sink.written ≡ was.sink.written
  pub due : desk.flash.due ≡ was.flash.due

-- What became of these steps: they are done, the sink failed at the answer to one of them, or a command failed.
abbrev pub Ends : (Event → Option Reply → State → State → Type 0) → (Device → FlashView → State → Type 0)
    → (State → Event → Option ℕ) → (List ℕ → ℕ → ℕ) → Mode → List Step → Result (Unit {0}) LineFault → World
    → Desk → Desk → Type 0
Ends acts stands calls next mode steps (Ok done) start was desk = Done acts stands calls next mode steps start was desk
Ends acts stands calls next mode steps (Err fault.Write) start was desk =
    Stopped acts stands calls next mode steps start was desk
Ends acts stands calls next mode steps (Err fault.Keep) start was desk =
    CommandFailed stands next mode steps start was desk
Ends acts stands calls next mode steps (Err fault.Memory) start was desk = CommandRefused stands mode start was desk

-- Whatever the desk stands for, that became of these steps.
abbrev pub WorksBy : (Event → Option Reply → State → State → Type 0) → (Device → FlashView → State → Type 0)
    → (State → Event → Option ℕ) → (List ℕ → ℕ → ℕ) → Mode → List Step → Result (Unit {0}) LineFault → Desk → Desk
    → Type 0
WorksBy acts stands calls next mode steps result old new =
    (start : World) → IsAt stands mode old start → Ends acts stands calls next mode steps result start old new

-- Of a flash that isn't seen no number of calls is said.
abbrev pub unsaid : State → Event → Option ℕ
unsaid state event = None

-- It did so by what the flash tells; and where that tells no words, by what the device has in memory.
pub record Works (next : List ℕ → ℕ → ℕ) (mode : Mode) (steps : List Step) (result : Result (Unit {0}) LineFault)
    (old new : Desk) : Type 0 where
  pub seen : WorksBy (Acts next) Agrees (calls_of next) next mode steps result old new
  pub unseen : WorksBy (ActsUnseen next) Recalls unsaid next mode steps result old new

-- The same of steps that leave the keeper as it is, whatever it tells, in every mode that takes them.
abbrev pub DeviceWorks : (List ℕ → ℕ → ℕ) → List Step → Result (Unit {0}) WriteFault → Device → FlashView
    → SinkView → Device → FlashView → SinkView → Type 0
DeviceWorks next steps result old was before new now after =
    (mode : Mode) (keeper : KeeperView) → uses_flash mode ≡ true
    → Works next mode steps (of_line result) (desk old keeper was before) (desk new keeper now after)

-- All that is said of steps of a device: it has its flash as it left it, no more failed there than was planned, the sink is to
-- blame where an answer wasn't written, and that became of the steps.
pub record DeviceDid (next : List ℕ → ℕ → ℕ) (steps : List Step) (result : Result (Unit {0}) WriteFault)
    (old : Device) (was : FlashView) (before : SinkView) (new : Device) (now : FlashView) (after : SinkView) : Type 0 where
  pub holds : Holds new now
  pub plan : KeepsPlan was now
  pub cause : Counted result before.faults after.faults
  pub works : DeviceWorks next steps result old was before new now after

-- A text is said, whatever device, keeper and flash are.
abbrev pub Says : (List ℕ → ℕ → ℕ) → List Step → Result (Unit {0}) WriteFault → SinkView → SinkView → Type 0
Says next steps result before after =
    (mode : Mode) (device : Device) (keeper : KeeperView) (flash : FlashView)
    → Works next mode steps (of_line result) (desk device keeper flash before) (desk device keeper flash after)

-- The line is one of the ledger that failed.
abbrev pub IsLedgerFault : Result (Unit {0}) LineFault → Type 0
IsLedgerFault (Err fault.Keep) = Unit {0}
IsLedgerFault (Err fault.Memory) = Unit {0}
IsLedgerFault _ = ⊥
