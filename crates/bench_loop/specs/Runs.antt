-- What is promised of a whole run.
use Rattle.std.specs.Prelude.{◌≡◌, ℕ, true, false, List, ◌++◌, Option, Some}
use Rattle.paygo_spec.specs.declared.Event.{Event}
use Rattle.paygo_spec.specs.declared.Reply.{Reply}
use Rattle.paygo_spec.specs.Faults.{raised}
use Rattle.paygo_spec.specs.Machine.{State, Stored, Acts}
use Rattle.paygo_spec.specs.Searched.{SearchedOn}
use Rattle.ledger_spec.specs.Sound.{Sound}
use Rattle.ledger_spec.specs.Tables.{Tables, Kept}
use Rattle.run_spec.specs.declared.Mode.{Mode}
use Rattle.run_spec.specs.declared.Status.{Status}
use Rattle.run_spec.specs.Run.{Step, World, Answer, RunBy, beginning}
use Rattle.run_spec.specs.Unseen.{ActsUnseen, CountsOnce}
use Rattle.run_spec.specs.Ran.{Agree, EndsBy, WritesBy, Spends, uses_keeper, uses_flash}
use Rattle.run_spec.specs.Downs.{downs}
use Rattle.run_spec.specs.Headline.{OrdersStand, TokensOnce, UsablesTaken}
use Rattle.line_loop.specs.Outside.{Outside}

-- What a run leaves out stays: the tables in a run of a device, and the device in a run of the ledger.
pub record StaysAside (mode : Mode) (start now : World) : Type 0 where
  pub tables : uses_keeper mode ≡ false → now.tables ≡ start.tables
  pub device : uses_flash mode ≡ false → now.device ≡ start.device

-- What a run did: its source handed out these bytes, these steps were taken, and that was answered to them, where this says what
-- a device may reply to an event and what it goes on to. The steps are those of the lines by the status, which also says what
-- stands now, and which bytes were written. Each `down` is one fault of the flash, and nothing else is: its count is higher by as
-- much as there are answers `down`, or stands still at 2^64 - 1.
pub record Ran (acts : Event → Option Reply → State → State → Type 0) (next : List ℕ → ℕ → ℕ) (mode : Mode)
    (result : Status) (start : World) (old new : Outside) : Type 0 where
  pub taken : List ℕ
  pub given : new.source.given ≡ old.source.given ++ taken
  pub steps : List Step
  pub answers : List (Option Answer)
  pub reached : World
  pub run : RunBy acts next start steps answers reached
  pub now : World
  pub ends : EndsBy next mode result new.source.ended taken steps reached now
  pub written : WritesBy result old.sink.written answers new.sink
  pub aside : StaysAside mode start now
  pub downs_are : new.flash.faults ≡ raised start.device.faults (downs answers)

-- What shop and customer are promised of a run from sound tables: they stay sound, each token of an order takes effect at
-- most once on a device of which each accepted token was found, which stays so, and a token that may be used is accepted.
pub record Promise (next : List ℕ → ℕ → ℕ) (start : World) (steps : List Step) (answers : List (Option Answer))
    (reached now : World) : Type 0 where
  pub sound : Sound next now.tables
  pub found : SearchedOn next start.device.stored → SearchedOn next now.device.stored
  pub once : SearchedOn next start.device.stored → TokensOnce next now.tables now.device.stored
  pub taken : UsablesTaken next start steps answers reached

-- What is promised of a run whose keeper and flash tell what they hold: the answers are those of the machine, and keeper and
-- flash stand for what it went on to. The flash's due, where it tells one, falls by the calls of each event, and `down` comes
-- exactly where it falls short of them. Over tables in order each order that was answered stands.
pub record RunOf (next : List ℕ → ℕ → ℕ) (mode : Mode) (result : Status) (start : World) (old new : Outside)
    : Type 0 where
  pub ran : Ran (Acts next) next mode result start old new
  pub agree : Agree mode new.keeper new.flash ran.now
  pub calls : Spends next start ran.steps ran.answers ran.reached old.flash.due new.flash.due
  pub stand : Kept start.tables → OrdersStand ran.steps ran.answers ran.now.tables
  pub promise : Sound next start.tables → Promise next start ran.steps ran.answers ran.reached ran.now

-- The same of a run whose flash tells no words, as a file tells none: each answer of the device is that of the machine by what
-- the device has in memory, and between two power-ups it accepts each count once at most. What rests on the commands alone
-- is as it was: over tables in order each order that was answered stands, and sound tables stay sound.
pub record RunUnseen (next : List ℕ → ℕ → ℕ) (mode : Mode) (result : Status) (start : World) (old new : Outside)
    : Type 0 where
  pub ran : Ran (ActsUnseen next) next mode result start old new
  pub tables : uses_keeper mode ≡ true → new.keeper.tables ≡ Some ran.now.tables
  pub stand : Kept start.tables → OrdersStand ran.steps ran.answers ran.now.tables
  pub sound : Sound next start.tables → Sound next ran.now.tables
  pub once : CountsOnce ran.steps ran.answers

-- What is promised of a run where what the mode uses of keeper and flash tells what it holds: from whatever tables it found, and a
-- device that is off on whatever its flash stands for.
abbrev pub RunsTold : (List ℕ → ℕ → ℕ) → Mode → Status → Outside → Outside → Type 0
RunsTold next mode result old new =
    (tables : Tables) (stored : Stored) → Agree mode old.keeper old.flash (beginning tables stored old.flash.faults)
    → RunOf next mode result (beginning tables stored old.flash.faults) old new

-- The same where nothing is asked of the flash, and nothing is said of its words.
abbrev pub RunsUnseen : (List ℕ → ℕ → ℕ) → Mode → Status → Outside → Outside → Type 0
RunsUnseen next mode result old new =
    (tables : Tables) (stored : Stored) → (uses_keeper mode ≡ true → old.keeper.tables ≡ Some tables)
    → RunUnseen next mode result (beginning tables stored old.flash.faults) old new
