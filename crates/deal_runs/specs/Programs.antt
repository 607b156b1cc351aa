-- The runs of the program over the tables of one shop and the flash of one device, as they are seen from outside, and
-- what they are as a deal.
use Rattle.std.specs.Prelude.{◌≡◌, ℕ, true, List, [], ◌∷◌, ◌++◌, Option, Some, if◌then◌else◌}
use Rattle.paygo_spec.specs.declared.Config.{Config}
use Rattle.paygo_spec.specs.Machine.{History, Journal, Stands}
use Rattle.ledger_spec.specs.declared.Row.{Row}
use Rattle.ledger_spec.specs.Sound.{StaysBelow}
use Rattle.ledger_spec.specs.Tables.{Tables, row_of}
use Rattle.run_spec.specs.declared.Mode.{Mode}
use Rattle.run_spec.specs.declared.Status.{Status}
use Rattle.run_spec.specs.Headline.{IsMatched}
use Rattle.run_spec.specs.Ran.{WritesBy, uses_keeper, uses_flash}
use Rattle.run_spec.specs.Run.{Step, Answer, World}
use Rattle.line_loop.specs.Outside.{Outside}
use Rattle.bench_loop.specs.Runs.{RunsTold}
use Rattle.deal_laws.specs.Lives.{Lives, first_day}
use Rattle.deal_laws.specs.Meaning.{Turn, Restarted, IsDeal}
use Rattle.deal_laws.specs.Parted.{IsMix}
use Rattle.deal_laws.specs.Runs.{turns_of, EndsIn}

-- A run of the program: which lines it takes, how it ended, and what is seen of its four objects before and after.
pub record Program : Type 0 where
  pub mode : Mode
  pub result : Status
  pub old : Outside
  pub new : Outside

-- What lasts between runs: the tables of the shop, and the words of the flash of the device.
pub record Lasting : Type 0 where
  pub tables : Option Tables
  pub words : Option (List ℕ)

abbrev pub these : Option Tables → Option (List ℕ) → Lasting
these tables words = record { tables = tables; words = words }

-- A run finds these: a run that uses the keeper finds the tables, and one that uses the flash finds the words. So a
-- shop that runs `serve` and a device that runs `device`, each over its own, find what they left, in whatever order
-- they run.
pub record Finds (mode : Mode) (old : Outside) (lasting : Lasting) : Type 0 where
  pub tables : uses_keeper mode ≡ true → old.keeper.tables ≡ lasting.tables
  pub words : uses_flash mode ≡ true → old.flash.words ≡ lasting.words

-- What lasts after a run: what it doesn't use stays.
abbrev pub lasting_after : Mode → Outside → Lasting → Lasting
lasting_after mode new lasting = record {
  tables = if uses_keeper mode then new.keeper.tables else lasting.tables;
  words = if uses_flash mode then new.flash.words else lasting.words;
}

-- Runs, one after another: each finds what those before it left, and is one as the contract of `run` says in its clause
-- `run`.
abbrev pub AreRuns : (List ℕ → ℕ → ℕ) → Lasting → List Program → Lasting → Type 0
AreRuns next lasting [] last = last ≡ lasting
AreRuns next lasting (program ∷ programs) last =
    Finds program.mode program.old lasting × RunsTold next program.mode program.result program.old program.new
    × AreRuns next (lasting_after program.mode program.new lasting) programs last

-- The runs are all of this mode.
abbrev pub AreOfMode : Mode → List Program → Type 0
AreOfMode mode [] = Unit {0}
AreOfMode mode (program ∷ programs) = (program.mode ≡ mode) × AreOfMode mode programs

-- The row of this serial and the device on this flash hold this configuration, where there are both.
pub record HoldSame (serial : List ℕ) (config : Config) (lasting : Lasting) : Type 0 where
  pub row : (tables : Tables) (row : Row) → lasting.tables ≡ Some tables → row_of tables serial ≡ Some row
      → IsMatched row config
  pub device : (history : History) → Stands lasting.words (Journal history) → history.config ≡ config

-- These turns are what a run was, by its bytes: the steps of the lines that were handed out, with the answers that were
-- written, and behind them the command that was lost, if one was.
pub record AreTurns (mode : Mode) (result : Status) (old new : Outside) (turns : List Turn) : Type 0 where
  pub taken : List ℕ
  pub given : new.source.given ≡ old.source.given ++ taken
  pub steps : List Step
  pub answers : List (Option Answer)
  pub lost : List Turn
  pub ends : EndsIn mode result new.source.ended taken steps lost
  pub written : WritesBy result old.sink.written answers new.sink
  pub turns_are : turns ≡ turns_of steps answers ++ lost

-- These turns are what some runs were, one after another, each of which begins with a start.
abbrev pub AreAllTurns : List Program → List Turn → Type 0
AreAllTurns [] turns = turns ≡ []
AreAllTurns (program ∷ programs) turns =
    (faults : ℕ) × (own : List Turn) × (more : List Turn) × (turns ≡ Restarted faults ∷ (own ++ more))
    × AreTurns program.mode program.result program.old program.new own × AreAllTurns programs more

-- Some runs are a deal over the device with this serial.
pub record AreDeal (serial : List ℕ) (config : Config) (programs : List Program) : Type 0 where
  pub turns : List Turn
  pub are : AreAllTurns programs turns
  pub deal : IsDeal serial config turns

-- The same of runs of the shop alone, whose starts are nothing to the device.
abbrev pub AreShopTurns : List Program → List Turn → Type 0
AreShopTurns [] turns = turns ≡ []
AreShopTurns (program ∷ programs) turns =
    (own : List Turn) × (more : List Turn) × (turns ≡ own ++ more)
    × AreTurns program.mode program.result program.old program.new own × AreShopTurns programs more

-- Runs of the shop alone and runs of the device alone are a deal over the device with this serial, however their turns
-- are mixed.
pub record ArePartedDeal (serial : List ℕ) (config : Config) (shop device : List Program) : Type 0 where
  pub of_shop : List Turn
  pub of_device : List Turn
  pub shop_are : AreShopTurns shop of_shop
  pub device_are : AreAllTurns device of_device
  pub deal : (turns : List Turn) → IsMix of_shop of_device turns → IsDeal serial config turns

-- A life from empty tables and an erased flash led to this.
pub record LedTo (next : List ℕ → ℕ → ℕ) (turns : List Turn) (lasting : Lasting) : Type 0 where
  pub faults : ℕ
  pub world : World
  pub lives : Lives next (first_day faults) turns world
  pub tables : lasting.tables ≡ Some world.tables
  pub words : Stands lasting.words world.device.stored

-- A run goes on with a life: its own turns, behind a start, lead on to what lasts after it; and all turns so far are a
-- deal over each device that holds the same as its row.
pub record GoesOn (next : List ℕ → ℕ → ℕ) (mode : Mode) (result : Status) (old new : Outside) (earlier : List Turn)
    (lasting : Lasting) : Type 0 where
  pub own : List Turn
  pub are : AreTurns mode result old new own
  pub led : LedTo next (earlier ++ Restarted old.flash.faults ∷ own) (lasting_after mode new lasting)
  pub deal : StaysBelow next → (serial : List ℕ) (config : Config)
      → HoldSame serial config (lasting_after mode new lasting)
      → IsDeal serial config (earlier ++ Restarted old.flash.faults ∷ own)

-- Whatever life led to what a run finds, it goes on with it.
abbrev pub RunsOn : (List ℕ → ℕ → ℕ) → Mode → Status → Outside → Outside → Type 0
RunsOn next mode result old new =
    (earlier : List Turn) (lasting : Lasting) → LedTo next earlier lasting → Finds mode old lasting
    → GoesOn next mode result old new earlier lasting
