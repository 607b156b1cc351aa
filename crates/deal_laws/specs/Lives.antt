-- The lives of shop and device, over the machine of both.
use Rattle.std.specs.Prelude.{◌≡◌, ℕ, ◌⊎◌, List, [], ◌∷◌, Some}
use Rattle.paygo_spec.specs.declared.Config.{Config}
use Rattle.paygo_spec.specs.Machine.{Blank, Journal, History}
use Rattle.ledger_spec.specs.declared.Row.{Row}
use Rattle.ledger_spec.specs.Ledger.{IsCommand, done}
use Rattle.ledger_spec.specs.Tables.{row_of, no_tables}
use Rattle.run_spec.specs.Run.{World, beginning, MayAnswer}
use Rattle.run_spec.specs.Headline.{IsMatched}
use Rattle.deal_laws.specs.Meaning.{Turn, Answered, Unanswered, Restarted}

-- What may become of shop and device then. A command that was not answered changed all that it changes, or nothing.
abbrev pub Happens : (List ℕ → ℕ → ℕ) → Turn → World → World → Type 0
Happens next (Answered step answer) old new = MayAnswer next step answer old new
Happens next (Unanswered command) old new =
    IsCommand command
    × ((new ≡ old) ⊎ (new ≡ record old { tables = (done next old.tables command).tables }))
Happens next (Restarted faults) old new = new ≡ beginning old.tables old.device.stored faults

-- A shop with no tables, and a flash that is erased.
abbrev pub first_day : ℕ → World
first_day faults = beginning no_tables Blank faults

-- The device was made with this configuration, and the row of this serial holds the same; where there are both by now.
pub record AreOf (serial : List ℕ) (config : Config) (world : World) : Type 0 where
  pub row : (row : Row) → row_of world.tables serial ≡ Some row → IsMatched row config
  pub device : (history : History) → world.device.stored ≡ Journal history → history.config ≡ config

-- A life: these turns, one after another.
abbrev pub Lives : (List ℕ → ℕ → ℕ) → World → List Turn → World → Type 0
Lives next old [] new = new ≡ old
Lives next old (turn ∷ turns) new = (mid : World) × Happens next turn old mid × Lives next mid turns new
