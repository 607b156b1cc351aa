-- What never changes in the tables, whatever is asked of the ledger.
use Rattle.std.specs.Prelude.{◌≡◌, ℕ, ◌≤◌, ◌⊎◌, List, [], ◌∷◌, Some, None, Option}
use Rattle.ledger_spec.specs.declared.Row.{Row}
use Rattle.ledger_spec.specs.declared.Order.{Order}
use Rattle.ledger_spec.specs.declared.PriceChange.{PriceChange}
use Rattle.ledger_spec.specs.declared.Command.{Command}
use Rattle.ledger_spec.specs.declared.Answer.{Answer}
use Rattle.ledger_spec.specs.Tables.{Tables, row_of, order_of, change_of}
use Rattle.ledger_spec.specs.Ledger.{done, IsCommand}

-- The row of a device after some commands: what it was enrolled with stays, and its last count and its limit never fall.
pub record GoesOn (old new : Row) : Type 0 where
  pub serial : new.serial ≡ old.serial
  pub key : new.key ≡ old.key
  pub start : new.start ≡ old.start
  pub divider : new.divider ≡ old.divider
  pub form : new.form ≡ old.form
  pub price : new.price ≡ old.price
  pub total : new.total ≡ old.total
  pub last : old.last ≤ new.last
  pub limit : old.limit ≤ new.limit

-- Tables after some commands: each order and each change of a price stays as it is, and each device keeps its row.
pub record Later (old new : Tables) : Type 0 where
  pub orders : (id : List ℕ) (order : Order) → order_of old id ≡ Some order → order_of new id ≡ Some order
  pub rows : (serial : List ℕ) (row : Row) → row_of old serial ≡ Some row
      → (now : Row) × (row_of new serial ≡ Some now) × GoesOn row now
  pub changes : (serial : List ℕ) (from : ℕ) (change : PriceChange) → change_of old serial from ≡ Some change
      → change_of new serial from ≡ Some change

-- One step of a run of the ledger: the command was answered as the ledger says, or it failed. One that failed has no answer,
-- and the tables are as before, or as the command would have left them.
abbrev pub Asked : (List ℕ → ℕ → ℕ) → Tables → Command → Option Answer → Tables → Type 0
Asked next old command answer new =
    ((answer ≡ Some (done next old command).answer) × (new ≡ (done next old command).tables))
    ⊎ ((answer ≡ None) × ((new ≡ old) ⊎ (new ≡ (done next old command).tables)))

-- A run of the ledger: these commands, one after another, each one in range, had these answers.
abbrev pub Runs : (List ℕ → ℕ → ℕ) → Tables → List Command → List (Option Answer) → Tables → Type 0
Runs next old [] [] new = new ≡ old
Runs next old (command ∷ commands) (answer ∷ answers) new =
    (mid : Tables) × IsCommand command × Asked next old command answer mid × Runs next mid commands answers new
Runs next old _ _ new = ⊥
