-- What a call of the ledger did.
use Rattle.std.specs.Prelude.{◌≡◌, ℕ, ◌⊎◌, Option, Result, Ok, Err, IfSome}
use Rattle.std.specs.Option.{option_map}
use Rattle.paygo_spec.specs.Faults.{Rose}
use Rattle.ledger_spec.specs.declared.Answer.{Answer}
use Rattle.ledger_spec.specs.declared.LedgerFault.{LedgerFault}
use Rattle.ledger_spec.specs.declared.LedgerFault.TheVariants.{Keeper, Memory}
use Rattle.ledger_spec.specs.declared.KeeperFault.{KeeperFault}
use Rattle.ledger_spec.specs.declared.KeeperFault.TheVariants as of_keeper
use Rattle.ledger_spec.specs.Tables.{Tables}
use Rattle.ledger_spec.specs.Ledger.{Done}
use Rattle.ledger_spec.specs.Keeper.{KeeperView}

-- The fault of the ledger for one of its keeper.
abbrev pub fault_for : KeeperFault → LedgerFault
fault_for of_keeper.Failed = Keeper
fault_for of_keeper.Memory = Memory

-- The tables that a call leaves, of those it found.
abbrev pub left_by : (Tables → Done) → Option Tables → Option Tables
left_by does tables = option_map (λ t. (does t).tables) tables

-- The answer and the tables are those of what is done with the tables, where these are told. Where the keeper failed,
-- the tables are as before or those; where there was no memory, as before.
abbrev pub AppliedTo : (Tables → Done) → Result Answer LedgerFault → Option Tables → Option Tables → Type 0
AppliedTo does (Ok answer) old new = IfSome old (λ t. answer ≡ (does t).answer) × (new ≡ left_by does old)
AppliedTo does (Err Keeper) old new = (new ≡ old) ⊎ (new ≡ left_by does old)
AppliedTo does (Err Memory) old new = new ≡ old

-- A call of the ledger that says that the keeper failed had one fault of it, and any other had none.
abbrev pub Blames : {T : Type 0} → Result T LedgerFault → ℕ → ℕ → Type 0
Blames (Ok answer) before now = now ≡ before
Blames (Err Keeper) before now = Rose before now
Blames (Err Memory) before now = now ≡ before

-- A call of the ledger over a keeper: what it did to the tables, and to the count of faults.
pub record Applies (does : Tables → Done) (result : Result Answer LedgerFault) (old new : KeeperView) : Type 0 where
  pub tables : AppliedTo does result old.tables new.tables
  pub faults : Blames result old.faults new.faults
