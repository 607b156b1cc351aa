-- What is seen of a keeper of the tables, and what its calls do.
use Rattle.std.specs.Prelude.{◌≡◌, ℕ, ◌⊎◌, List, Option, Some, None, Result, Ok, Err}
use Rattle.std.specs.Option.{option_map}
use Rattle.paygo_spec.specs.declared.Form.{Form}
use Rattle.paygo_spec.specs.Faults.{Rose}
use Rattle.ledger_spec.specs.declared.Order.{Order}
use Rattle.ledger_spec.specs.declared.KeeperFault.{KeeperFault}
use Rattle.ledger_spec.specs.declared.KeeperFault.TheVariants.{Failed, Memory}
use Rattle.ledger_spec.specs.Tables.{Tables, order_of, form_in}

-- What is seen of a keeper: its tables, where it tells them, and its count of faults.
pub record KeeperView : Type 0 where
  pub tables : Option Tables
  pub faults : ℕ

-- A call that failed is counted, once, and no other is: neither one that answers nor one that found no memory.
abbrev pub Counts : {T : Type 0} → Result T KeeperFault → ℕ → ℕ → Type 0
Counts (Ok answer) before now = now ≡ before
Counts (Err Failed) before now = Rose before now
Counts (Err Memory) before now = now ≡ before

-- A call that reads: the tables stay as they were, whatever it answers.
pub record Reads {T : Type 0} (result : Result T KeeperFault) (old new : KeeperView) : Type 0 where
  pub tables : new.tables ≡ old.tables
  pub counts : Counts result old.faults new.faults

-- The tables after a commit: with the whole change at Ok; as before, or with the whole change, where it failed; and as
-- before where there was no memory.
abbrev pub Changed : (Tables → Tables) → Result (Unit {0}) KeeperFault → Option Tables → Option Tables → Type 0
Changed change (Ok u) old new = new ≡ option_map change old
Changed change (Err Failed) old new = (new ≡ old) ⊎ (new ≡ option_map change old)
Changed change (Err Memory) old new = new ≡ old

-- A call that writes, in one commit.
pub record Commits (change : Tables → Tables) (result : Result (Unit {0}) KeeperFault) (old new : KeeperView)
    : Type 0 where
  pub tables : Changed change result old.tables new.tables
  pub counts : Counts result old.faults new.faults

-- What was found is the order with the id and the form of its row, or there is no such order.
abbrev pub IsOrderOf : Tables → List ℕ → Option (Order × Form) → Type 0
IsOrderOf tables id None = order_of tables id ≡ None
IsOrderOf tables id (Some found) = (order_of tables id ≡ Some found.0) × (form_in tables found.0.serial ≡ Some found.1)
