-- The fault that may be planned for a keeper in memory, and what a call does then.
use Rattle.std.specs.Prelude.{◌≡◌, ◌≢◌, ◌⊎◌, ℕ, Bool, true, false, ◌==◌, Option, Some, None, Result, Err, if◌then◌else◌}
use Rattle.std.specs.Option.{option_map}
use Rattle.ledger_spec.specs.declared.KeeperFault.{KeeperFault}
use Rattle.ledger_spec.specs.declared.KeeperFault.TheVariants.{Failed, Memory}
use Rattle.ledger_spec.specs.Tables.{Tables}
use Rattle.ledger_spec.specs.Keeper.{KeeperView}
use Rattle.ledger_keeper.specs.declared.mem_keeper.Plan.{Plan}

-- What is planned for the call of this number: none where it passes; else it fails, and a write that fails leaves its whole
-- change or nothing of it.
abbrev pub planned_at : Option Plan → ℕ → Option Bool
planned_at None call = None
planned_at (Some plan) call = if plan.call == call then Some plan.whole else None

-- A reading call did as planned: it failed where it was to fail, and else it didn't.
abbrev pub ReadsAsPlanned : {T : Type 0} → Option Bool → Result T KeeperFault → Type 0
ReadsAsPlanned None result = result ≢ Err Failed
ReadsAsPlanned (Some whole) result = result ≡ Err Failed

-- A writing call did as planned: where it was to fail it left nothing of its change, or the whole, unless there was no
-- memory for it; and else it didn't fail.
abbrev pub WritesAsPlanned : (Tables → Tables) → Option Bool → Result (Unit {0}) KeeperFault → KeeperView
    → KeeperView → Type 0
WritesAsPlanned change None result old new = result ≢ Err Failed
WritesAsPlanned change (Some false) result old new = (result ≡ Err Failed) × (new.tables ≡ old.tables)
WritesAsPlanned change (Some true) result old new =
    (result ≡ Err Memory) ⊎ ((result ≡ Err Failed) × (new.tables ≡ option_map change old.tables))
