-- A keeper in memory that never fails.
use Rattle.std.specs.Prelude.{◌≡◌, true, is_none}
use Rattle.std.proofs.Props.{props}
use Rattle.ledger_keeper.specs.Plans.{keeper_plan}
use Rattle.ledger_keeper.specs.declared.mem_keeper.MemKeeper.{MemKeeper}

-- No fault is planned for it, and none was counted.
pub record IsSure (keeper : MemKeeper) : Type 0 where
  pub unplanned : is_none (keeper_plan keeper).fails ≡ true
  pub uncounted : keeper.faults ≡ 0

pub sure_prop : (keeper : MemKeeper) → IsProp (IsSure keeper)
sure_prop keeper = hlevel props
