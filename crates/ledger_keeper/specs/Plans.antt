-- What is planned for a keeper in memory: at which call it is to fail, and what that call leaves.
use Rattle.std.specs.Prelude.{ℕ}
use Rattle.std.specs.declared.option.Option.{Option}
use Rattle.ledger_keeper.specs.declared.mem_keeper.Plan.{Plan}
use Rattle.ledger_keeper.specs.declared.mem_keeper.MemKeeper.{MemKeeper}

-- How many calls were tried so far (a number that stands still at 2^64 - 1), and the call that is to fail, counted from 1,
-- with what it leaves.
pub record KeeperPlan : Type 0 where
  pub calls : ℕ
  pub fails : Option Plan

-- What is planned for this keeper.
abbrev pub keeper_plan : MemKeeper → KeeperPlan
keeper_plan keeper = record { calls = keeper.calls; fails = keeper.plan }
