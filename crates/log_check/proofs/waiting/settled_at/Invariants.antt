use Rattle.std.proofs.Common.{ℕ, length, ◌-◌, List}
use Rattle.paygo_spec.specs.Machine.{State}
use Rattle.ledger_spec.specs.Tables.{Tables}
use Rattle.log_check.specs.Kept.{AreStates}
use Rattle.log_check.specs.Waiting.{acts_from}
use Rattle.log_check.proofs.Settling.{Settling}
use Rattle.log_check.proofs.waiting.settled_at.Given as goal

abbrev pub invariant-loop-at : goal.invariant-loop-at
invariant-loop-at l =
    (next : List ℕ → ℕ → ℕ) (tables : Tables) (old : List State) → AreStates l.fn.states old
    → Settling next tables old (acts_from l.from l.events) l.states (acts_from l.at l.events)

abbrev pub decreases-loop-at : goal.decreases-loop-at
decreases-loop-at l = length l.events - l.at
