use Rattle.std.proofs.Common.{◌≡◌, ℕ, List, ◌<◌, false}
use Rattle.ledger_spec.specs.declared.Order.{Order}
use Rattle.sync_advice.specs.Advice.{follows}
use Rattle.sync_advice.specs.Places.{AreFirst}
use Rattle.sync_advice.proofs.advice.far.Given as goal

abbrev pub invariant-loop-count : goal.invariant-loop-count
invariant-loop-count l = (orders : List Order) → AreFirst orders l.firsts → (n : ℕ) → l.count < n → follows orders l.limit l.from n ≡ false

abbrev pub decreases-loop-count : goal.decreases-loop-count
decreases-loop-count l = l.count
