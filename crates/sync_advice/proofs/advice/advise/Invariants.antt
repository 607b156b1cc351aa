use Rattle.std.proofs.Common.{◌≤◌, ◌-◌}
use Rattle.sync_advice.specs.Advice.{Climbs}
use Rattle.sync_advice.proofs.advice.advise.Given as goal

abbrev pub invariant-loop-at : goal.invariant-loop-at
invariant-loop-at l = record {
  below : l.at ≤ l.last;
  climbs : Climbs l.orders l.limit l.fn.floor l.list.items l.at;
}

abbrev pub decreases-loop-at : goal.decreases-loop-at
decreases-loop-at l = l.last - l.at
