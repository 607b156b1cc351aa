use Rattle.std.proofs.Common.{◌≡◌, ◌+◌, ◌-◌, ◌≤◌, None}
use Rattle.paygo_spec.specs.declared.TheConstants.{LAST}
use Rattle.paygo_spec.specs.Least.{least}
use Rattle.ledger_spec.specs.Stuck.{is_stuck}
use Rattle.stuck_values.proofs.finding.first_stuck.Given as goal

abbrev pub invariant-loop-last : goal.invariant-loop-last
invariant-loop-last g l = record {
  within : l.last ≤ LAST;
  sold : least (is_stuck (g.M.Mixer.next l.key) l.start l.kind l.value) l.last ≡ None;
}

abbrev pub decreases-loop-last : goal.decreases-loop-last
decreases-loop-last g l = (LAST + 1) - l.last
