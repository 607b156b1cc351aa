use Rattle.std.proofs.Common.{arith}
use Rattle.paygo_spec.proofs.Leasts.{least_none}
use Rattle.ledger_spec.specs.Stuck.{is_stuck}
use Rattle.stuck_values.proofs.finding.first_stuck.Goals as goal

pub loop-last-init : goal.loop-last-init
loop-last-init g c = record {
  within = omega arith;
  sold = least_none (is_stuck (g.M.Mixer.next c.args.key.now) c.args.start c.args.kind c.args.value);
}
