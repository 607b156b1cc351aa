use Rattle.paygo_spec.proofs.Windows.{fresh_keeps, limit_kept, keeps_rule}
use Rattle.paygo_spec.proofs.Snapshots.{snapshot_keeps}
use Rattle.history_laws.proofs.rules_are_kept.Goals as goal

pub returns : goal.returns
returns c = record { fresh = fresh_keeps; limit = limit_kept; snapshot = snapshot_keeps; window = keeps_rule }
