use Rattle.paygo_spec.proofs.Snapshots.{snapshot_more}
use Rattle.history_laws.proofs.snapshots_go_on.Goals as goal

pub returns : goal.returns
returns c = snapshot_more
