use Rattle.device_core.proofs.Effects.{snapshot_decides}
use Rattle.device_core.proofs.snapshots_decide_events.Goals as goal

pub returns : goal.returns
returns c = snapshot_decides
