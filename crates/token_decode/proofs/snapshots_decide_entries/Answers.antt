use Rattle.token_decode.proofs.Entering.{snapshot_typed}
use Rattle.token_decode.proofs.snapshots_decide_entries.Goals as goal

pub returns : goal.returns
returns c = snapshot_typed
