use Rattle.paygo_spec.proofs.Snapshots.{stands_is}
use Rattle.history_laws.proofs.windows_are_of_snapshots.Goals as goal

pub returns : goal.returns
returns c = stands_is
