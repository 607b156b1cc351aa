use Rattle.paygo_spec.proofs.Snapshots.{snapshot_start}
use Rattle.history_laws.proofs.summaries_are_snapshots.Goals as goal

pub returns : goal.returns
returns c = record { same = snapshot_start; lawful = λ unit start h. h }
