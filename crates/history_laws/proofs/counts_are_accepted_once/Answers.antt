use Rattle.paygo_spec.proofs.Accepts.{once, never}
use Rattle.history_laws.proofs.counts_are_accepted_once.Goals as goal

pub returns : goal.returns
returns c = record { once = once; never = never }
