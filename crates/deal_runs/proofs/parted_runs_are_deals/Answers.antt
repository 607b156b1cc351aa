use Rattle.deal_runs.proofs.Parting.{parted_dealt}
use Rattle.deal_runs.proofs.parted_runs_are_deals.Goals as goal

pub returns : goal.returns
returns c = parted_dealt
