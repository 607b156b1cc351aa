use Rattle.deal_runs.proofs.Chaining.{runs_dealt}
use Rattle.deal_runs.proofs.runs_are_deals.Goals as goal

pub returns : goal.returns
returns c = runs_dealt
