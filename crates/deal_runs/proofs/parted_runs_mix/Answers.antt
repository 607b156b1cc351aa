use Rattle.deal_runs.proofs.Mixing.{runs_mixed}
use Rattle.deal_runs.proofs.parted_runs_mix.Goals as goal

pub returns : goal.returns
returns c = λ next tables tables' unseen words words' unread shop device mixed serve runs of_device others mix. runs_mixed next unseen unread mixed tables tables' words words' shop device serve runs of_device others mix
