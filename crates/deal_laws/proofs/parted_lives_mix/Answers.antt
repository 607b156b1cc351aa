use Rattle.deal_laws.proofs.Parting.{lives_mixed}
use Rattle.deal_laws.proofs.parted_lives_mix.Goals as goal

pub returns : goal.returns
returns c = λ next shop device turns old new trades works mix. lives_mixed next turns shop device old.tables new.tables old.device new.device trades works mix
