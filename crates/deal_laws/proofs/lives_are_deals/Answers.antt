use Rattle.deal_laws.proofs.Lives.{life_is_deal}
use Rattle.deal_laws.proofs.lives_are_deals.Goals as goal

pub returns : goal.returns
returns c = life_is_deal
