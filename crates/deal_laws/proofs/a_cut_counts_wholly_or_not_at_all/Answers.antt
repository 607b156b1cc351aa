use Rattle.deal_laws.proofs.Keeping.{whole}
use Rattle.deal_laws.proofs.a_cut_counts_wholly_or_not_at_all.Goals as goal

pub returns : goal.returns
returns c = whole
