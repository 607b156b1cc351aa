use Rattle.table_flaws.proofs.Twinned.{no_twins}
use Rattle.table_flaws.proofs.laws.no_twins_no_shared_chain.Goals as goal

pub returns : goal.returns
returns c = no_twins
