use Rattle.history_laws.proofs.Showing.{same}
use Rattle.history_laws.proofs.seconds_that_show_nothing_change_nothing.Goals as goal

pub returns : goal.returns
returns c = same
