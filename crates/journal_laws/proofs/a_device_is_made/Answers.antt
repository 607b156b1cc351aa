use Rattle.journal_laws.proofs.Laws.{device_made, make_cut}
use Rattle.journal_laws.proofs.a_device_is_made.Goals as goal

pub returns : goal.returns
returns c = record { whole = device_made; cut = make_cut }
