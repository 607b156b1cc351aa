use Rattle.paygo_spec.proofs.Windows.{stands_alone, same_reach, same_valid}
use Rattle.paygo_spec.proofs.Entries.{valid_same}
use Rattle.history_laws.proofs.windows_decide.Goals as goal

pub returns : goal.returns
returns c = record { alone = stands_alone; reach = same_reach; test = valid_same; valid = same_valid }
