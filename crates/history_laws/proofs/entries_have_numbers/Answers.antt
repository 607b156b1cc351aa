use Rattle.paygo_spec.proofs.Windows.{limit_kept}
use Rattle.paygo_spec.proofs.Entries.{number_fits, read_back, number_back, may_has_number}
use Rattle.history_laws.proofs.entries_have_numbers.Goals as goal

pub returns : goal.returns
returns c = record { fits = number_fits; read = read_back; back = number_back; lawful = λ unit start entries e l w may. may_has_number unit start entries e (limit_kept unit start entries l) w may }
