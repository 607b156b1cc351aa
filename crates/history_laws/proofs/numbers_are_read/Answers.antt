use Rattle.paygo_spec.proofs.Entries.{next_is, read_entry}
use Rattle.history_laws.proofs.numbers_are_read.Goals as goal

pub returns : goal.returns
returns c = record { read = next_is; only = read_entry }
