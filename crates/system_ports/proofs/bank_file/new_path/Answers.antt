use Rattle.std.proofs.Common.{codes, refl}
use Rattle.system_ports.proofs.PathLemmas.{text_behind}
use Rattle.system_ports.proofs.bank_file.new_path.Goals as goal

pub returns-in-Err-clause-fits : goal.returns-in-Err-clause-fits
unfolding lib.Utf8.encode
returns-in-Err-clause-fits c =
    absurd (c.in-Err.ensures.cases.0 (text_behind _ (codes ".new") _ c.utf8.path (codes ".new", (refl, refl)) c.joined.ensures))
