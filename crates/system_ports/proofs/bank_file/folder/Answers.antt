use Rattle.std.proofs.Common.{arith}
use Rattle.system_ports.proofs.PathLemmas.{inner_folder, root_folder, no_folder}
use Rattle.system_ports.proofs.bank_file.folder.Goals as goal

pub returns-in-Some : goal.returns-in-Some
returns-in-Some c = inner_folder _ _ _ c.in-Some.ensures.cases (grind arith)

pub returns-in-Some-2 : goal.returns-in-Some-2
returns-in-Some-2 c = root_folder _ _ _ c.in-Some-2.ensures.cases (grind arith)

pub returns-in-None : goal.returns-in-None
returns-in-None c = no_folder _ c.in-None.ensures.cases
