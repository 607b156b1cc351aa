use Rattle.std.proofs.Common.{refl, ap}
use Rattle.memory_ports.proofs.BankLemmas.{all_erased}
use Rattle.memory_ports.proofs.mem_flash.MemFlash.erased.Goals as goal

pub returns-clause-words : goal.returns-clause-words
returns-clause-words c = all_erased 1024 _ refl (ap (λ v. v.words) c.of_words.ensures)
