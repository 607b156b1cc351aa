use Rattle.std.proofs.Common.{rules, refl}
use Rattle.std.proofs.lemmas.Nat.{or_lt}
use Rattle.memory_ports.proofs.WordLemmas.{kept_ones, words_set}
use Rattle.memory_ports.proofs.mem_flash.MemFlashFlash.program.Goals as goal

pub invariant_of-self : goal.invariant_of-self
invariant_of-self c = record { whole = words_set _ _ _ c.args.self.now.whole (or_lt 64 _ _ c.ranges.word.fits c.in-Some.ensures.bits) }

pub returns-in-Some-clause-fault : goal.returns-in-Some-clause-fault
returns-in-Some-clause-fault c = λ up. record {
  words = (_, or_lt 64 _ _ c.ranges.word.fits c.in-Some.ensures.bits, kept_ones _ _, refl);
  call = record { down = refl; due = search rules; rose = search rules };
}
