use Rattle.std.proofs.Common.{rules, refl, ap, lit<, Some}
use Rattle.memory_ports.proofs.WordLemmas.{words_kept, torn_bank}
use Rattle.memory_ports.proofs.BankLemmas.{erased_is}
use Rattle.memory_ports.proofs.mem_flash.MemFlashFlash.erase.Goals as goal

pub invariant_of-self : goal.invariant_of-self
invariant_of-self c = record { whole = words_kept _ _ _ _ c.args.self.now.whole c.requires c.in-Some.ensures.bits c.keep_bits.ensures }

pub invariant_of-self-2 : goal.invariant_of-self-2
invariant_of-self-2 c = record { whole = words_kept _ _ _ _ c.args.self.now.whole c.requires (lit< tt) c.keep_bits-2.ensures }

pub returns-in-Some-clause-fault : goal.returns-in-Some-clause-fault
returns-in-Some-clause-fault c = λ up. record {
  words = torn_bank _ _ _ _ c.args.self.now.whole c.requires c.in-Some.ensures.bits c.keep_bits.ensures;
  call = record { down = refl; due = search rules; rose = search rules };
}

pub returns-clause-ok : goal.returns-clause-ok
returns-clause-ok c = record {
  words = ap Some (erased_is _ _ _ c.args.self.now.whole c.requires c.keep_bits-2.ensures);
  call = record { up = search rules; due = search rules; faults = search rules };
}
