use Rattle.std.proofs.Common.{rules, refl, subst}
use Rattle.std.specs.Prelude.{slice_set, bit_or}
use Rattle.std.proofs.lemmas.Nat.{or_lt}
use Rattle.paygo_spec.specs.Flash.{TornProgram}
use Rattle.media_ports.proofs.WordLemmas.{words_set, torn_word}
use Rattle.media_ports.proofs.mem_media.MemMediaMedia.program.Goals as goal

pub invariant_of-self : goal.invariant_of-self
invariant_of-self c = record {
  least = c.args.self.now.least;
  most = c.args.self.now.most;
  whole = words_set _ _ _ _ c.args.self.now.whole (or_lt 64 _ _ c.ranges.word.fits c.in-Some.ensures.bits);
  counted = c.args.self.now.counted;
}

pub returns-in-Some-clause-fault : goal.returns-in-Some-clause-fault
returns-in-Some-clause-fault c = λ up. record {
  banks = refl;
  words = subst (λ k. TornProgram k c.args.word c.args.self.now.words.items (slice_set c.args.self.now.words.items c.at-at.result (bit_or c.args.word c.in-Some.keep))) c.at-at.ensures (torn_word _ _ _ _ c.ranges.word.fits c.in-Some.ensures.bits);
  erases = refl;
  down = refl;
  rose = search rules;
}
