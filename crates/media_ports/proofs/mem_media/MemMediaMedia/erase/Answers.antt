use Rattle.std.proofs.Common.{rules, refl, ap, ◌∙◌, arith, lit<, Some}
use Rattle.std.specs.Prelude.{slice_set, slice_index, min, ◌+◌}
use Rattle.std.proofs.lemmas.List.{length-set, get_or_read}
use Rattle.media_ports.proofs.WordLemmas.{words_kept, torn_bank, erased_is, kept_in}
use Rattle.media_ports.proofs.mem_media.MemMediaMedia.erase.Goals as goal

pub invariant_of-self : goal.invariant_of-self
invariant_of-self c = record {
  least = c.args.self.now.least;
  most = c.args.self.now.most;
  whole = words_kept _ _ _ _ _ c.args.self.now.whole c.in-Some.ensures.bits (kept_in _ _ _ _ _ _ c.deref_mut.ensures.value c.deref_mut.ensures.len c.keep_bits.ensures);
  counted = c.args.self.now.counted;
}

pub returns-in-Some-clause-fault : goal.returns-in-Some-clause-fault
returns-in-Some-clause-fault c = λ up. record {
  banks = refl;
  words = torn_bank _ _ _ _ _ c.args.self.now.whole c.in-Some.ensures.bits (kept_in _ _ _ _ _ _ c.deref_mut.ensures.value c.deref_mut.ensures.len c.keep_bits.ensures);
  erases = refl;
  down = refl;
  rose = search rules;
}

pub invariant_of-self-2 : goal.invariant_of-self-2
invariant_of-self-2 c = record {
  least = c.args.self.now.least;
  most = c.args.self.now.most;
  whole = words_kept _ _ _ _ _ c.args.self.now.whole (lit< tt) (kept_in _ _ _ _ _ _ c.deref_mut-2.ensures.value c.deref_mut-2.ensures.len c.keep_bits-2.ensures);
  counted = length-set c.args.self.now.erases.items _ _ ∙ c.args.self.now.counted;
}

pub returns-clause-ok : goal.returns-clause-ok
returns-clause-ok c = record {
  banks = refl;
  words = ap Some (erased_is _ _ _ _ c.args.self.now.whole c.requires (kept_in _ _ _ _ _ _ c.deref_mut-2.ensures.value c.deref_mut-2.ensures.len c.keep_bits-2.ensures));
  erases = ap Some (ap (λ k. slice_set c.args.self.now.erases.items k c.saturating_add.result) c.from-at.ensures ∙ ap (λ n. slice_set c.args.self.now.erases.items c.args.bank n)
      (c.saturating_add.ensures ∙ ap (λ n. min (n + 1) 18446744073709551615)
      (get_or_read c.args.self.now.erases.items c.from-at.result c.index.result.now (omega (arith, c.from-at.ensures, c.args.self.now.counted, c.requires)) c.index.ensures 0 ∙ ap (λ k. slice_index c.args.self.now.erases.items k) c.from-at.ensures)));
  up = search rules;
  faults = refl;
}
