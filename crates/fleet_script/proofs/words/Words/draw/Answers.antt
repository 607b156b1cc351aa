use Rattle.std.proofs.Common.{ap, ◌∙◌}
use Rattle.fleet_script.proofs.WordLemmas.{word_drawn, after_drawn}
use Rattle.fleet_script.proofs.words.Words.draw.Goals as goal

pub invariant_of-self : goal.invariant_of-self
invariant_of-self c = record { place = ap (λ p. p.1) c.next_word-word.ensures ∙ after_drawn _ _ _ c.args.self.now.place }

pub returns-clause-word : goal.returns-clause-word
returns-clause-word c = ap (λ p. p.0) c.next_word-word.ensures ∙ word_drawn _ _ _ c.args.self.now.place
