-- A word, and the generator behind it.
use Rattle.std.proofs.Common.{◌≡◌, ℕ, ◌+◌, ap, sym, ◌∙◌, add-one}
use Rattle.rand_pcg.specs.Lcg.{Lcg}
use Rattle.rand_pcg.specs.Pcg.{pcg32}
use Rattle.fleet_spec.specs.Words.{after, word}

-- the word that is drawn where n words were drawn
pub word_drawn : (seed n : ℕ) (generator : Lcg) → generator ≡ after seed n → (pcg32 generator).0 ≡ word seed n
unfolding word
word_drawn seed n generator place = ap (λ g. (pcg32 g).0) place

-- the generator then
pub after_drawn : (seed n : ℕ) (generator : Lcg) → generator ≡ after seed n → (pcg32 generator).1 ≡ after seed (n + 1)
unfolding after
after_drawn seed n generator place = ap (λ g. (pcg32 g).1) place ∙ ap (after seed) (sym (add-one n))
