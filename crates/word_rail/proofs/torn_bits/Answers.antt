use Rattle.word_rail.proofs.Bits.{each_one, has_ones}
use Rattle.word_rail.proofs.torn_bits.Goals as goal

pub returns : goal.returns
returns c = λ w t f. (each_one w t, has_ones w t f)
