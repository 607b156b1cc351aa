use Rattle.std.proofs.Common.{arith}
use Rattle.word_rail.proofs.Bits.{paired_is, low_mask}
use Rattle.word_rail.proofs.paired.Goals as goal

pub returns-clause-rule : goal.returns-clause-rule
returns-clause-rule c = rw low_mask (paired_is c.args.w (omega arith))

pub returns-clause-test : goal.returns-clause-test
returns-clause-test c = simp low_mask
