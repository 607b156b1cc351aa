use Rattle.word_rail.proofs.Bits.{railed_is, railed_number, paired_is}
use Rattle.word_rail.proofs.tests_agree.Goals as goal

pub returns : goal.returns
returns c = record { railed = railed_is; number = railed_number; paired = paired_is }
