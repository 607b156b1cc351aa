use Rattle.count_window.proofs.Bits.{moved_bits, one_bits}
use Rattle.count_window.proofs.moved.Goals as goal

pub returns-then-step-lt16 : goal.returns-then-step-lt16
returns-then-step-lt16 c = moved_bits _ _ c.requires c.if-step-lt16.true

pub returns-else-step-lt16 : goal.returns-else-step-lt16
returns-else-step-lt16 c = one_bits c.args.bits _ c.if-step-lt16.false
