use Rattle.count_window.proofs.Bits.{full_bits, ones_bits}
use Rattle.count_window.proofs.ones.Goals as goal

pub returns-then-n-ge16 : goal.returns-then-n-ge16
returns-then-n-ge16 c = full_bits _ c.if-n-ge16.true

pub returns-else-n-ge16 : goal.returns-else-n-ge16
returns-else-n-ge16 c = ones_bits _ c.if-n-ge16.false
