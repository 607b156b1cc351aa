use Rattle.std.proofs.Common.{arith}
use Rattle.count_window.proofs.Bits.{marked_bits}
use Rattle.count_window.proofs.marked.Goals as goal

pub returns : goal.returns
returns c = marked_bits c.args.bits c.args.at (omega arith) c.requires
