use Rattle.std.proofs.Common.{arith, sym}
use Rattle.bank_journal.proofs.ReadingHead.{block_few, block_many}
use Rattle.bank_journal.proofs.reading.keeps_block.Goals as goal

pub returns-in-1-to-26 : goal.returns-in-1-to-26
returns-in-1-to-26 c = block_few c.args.fails c.args.block (omega arith) (omega arith)

pub returns-in_default : goal.returns-in_default
returns-in_default c = sym (block_many c.args.fails c.args.block (omega arith) (omega arith))
