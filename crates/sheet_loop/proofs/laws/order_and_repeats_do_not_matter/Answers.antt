use Rattle.sheet_loop.proofs.Counting.{any_order}
use Rattle.sheet_loop.proofs.laws.order_and_repeats_do_not_matter.Goals as goal

pub returns : goal.returns
returns c = any_order
