use Rattle.sheet_book.proofs.Counting.{totals_same}
use Rattle.sheet_book.proofs.order_and_repeats_do_not_matter.Goals as goal

pub returns : goal.returns
returns c = totals_same
