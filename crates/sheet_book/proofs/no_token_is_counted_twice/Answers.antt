use Rattle.sheet_book.proofs.Counting.{each_once, any_once}
use Rattle.sheet_book.proofs.no_token_is_counted_twice.Goals as goal

pub returns : goal.returns
returns c = record {
  each = each_once;
  any = any_once;
}
