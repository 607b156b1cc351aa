use Rattle.sheet_loop.proofs.Counting.{counts_tokens}
use Rattle.sheet_loop.proofs.laws.no_token_is_counted_twice.Goals as goal

pub returns : goal.returns
returns c = counts_tokens
