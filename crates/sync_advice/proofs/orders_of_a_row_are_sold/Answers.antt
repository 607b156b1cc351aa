use Rattle.sync_advice.proofs.Sold.{row_is_sold, row_is_limited, row_is_within}
use Rattle.sync_advice.proofs.orders_of_a_row_are_sold.Goals as goal

pub returns-clause-sold : goal.returns-clause-sold
returns-clause-sold c = row_is_sold

pub returns-clause-limit : goal.returns-clause-limit
returns-clause-limit c = row_is_limited

pub returns-clause-within : goal.returns-clause-within
returns-clause-within c = row_is_within
