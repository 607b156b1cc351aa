-- The sums of a row as the database has them.
use Rattle.std.specs.Prelude.{◌≡◌, pos}
use Rattle.ledger_spec.specs.declared.Row.{Row}
use Rattle.shop_tables.specs.declared.values.Sums.{Sums}

-- These are the sums of the row.
pub record AreSums (row : Row) (sums : Sums) : Type 0 where
  pub price : sums.price ≡ pos row.price
  pub total : sums.total ≡ pos row.total
  pub paid : sums.paid ≡ pos row.paid
  pub rest : sums.rest ≡ pos row.rest
