use Rattle.std.proofs.Common.{◌<◌}
use Rattle.std.specs.Prelude.{All}
use Rattle.table_flaws.proofs.checking.values_of.Given as goal

abbrev pub invariant-orders : goal.invariant-orders
invariant-orders l = All (λ value. value < 1000) l.values.items
