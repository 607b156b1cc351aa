use Rattle.std.proofs.Common.{◌≡◌, ◌++◌, take, drop}
use Rattle.table_flaws.specs.Found.{twins, twins_from}
use Rattle.table_flaws.proofs.pairing.twins_of.Given as goal

abbrev pub invariant-rows : goal.invariant-rows
invariant-rows l = l.list.items ++ twins_from (take l.i l.rows) (drop l.i l.rows) ≡ twins l.rows
