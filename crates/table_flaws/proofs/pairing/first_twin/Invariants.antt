use Rattle.std.proofs.Common.{◌≡◌, drop}
use Rattle.std.specs.Prelude.{find}
use Rattle.table_flaws.specs.Found.{share_chain}
use Rattle.table_flaws.proofs.pairing.first_twin.Given as goal

abbrev pub invariant-loop-other : goal.invariant-loop-other
invariant-loop-other l = find (share_chain l.row) (drop l.other-index l.rows) ≡ find (share_chain l.row) l.rows
