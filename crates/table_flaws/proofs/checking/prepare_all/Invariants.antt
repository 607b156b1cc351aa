use Rattle.std.proofs.Common.{◌≡◌}
use Rattle.table_flaws.proofs.checking.prepare_all.Given as goal

abbrev pub invariant-fours : goal.invariant-fours
invariant-fours g l = l.tokens ≡ l.fn.tokens
