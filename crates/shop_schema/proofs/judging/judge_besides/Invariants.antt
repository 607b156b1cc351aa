use Rattle.std.proofs.Common.{◌≡◌, drop}
use Rattle.shop_schema.specs.Judging.{besides_misfit}
use Rattle.shop_schema.proofs.judging.judge_besides.Given as goal

-- What is left to look at decides.
abbrev pub invariant-loop-at : goal.invariant-loop-at
invariant-loop-at l =
    (l.column-items ≡ l.found.columns)
    × (besides_misfit l.table l.found l.at (drop l.at l.column-items) ≡ besides_misfit l.table l.found 0 l.found.columns)
