use Rattle.std.proofs.Common.{◌≡◌, drop, map}
use Rattle.shop_schema.specs.Form.{needs_of, need}
use Rattle.shop_schema.specs.Judging.{needed_misfit}
use Rattle.shop_schema.proofs.judging.judge_needed.Given as goal

-- What is left to look at decides.
abbrev pub invariant-loop-need : goal.invariant-loop-need
invariant-loop-need l =
    needed_misfit l.table l.found (map need (drop l.need-index l.need-items)) ≡ needed_misfit l.table l.found (needs_of l.table)
