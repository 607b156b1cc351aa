use Rattle.std.proofs.Common.{◌≡◌, None}
use Rattle.paygo_spec.specs.Least.{least}
use Rattle.token_issue.specs.Lists.{may_take}
use Rattle.token_issue.proofs.searching.least_clean.Given as goal

abbrev pub invariant-counts : goal.invariant-counts
invariant-counts l = least (may_take l.tokens l.last l.kind) l.count ≡ None
