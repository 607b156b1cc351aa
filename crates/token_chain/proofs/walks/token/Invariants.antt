use Rattle.std.proofs.Common.{◌≡◌}
use Rattle.token_chain.proofs.walks.token.Given as goal

-- The walk has come to the count of the step.
abbrev pub invariant-steps : goal.invariant-steps
invariant-steps g l = l.walk ≡ record { key = l.fn.key; start = l.fn.start; value = l.fn.value; count = l.step }
