use Rattle.std.proofs.Common.{sym, ◌∙◌, arith}
use Rattle.paygo_spec.proofs.Leasts.{least_found}
use Rattle.bank_ring.proofs.pair.passed_by.Goals as goal

pub returns-then-is_passed-clause-value : goal.returns-then-is_passed-clause-value
returns-then-is_passed-clause-value c = sym (least_found _ _ _ c.banks.invariant (sym c.is_passed.ensures ∙ c.if-is_passed.true) (omega arith))
