use Rattle.std.proofs.Common.{sym, ◌∙◌, arith}
use Rattle.paygo_spec.proofs.Leasts.{least_found}
use Rattle.bank_ring.proofs.pair.first_bad.Goals as goal

pub returns-then-is_bad-clause-value : goal.returns-then-is_bad-clause-value
returns-then-is_bad-clause-value c = sym (least_found _ _ _ c.banks.invariant (sym c.is_bad.ensures ∙ c.if-is_bad.true) (omega arith))
