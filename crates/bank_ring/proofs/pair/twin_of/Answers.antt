use Rattle.std.proofs.Common.{sym, ◌∙◌, arith}
use Rattle.paygo_spec.proofs.Leasts.{least_found}
use Rattle.bank_ring.proofs.pair.twin_of.Goals as goal

pub returns-then-is_twin-clause-value : goal.returns-then-is_twin-clause-value
returns-then-is_twin-clause-value c = sym (least_found _ _ _ c.banks.invariant (sym c.is_twin.ensures ∙ c.if-is_twin.true) (omega arith))
