use Rattle.std.proofs.Common.{sym, ◌∙◌, arith}
use Rattle.paygo_spec.proofs.Leasts.{least_found}
use Rattle.bank_ring.proofs.pair.newest.Goals as goal

pub returns-then-is_newest-clause-value : goal.returns-then-is_newest-clause-value
returns-then-is_newest-clause-value c = sym (least_found _ _ _ c.banks.invariant (sym c.is_newest.ensures ∙ c.if-is_newest.true) (omega arith))
