use Rattle.std.proofs.Common.{sym, ◌∙◌, ap, arith}
use Rattle.std.specs.Prelude.{is_some}
use Rattle.paygo_spec.proofs.Leasts.{least_found}
use Rattle.bank_ring.proofs.pair.first_twin.Goals as goal

pub returns-then-is_some-clause-value : goal.returns-then-is_some-clause-value
returns-then-is_some-clause-value c = sym (least_found _ _ _ c.banks.invariant (ap is_some (sym c.twin_of.ensures.value) ∙ sym c.is_some.ensures ∙ c.if-is_some.true) (omega arith))
