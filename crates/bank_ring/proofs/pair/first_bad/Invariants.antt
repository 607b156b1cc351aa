use Rattle.std.proofs.Common.{◌≡◌, None}
use Rattle.std.specs.Prelude.{slice_index}
use Rattle.paygo_spec.specs.Least.{least}
use Rattle.bank_ring.specs.View.{is_bad}
use Rattle.bank_ring.proofs.pair.first_bad.Given as goal

abbrev pub invariant-banks : goal.invariant-banks
invariant-banks l = least (is_bad (λ b. slice_index l.headers b)) l.bank ≡ None
