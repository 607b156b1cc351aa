use Rattle.std.proofs.Common.{◌≡◌, None}
use Rattle.std.specs.Prelude.{slice_index}
use Rattle.paygo_spec.specs.Least.{least}
use Rattle.bank_ring.specs.View.{has_twin}
use Rattle.bank_ring.proofs.pair.first_twin.Given as goal

abbrev pub invariant-banks : goal.invariant-banks
invariant-banks l = least (has_twin (λ b. slice_index l.headers b) l.banks) l.bank ≡ None
