use Rattle.std.proofs.Common.{◌≡◌, None}
use Rattle.std.specs.Prelude.{slice_index}
use Rattle.paygo_spec.specs.Least.{least}
use Rattle.bank_ring.specs.View.{is_newest}
use Rattle.bank_ring.proofs.pair.newest.Given as goal

abbrev pub invariant-banks : goal.invariant-banks
invariant-banks l = least (is_newest (λ b. slice_index l.headers b) l.banks) l.bank ≡ None
