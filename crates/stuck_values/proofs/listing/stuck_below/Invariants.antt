use Rattle.std.proofs.Common.{◌≡◌, map}
use Rattle.ledger_spec.specs.Stuck.{stuck_below}
use Rattle.stuck_values.specs.Listing.{stuck_of_code}
use Rattle.stuck_values.proofs.listing.stuck_below.Given as goal

abbrev pub invariant-values : goal.invariant-values
invariant-values g l =
    map stuck_of_code l.list.items ≡ stuck_below (g.M.Mixer.next l.key) l.start l.limit l.value
