use Rattle.std.proofs.Common.{◌≡◌, [], ◌∷◌, refl, rules}
use Rattle.log_check.specs.declared.standing.Standing.TheVariants as standing_is
use Rattle.log_check.proofs.Stating.{first_states}
use Rattle.log_check.proofs.states.States.first.Goals as goal

pub returns-in-Ok : goal.returns-in-Ok
returns-in-Ok c =
    let items : c.in-Ok.standings.items ≡ standing_is.Blank ∷ [] = search rules in
    first_states _ refl c.empty.ensures items
