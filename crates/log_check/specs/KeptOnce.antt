-- That standings are in range has one proof at most, so a struct may hold it as a fact of its own.
use Rattle.std.specs.Prelude.{List, [], ◌∷◌}
use Rattle.std.proofs.Props.{props}
use Rattle.log_check.specs.declared.standing.Made.{Made as MadeOf}
use Rattle.log_check.specs.declared.standing.Standing.{Standing}
use Rattle.log_check.specs.declared.standing.Standing.TheVariants.{Blank, Made}
use Rattle.log_check.specs.Standing.{IsMade, IsStanding}
use Rattle.log_check.specs.Keeping.{AreStandings}

made_prop : (made : MadeOf) → IsProp (IsMade made)
made_prop made = hlevel props

standing_prop : (standing : Standing) → IsProp (IsStanding standing)
standing_prop Blank = hlevel props
standing_prop (Made made) = hlevel (props, made_prop)

pub standings_prop : (standings : List Standing) → IsProp (AreStandings standings)
standings_prop [] = hlevel props
standings_prop (standing ∷ standings) = hlevel (props, standing_prop, standings_prop standings)
