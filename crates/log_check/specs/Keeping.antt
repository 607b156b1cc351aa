-- What the check keeps of the states that a device may be in: one pad for all of them, and what the flash stands for in
-- each.
use Rattle.std.specs.Prelude.{◌≡◌, ℕ, Bool, true, false, List, [], ◌∷◌, ◌++◌, map, codes, if◌then◌else◌}
use Rattle.std.specs.List.{filter, flat_map, list_any}
use Rattle.std.specs.Str.{bytes_eq}
use Rattle.paygo_spec.specs.declared.Event.{Event}
use Rattle.paygo_spec.specs.declared.Event.TheVariants.{Power}
use Rattle.paygo_spec.specs.Machine.{State, Stored, Blank, Journal}
use Rattle.paygo_spec.specs.Pad.{Keys}
use Rattle.log_check.specs.declared.outcomes.Foreseen.{Foreseen}
use Rattle.log_check.specs.declared.standing.Standing.{Standing}
use Rattle.log_check.specs.After.{Outcome, outcomes, powering}
use Rattle.log_check.specs.Fits.{says}
use Rattle.log_check.specs.Same.{same_stored}
use Rattle.log_check.specs.Standing.{stored_of, IsStanding}

-- Each of these is in range.
abbrev pub AreStandings : List Standing → Type 0
AreStandings [] = Unit {0}
AreStandings (standing ∷ standings) = IsStanding standing × AreStandings standings

abbrev pub AreForetold : List Foreseen → Type 0
AreForetold [] = Unit {0}
AreForetold (foreseen ∷ more) = IsStanding foreseen.standing × AreForetold more

-- What the flash stands for in each.
abbrev pub storeds_of : List Standing → List Stored
storeds_of standings = map stored_of standings

-- These with one more, unless it is among them.
abbrev pub put_stored : List Stored → Stored → List Stored
put_stored storeds stored = if list_any (same_stored stored) storeds then storeds else storeds ++ stored ∷ []

-- These with others behind them, each kept once.
abbrev pub put_storeds : List Stored → List Stored → List Stored
put_storeds storeds [] = storeds
put_storeds storeds (stored ∷ more) = put_storeds (put_stored storeds stored) more

-- Each of these is kept once.
abbrev pub AreOnce : List Stored → Type 0
AreOnce storeds = put_storeds [] storeds ≡ storeds

-- Whether a device was made on the flash.
abbrev pub is_made : Stored → Bool
is_made (Journal history) = true
is_made _ = false

-- The first of these, and whether a device was made on it.
abbrev pub first_of : List Stored → Stored
first_of [] = Blank
first_of (stored ∷ storeds) = stored

abbrev pub first_is_made : List Stored → Bool
first_is_made storeds = is_made (first_of storeds)

-- On each of these one was made, or on none.
abbrev pub AllMade : Bool → List Stored → Type 0
AllMade made [] = Unit {0}
AllMade made (stored ∷ storeds) = (is_made stored ≡ made) × AllMade made storeds

abbrev pub AreAlike : List Stored → Type 0
AreAlike storeds = AllMade (first_is_made storeds) storeds

-- The state of a device of which this is known.
abbrev pub state_as : Bool → Keys → ℕ → Stored → State
state_as on keys faults stored = record { on = on; stored = stored; keys = keys; faults = faults }

abbrev pub states_as : Bool → Keys → ℕ → List Stored → List State
states_as on keys faults storeds = map (state_as on keys faults) storeds

-- What a device that is on may answer to an event, or one that is off to Power, and what its flash stands for then.
abbrev pub outcomes_at : (List ℕ → ℕ → ℕ) → Event → Keys → Stored → List Outcome
outcomes_at next Power keys stored = powering stored
outcomes_at next event keys stored = outcomes next stored keys event

-- What the flash stands for behind an answer with this text.
abbrev pub told_by : List ℕ → List Outcome → List Stored
told_by text list = map (λ outcome. outcome.stored) (filter (λ outcome. says text outcome.reply) list)

-- The same of devices that may stand for any of these.
abbrev pub told_from : (List ℕ → ℕ → ℕ) → List ℕ → Event → Keys → List Stored → List Stored
told_from next text event keys storeds = flat_map (λ stored. told_by text (outcomes_at next event keys stored)) storeds

-- Whether this is the text of a device whose power was cut.
abbrev pub is_cut : List ℕ → Bool
is_cut text = bytes_eq text (codes "down")
