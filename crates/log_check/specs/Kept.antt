-- What the parts of a check stand for.
use Rattle.std.specs.Prelude.{◌≡◌, ℕ, true, List}
use Rattle.paygo_spec.specs.Machine.{State}
use Rattle.paygo_spec.specs.Pad.{Keys, kept_of}
use Rattle.log_check.specs.declared.states.States.{States}
use Rattle.log_check.specs.Keeping.{storeds_of, AreOnce, AreAlike, states_as}

-- These are the states: all have these keys and this number of faults, in all the device is on or in none, and where it
-- is on it was made in all or in none.
pub record AreStates (kept : States) (states : List State) : Type 0 where
  pub keys : Keys
  pub faults : ℕ
  pub pad : kept.pad ≡ kept_of keys
  pub states_are : states ≡ states_as kept.on keys faults (storeds_of kept.standings.items)
  pub once : AreOnce (storeds_of kept.standings.items)
  pub alike : kept.on ≡ true → AreAlike (storeds_of kept.standings.items)
