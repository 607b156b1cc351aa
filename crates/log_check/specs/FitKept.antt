-- What a check keeps of what fits the lines so far.
use Rattle.std.specs.Prelude.{◌≡◌}
use Rattle.log_check.specs.declared.fit.Fitting.{Fitting}
use Rattle.log_check.specs.Fits.{Fit}
use Rattle.log_check.specs.Kept.{AreStates}
use Rattle.log_check.specs.SureTables.{tables_of}
use Rattle.log_check.specs.Waiting.{IsSettled, steps_of}

-- These steps wait, and these are the tables and the states.
pub record Stands (fitting : Fitting) (now : Fit) : Type 0 where
  pub tables_are : tables_of fitting.keeper ≡ now.tables
  pub waiting_are : steps_of fitting.waiting ≡ now.waiting
  pub states_are : AreStates fitting.states now.states

-- The same, and the first step that waits has an answer.
pub record IsFit (fitting : Fitting) (now : Fit) : Type 0 where
  pub stands : Stands fitting now
  pub is_settled : IsSettled now.waiting now.states
