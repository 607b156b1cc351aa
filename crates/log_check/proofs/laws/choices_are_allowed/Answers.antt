use Rattle.std.proofs.Common.{sym, subst}
use Rattle.std.specs.List.{Contains}
use Rattle.log_check.specs.After.{choice, after, summed_state}
use Rattle.paygo_spec.specs.Machine.{State}
use Rattle.log_check.proofs.Choices.{after_may, may_after}
use Rattle.log_check.proofs.Totals.{at_most_five}
use Rattle.log_check.proofs.laws.choices_are_allowed.Goals as goal

pub returns-clause-five : goal.returns-clause-five
returns-clause-five c = at_most_five

pub returns-clause-allowed : goal.returns-clause-allowed
returns-clause-allowed c next event old state reply = (
  λ h. after_may next event old (choice reply state) h,
  λ h. subst (λ (s : State). Contains (after next (summed_state old) event) (choice reply s)) (sym h.2)
      (may_after next event old reply h.0 h.1),
)
