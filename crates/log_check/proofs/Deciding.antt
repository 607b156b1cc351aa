-- What a decision comes to is what the effect comes to that it carries out.
use Rattle.std.proofs.Common.{◌≡◌, Some, None, refl}
use Rattle.paygo_spec.specs.Machine.{History, Effect, Answers, Adds, Raises}
use Rattle.device_core.specs.Decided.{decision_of}
use Rattle.log_check.specs.After.{by_effect}
use Rattle.log_check.specs.Standing.{by_decision}

pub by_decision_of : (history : History) (effect : Effect)
    → by_decision history (decision_of effect) ≡ by_effect history effect
by_decision_of history (Answers None entries) = refl
by_decision_of history (Answers (Some reply) entries) = refl
by_decision_of history (Adds entry) = refl
by_decision_of history Raises = refl
