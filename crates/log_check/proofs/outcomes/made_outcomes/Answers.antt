use Rattle.std.proofs.Common.{◌≡◌, map, ap, ◌∙◌}
use Rattle.paygo_spec.specs.Machine.{effect_of}
use Rattle.device_core.specs.Decided.{decided}
use Rattle.log_check.specs.After.{by_effect}
use Rattle.log_check.specs.Standing.{history_of, outcome_of, by_decision}
use Rattle.log_check.proofs.Deciding.{by_decision_of}
use Rattle.log_check.proofs.Standings.{ok_if}
use Rattle.log_check.proofs.outcomes.made_outcomes.Goals as goal

pub returns-clause-outcomes : goal.returns-clause-outcomes
returns-clause-outcomes g c keys held =
    let history = history_of c.args.made.now in
    let next = g.M.Mixer.next in
    let effect = effect_of next history keys c.args.event in
    ok_if (λ list. map outcome_of list.items ≡ by_decision history c.decide-decision.result)
    (λ list. map outcome_of list.items ≡ by_effect history effect) c.decided.result
    (λ list e. e ∙ ap (by_decision history) (c.decide-decision.ensures.decision keys held
    ∙ ap (λ j. decided next j keys c.args.event) c.journal-journal.ensures) ∙ by_decision_of history effect)
    c.decided.ensures.outcomes
