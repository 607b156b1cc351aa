use Rattle.std.proofs.Common.{◌<◌, length, drop, ap, sym, ◌∙◌, rules}
use Rattle.paygo_spec.specs.declared.Event.TheVariants.{Power}
use Rattle.log_check.specs.declared.waiting.Waiting.{Waiting}
use Rattle.log_check.specs.Waiting.{steps_of}
use Rattle.log_check.proofs.Settling.{drop_acts}
use Rattle.log_check.proofs.waiting.behind_first.Goals as goal

pub returns-then-at-len-clause-steps : goal.returns-then-at-len-clause-steps
returns-then-at-len-clause-steps c =
    let within : c.in-Events.at < length c.in-Events.events.items = search rules in
    sym (drop_acts c.in-Events.events.items c.in-Events.at Power within)
    ∙ ap (λ (w : Waiting). drop 1 (steps_of w)) (sym c.in-Events.is)
