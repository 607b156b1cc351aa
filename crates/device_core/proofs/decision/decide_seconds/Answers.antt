use Rattle.std.proofs.Common.{Some, sym, ◌∙◌, ap}
use Rattle.paygo_spec.specs.Clock.{unit_of}
use Rattle.paygo_spec.specs.declared.Reply.{Reply}
use Rattle.device_core.specs.declared.decision.Decision.TheVariants.{Answers}
use Rattle.device_core.proofs.Deciding.{seconds_same, seconds_other, seconds_may}
use Rattle.device_core.proofs.decision.decide_seconds.Goals as goal

pub returns-then-show_same-clause-decision : goal.returns-then-show_same-clause-decision
returns-then-show_same-clause-decision c =
    ap (λ (r : Reply). Some (Answers r)) c.reply_to_time.ensures
    ∙ seconds_same c.args.journal.now c.summary.result.now c.args.seconds c.pass.new.self c.summary.ensures.value
    (c.pass.ensures (unit_of c.args.journal.now.config.divider)) (sym c.show_same.ensures ∙ c.if-show_same.true)

pub returns-clause-decision : goal.returns-clause-decision
returns-clause-decision c =
    seconds_other c.args.journal.now c.summary.result.now c.args.seconds c.pass.new.self c.summary.ensures.value
    (c.pass.ensures (unit_of c.args.journal.now.config.divider)) (sym c.show_same.ensures ∙ c.if-show_same.false)

pub returns-clause-may : goal.returns-clause-may
returns-clause-may c =
    seconds_may c.args.journal.now c.summary.result.now c.args.seconds c.pass.new.self c.summary.ensures.value
    (c.pass.ensures (unit_of c.args.journal.now.config.divider)) (sym c.show_same.ensures ∙ c.if-show_same.false) c.requires
