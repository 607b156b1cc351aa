use Rattle.std.proofs.Common.{◌<◌, length, rules}
use Rattle.paygo_spec.specs.declared.Event.TheVariants.{Power}
use Rattle.log_check.proofs.Settling.{first_acts, event_at}
use Rattle.log_check.proofs.waiting.first_event.Goals as goal

pub returns-then-at-events : goal.returns-then-at-events
returns-then-at-events c =
    let within : c.args.at < length c.args.events.now = search rules in
    (first_acts c.args.events.now c.args.at Power within, event_at c.args.events.now c.args.at Power within c.requires)
