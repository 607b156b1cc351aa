use Rattle.std.proofs.Common.{◌≡◌, length, ap, sym, ◌∙◌, rules}
use Rattle.std.specs.Prelude.{nat_lt}
use Rattle.log_check.specs.declared.waiting.Waiting.{Waiting}
use Rattle.log_check.specs.Waiting.{some_wait, steps_of}
use Rattle.log_check.proofs.Settling.{some_acts}
use Rattle.log_check.proofs.waiting.is_waiting.Goals as goal

pub returns-in-Events : goal.returns-in-Events
returns-in-Events c =
    let len : c.len.result ≡ length c.in-Events.events.items = search rules in
    ap (nat_lt c.in-Events.at) len ∙ sym (some_acts c.in-Events.events.items c.in-Events.at)
    ∙ ap (λ (w : Waiting). some_wait (steps_of w)) (sym c.in-Events.is)
