use Rattle.std.proofs.Common.{arith, ap, ◌∙◌}
use Rattle.paygo_spec.specs.History.{Summary}
use Rattle.paygo_spec.specs.Clock.{clock_at_start}
use Rattle.paygo_spec.specs.Machine.{reply_to_entry}
use Rattle.device_core.proofs.Going.{added_as}
use Rattle.device_core.proofs.made.add.Goals as goal

pub returns-in-Ok : goal.returns-in-Ok
returns-in-Ok g c =
    added_as _ _ _ _ _ _ _ c.reply_to.ensures (record {
      some_room = λ e. omega (arith, c.in-Ok.ensures.room, e);
      reply_is = c.reply_to.ensures ∙ ap (λ (s : Summary). reply_to_entry c.args.entry (clock_at_start s)) c.summary.ensures.value;
      journal = c.in-Ok.ensures.journal;
      words = c.in-Ok.ensures.added;
      calls = c.in-Ok.ensures.calls;
    })
