use Rattle.std.proofs.Common.{ap, ◌∙◌}
use Rattle.std.proofs.lemmas.List.{take_all}
use Rattle.run_spec.specs.DeviceLines.{presses}
use Rattle.bench_run.proofs.Pressing.{keys_behind}
use Rattle.log_check.proofs.Settling.{presses_more}
use Rattle.log_check.proofs.waiting.keys_in.Goals as goal

pub loop-key-preserved : goal.loop-key-preserved
loop-key-preserved c = record {
  rest = keys_behind c.args.text.now c.loop-key.key-index c.loop-key-test.true c.loop-key.invariant.rest;
  pressed = presses_more c.args.text.now c.loop-key.key-index c.loop-key.events.items c.press.new.events.items
      c.loop-key-test.true
      c.loop-key.invariant.pressed c.in_ok-press.ensures.events;
  range = c.in_ok-press.ensures.range c.loop-key.invariant.range;
}

pub returns-clause-events : goal.returns-clause-events
returns-clause-events c =
    c.loop-key.invariant.pressed ∙ ap presses (take_all c.loop-key.key-index c.args.text.now c.loop-key-test.false)
