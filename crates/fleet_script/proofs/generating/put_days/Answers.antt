use Rattle.std.proofs.Common.{◌≡◌, ◌++◌, ◌∙◌, arith}
use Rattle.fleet_spec.specs.Script.{steps_of_day}
use Rattle.fleet_script.proofs.Growing.{day_more}
use Rattle.fleet_script.proofs.generating.put_days.Goals as goal

pub loop-day-preserved : goal.loop-day-preserved
loop-day-preserved c =
    let done = c.in_ok-put_day.ensures in
    let put : c.put_day.new.steps.items ≡ c.loop-day.steps.items ++ steps_of_day c.args.words.now.seed c.args.devices c.loop-day.day = rw c.loop-day.invariant.seed at done.steps in
    record {
      steps = day_more c.args.words.now.seed c.args.devices c.loop-day.day _ _ _ c.loop-day.invariant.steps put;
      seed = done.seed ∙ c.loop-day.invariant.seed;
      drawn = omega (arith, done.drawn);
      few = omega (arith, done.drawn);
    }
