use Rattle.std.proofs.Common.{◌≡◌, arith, rules}
use Rattle.fleet_spec.specs.Words.{word_on}
use Rattle.fleet_script.proofs.Growing.{device_more}
use Rattle.fleet_script.proofs.generating.put_day.Goals as goal

pub loop-device-preserved : goal.loop-device-preserved
loop-device-preserved c =
    let drawn : c.draw.result ≡ word_on c.args.words.now.seed c.args.devices c.args.day c.loop-device.device = search rules in
    record {
      steps = device_more c.args.words.now.seed c.args.devices c.args.day c.loop-device.device c.draw.result _ _ _ c.loop-device.invariant.steps drawn c.in_ok-put_device_day.ensures;
      seed = search rules;
      drawn = omega arith;
    }
