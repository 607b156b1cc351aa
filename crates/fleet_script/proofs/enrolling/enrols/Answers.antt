use Rattle.std.proofs.Common.{◌≡◌, [], ◌∷◌, ◌++◌, ◌∙◌, rules}
use Rattle.fleet_spec.specs.Script.{enrol_of}
use Rattle.fleet_script.proofs.Growing.{enrols_more}
use Rattle.fleet_script.proofs.enrolling.enrols.Goals as goal

pub loop-device-preserved : goal.loop-device-preserved
loop-device-preserved c =
    let put : c.push.new.self.items ≡ c.loop-device.enrols.items ++ c.enrol.result ∷ [] = search rules in
    let enrol : c.enrol.result ≡ enrol_of c.args.words.now.seed c.loop-device.device = rw c.loop-device.invariant.seed at c.enrol.ensures.enrol in
    record {
      enrols = put ∙ enrols_more c.args.words.now.seed c.loop-device.device _ _ c.loop-device.invariant.enrols enrol;
      seed = c.enrol.ensures.seed ∙ c.loop-device.invariant.seed;
      drawn = c.enrol.ensures.drawn;
    }
