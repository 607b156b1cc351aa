use Rattle.device_core.proofs.MakeSteps.{make_handled}
use Rattle.device_core.proofs.device.Device.make.Goals as goal

pub returns : goal.returns
returns g c = λ next.
    make_handled next c.args.config.now c.args.self.now.phase c.args.self.now.pad _ _ c.begin-phase.result.0 c.begin-phase.result.1 c.requires.unmade c.requires.holds c.begin-phase.ensures
