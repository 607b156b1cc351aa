use Rattle.device_core.proofs.PowerSteps.{power_handled}
use Rattle.device_core.proofs.device.Device.power.Goals as goal

pub returns : goal.returns
returns g c = λ next.
    power_handled next c.args.self.now _ _ c.start-phase.result c.greeting-reply.result c.empty.result c.greeting-reply.ensures.says c.empty.ensures c.greeting-reply.ensures.fits c.start-phase.ensures
