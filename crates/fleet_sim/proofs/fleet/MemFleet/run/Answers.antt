use Rattle.fleet_sim.proofs.Stepping.{runs_step}
use Rattle.fleet_sim.proofs.fleet.MemFleet.run.Goals as goal

pub loop-step-preserved : goal.loop-step-preserved
loop-step-preserved g c =
    runs_step g.M.Mixer.next c.args.enrols.now c.args.steps.now c.loop-step.step-index c.step-item.result
    c.args.self.now c.loop-step.self c.step.new.self
    c.loop-step-test.true c.step-item.is c.loop-step.invariant c.in_ok-step.ensures.runs
