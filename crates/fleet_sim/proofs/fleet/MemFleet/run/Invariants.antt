use Rattle.std.proofs.Common.{take}
use Rattle.fleet_sim.specs.Fleets.{Runs}
use Rattle.fleet_sim.proofs.fleet.MemFleet.run.Given as goal

abbrev pub invariant-loop-step : goal.invariant-loop-step
invariant-loop-step g l = Runs g.M.Mixer.next l.enrols (take l.step-index l.steps) l.fn.self l.self
