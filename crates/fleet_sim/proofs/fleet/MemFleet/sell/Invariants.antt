use Rattle.std.proofs.Common.{take}
use Rattle.fleet_sim.specs.Fleets.{IsSold}
use Rattle.fleet_sim.proofs.fleet.MemFleet.sell.Given as goal

abbrev pub invariant-loop-enrol : goal.invariant-loop-enrol
invariant-loop-enrol g l = IsSold g.M.Mixer.next (take l.enrol-index l.enrols) l.fleet
