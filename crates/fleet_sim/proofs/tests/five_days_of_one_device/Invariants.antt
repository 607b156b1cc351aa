use Rattle.std.proofs.Common.{All}
use Rattle.fleet_spec.specs.Fleet.{StepIsInRange}
use Rattle.fleet_sim.proofs.tests.five_days_of_one_device.Given as goal

abbrev pub invariant-loop-day : goal.invariant-loop-day
invariant-loop-day g l = All (StepIsInRange 1) l.steps.items
