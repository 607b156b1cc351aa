use Rattle.std.proofs.Common.{All}
use Rattle.fleet_spec.specs.Fleet.{StepIsInRange}
use Rattle.fleet_sim.proofs.tests.add_day.Given as goal

abbrev pub invariant-entries : goal.invariant-entries
invariant-entries g l = All (StepIsInRange 1) l.steps.items

abbrev pub invariant-hours : goal.invariant-hours
invariant-hours g l = All (StepIsInRange 1) l.steps.items
