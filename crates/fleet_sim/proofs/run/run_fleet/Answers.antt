use Rattle.std.proofs.Common.{◌∙◌, ap, sym}
use Rattle.std.proofs.Common.{length}
use Rattle.fleet_sim.proofs.Stepping.{sold_count}
use Rattle.fleet_sim.proofs.Closing.{came}
use Rattle.fleet_sim.proofs.run.run_fleet.Goals as goal

pub run-requires-clause-count : goal.run-requires-clause-count
run-requires-clause-count g c =
    sold_count g.M.Mixer.next c.deref.result.now c.in_ok-fleet.fleet c.in_ok-fleet.ensures
    ∙ ap length (c.deref.ensures.value ∙ sym c.deref-2.ensures.value)

pub returns : goal.returns
returns g c =
    came g.M.Mixer.next c.args.script.now.devices.items c.args.script.now.steps.items
    c.in_ok-fleet.fleet c.run.new.self c.totals.result
    (rw c.deref.ensures.value at c.in_ok-fleet.ensures)
    (rw (c.deref-2.ensures.value, c.deref-3.ensures.value) at c.in_ok-run.ensures) c.totals.ensures
