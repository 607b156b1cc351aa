use Rattle.paygo_cli.proofs.Fleets.{drawn}
use Rattle.paygo_cli.proofs.simulating.totals_of.Goals as goal

pub returns : goal.returns
returns g c =
    drawn g.M.Mixer.next c.args.seed c.args.devices c.args.days c.in_ok-script.script.devices.items c.in_ok-script.script.steps.items c.run_fleet.result c.in_ok-script.ensures.devices c.in_ok-script.ensures.steps c.run_fleet.ensures
