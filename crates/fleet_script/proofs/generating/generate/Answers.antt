use Rattle.std.proofs.Common.{◌≡◌, arith, rules}
use Rattle.fleet_spec.specs.Script.{enrols_of, steps_of}
use Rattle.fleet_script.proofs.Ranges.{script_in_range}
use Rattle.fleet_script.proofs.generating.generate.Goals as goal

pub returns-clause-in_range : goal.returns-clause-in_range
returns-clause-in_range c =
    let devices : c.in_ok-sold.sold.items ≡ enrols_of c.args.seed c.args.devices = search rules in
    let steps : c.put_days.new.steps.items ≡ steps_of c.args.seed c.args.devices c.args.days = search rules in
    rw (devices, steps) (script_in_range c.args.seed c.args.devices c.args.days (omega arith))
