use Rattle.std.proofs.Common.{◌∙◌}
use Rattle.fleet_sim.proofs.Stepping.{pushed_so, sold_more}
use Rattle.fleet_sim.proofs.fleet.MemFleet.sell_one.Goals as goal

pub returns : goal.returns
returns g c = λ enrols is.
    sold_more g.M.Mixer.next enrols c.args.enrol.now c.args.self.now _ c.push.new.self.items c.made.result
    c.made.ensures (c.self.view_is ∙ c.in_ok-command.ensures)
    (pushed_so c.self.inside.sites.items c.push.new.self.items c.made.result _
    c.is_err.result c.is_err.ensures.negation c.if-is_err.false c.push.ensures.items) is
