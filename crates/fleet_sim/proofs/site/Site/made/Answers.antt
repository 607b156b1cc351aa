use Rattle.fleet_sim.proofs.Following.{made}
use Rattle.fleet_sim.proofs.site.Site.made.Goals as goal

pub returns : goal.returns
returns g c =
    made g.M.Mixer.next c.args.enrol.now c.event-first.result c.event-second.result
    c.new-site.result c.event-first.new.self c.event-second.new.self
    c.new-site.ensures c.event-first.ensures c.event-second.ensures
