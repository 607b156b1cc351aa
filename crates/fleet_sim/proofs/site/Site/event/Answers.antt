use Rattle.std.proofs.Common.{refl}
use Rattle.fleet_sim.proofs.Following.{follows}
use Rattle.fleet_sim.proofs.site.Site.event.Goals as goal

pub returns : goal.returns
returns g c =
    rw (← c.self.view_is)
    (follows g.M.Mixer.next c.args.event c.event.result _ _ _ _ _ _ _ c.requires refl c.event.ensures.step c.event.ensures.calls)
