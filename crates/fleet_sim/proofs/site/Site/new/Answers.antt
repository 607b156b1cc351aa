use Rattle.fleet_sim.proofs.Following.{starts}
use Rattle.fleet_sim.proofs.site.Site.new.Goals as goal

pub returns : goal.returns
returns g c =
    starts c.start.result _ _ c.start.ensures.off c.start.ensures.pad
    c.erased.ensures.words c.erased.ensures.due c.erased.ensures.faults
