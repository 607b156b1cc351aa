use Rattle.fleet_sim.proofs.Closing.{totals_are}
use Rattle.fleet_sim.proofs.fleet.MemFleet.totals.Goals as goal

pub returns : goal.returns
returns g c =
    rw (← c.self.view_is)
    (totals_are _ c.orders.result c.left_on.result c.orders.type_inv c.orders.ensures c.left_on.ensures)
