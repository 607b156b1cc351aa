use Rattle.fleet_sim.proofs.Stepping.{sold_none, sold_step}
use Rattle.fleet_sim.proofs.fleet.MemFleet.sell.Goals as goal

pub loop-enrol-init : goal.loop-enrol-init
loop-enrol-init g c = sold_none g.M.Mixer.next c.new-fleet.result c.new-fleet.ensures

pub loop-enrol-preserved : goal.loop-enrol-preserved
loop-enrol-preserved g c =
    sold_step g.M.Mixer.next c.args.enrols.now c.loop-enrol.enrol-index c.enrol-item.result
    c.loop-enrol.fleet c.sell_one.new.self c.loop-enrol-test.true c.enrol-item.is c.loop-enrol.invariant c.in_ok-sell_one.ensures
