use Rattle.fleet_sim.proofs.Following.{press_more}
use Rattle.fleet_sim.proofs.site.Site.press.Goals as goal

pub loop-key-preserved : goal.loop-key-preserved
loop-key-preserved g c =
    press_more g.M.Mixer.next c.args.keys.now c.loop-key.key-index
    c.args.self.now c.loop-key.self c.happen.new.self c.args.tally.now c.loop-key.tally c.happen.new.tally
    c.loop-key-test.true c.loop-key.invariant c.happen.ensures
