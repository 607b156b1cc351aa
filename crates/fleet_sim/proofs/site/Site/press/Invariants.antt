use Rattle.std.proofs.Common.{map, take}
use Rattle.paygo_spec.specs.declared.Event.TheVariants.{Key}
use Rattle.fleet_sim.specs.Sites.{Counts}
use Rattle.fleet_sim.proofs.site.Site.press.Given as goal

abbrev pub invariant-loop-key : goal.invariant-loop-key
invariant-loop-key g l = Counts g.M.Mixer.next (map Key (take l.key-index l.keys)) l.fn.self l.fn.tally l.self l.tally
