use Rattle.sip_lanes.proofs.LaneLemmas.{shifts_rotate}
use Rattle.sip_lanes.proofs.four.rotate.Goals as goal

pub returns : goal.returns
returns c = shifts_rotate c.args.by c.requires.0 c.requires.1 c.args.a c.fits-a.0
