use Rattle.sync_advice.proofs.Behind.{behind_fits}
use Rattle.sync_advice.proofs.the_device_furthest_behind_fits.Goals as goal

pub returns : goal.returns
returns c = behind_fits
