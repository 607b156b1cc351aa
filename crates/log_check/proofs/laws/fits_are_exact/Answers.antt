use Rattle.log_check.proofs.Asking.{lines_good}
use Rattle.log_check.proofs.Fitting.{fits_exact}
use Rattle.log_check.proofs.laws.fits_are_exact.Goals as goal

pub returns : goal.returns
returns c next lines may = fits_exact next lines_good lines may
