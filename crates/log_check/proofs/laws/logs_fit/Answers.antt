use Rattle.log_check.proofs.Completing.{begun_fits, whole_fits, whole_begins}
use Rattle.log_check.proofs.Sounding.{fits_begin, fits_whole}
use Rattle.log_check.proofs.laws.logs_fit.Goals as goal

pub returns-clause-begins : goal.returns-clause-begins
returns-clause-begins c next lines = (λ h. fits_begin next lines h.0 h.1, λ b. (begun_fits next lines b).1)

pub returns-clause-whole : goal.returns-clause-whole
returns-clause-whole c next lines = (
  λ h. fits_whole next lines h.0.0 h.0.1 h.1,
  λ log.
      ((begun_fits next lines (whole_begins next lines log)).1, whole_fits next lines log),
)
