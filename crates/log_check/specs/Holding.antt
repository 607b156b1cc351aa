-- What a check holds of what is known of the lines so far.
use Rattle.std.specs.Prelude.{◌≡◌, ℕ, nat_lt, ◌==◌, Option, None, Some, if◌then◌else◌}
use Rattle.log_check.specs.declared.Verdict.{Verdict}
use Rattle.log_check.specs.declared.Verdict.TheVariants.{No, Wide}
use Rattle.log_check.specs.declared.progress.Progress.{Progress}
use Rattle.log_check.specs.Checking.{Checked}
use Rattle.log_check.specs.FitKept.{IsFit}
use Rattle.log_check.specs.Verdicts.{counted}

-- The verdict that so many states end the check with at a line of this number, if they do.
abbrev pub ended_with : ℕ → ℕ → Option Verdict
ended_with line states =
    if states == 0 then Some (No line) else if nat_lt 64 states then Some (Wide line) else None

-- The number of lines, the verdict that stands, and where none does, what fits.
pub record Holds (progress : Progress) (checked : Checked) : Type 0 where
  pub lines : progress.lines ≡ counted checked.lines
  pub ended : progress.ended ≡ checked.ended
  pub fits : checked.ended ≡ None → IsFit progress.fitting checked.now
