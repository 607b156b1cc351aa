-- What a check knows of the lines handed to it, one after another, and what it says of them.
use Rattle.std.specs.Prelude.{ℕ, ◌+◌, List, [], ◌∷◌, Option, Some, None, unwrap_or}
use Rattle.log_check.specs.declared.Verdict.{Verdict}
use Rattle.log_check.specs.Fits.{Marked, Fit, first_fit, after_line}
use Rattle.log_check.specs.Verdicts.{ended_at, at_end}

-- How many lines there were, what fits them, and the verdict that ended the check, if one did: the lines behind that
-- one are passed over.
pub record Checked : Type 0 where
  pub lines : ℕ
  pub now : Fit
  pub ended : Option Verdict

-- What is known before the first line.
abbrev pub first_checked : Checked
first_checked = record { lines = 0; now = first_fit; ended = None }

-- What is known where this fits the first n lines, of which the last is this one.
abbrev pub at_line : ℕ → Marked → Fit → Checked
at_line n line now = record { lines = n; now = now; ended = ended_at n line now.states }

abbrev pub with_line_if : Option Verdict → (List ℕ → ℕ → ℕ) → Checked → Marked → Checked
with_line_if (Some verdict) next old line = old
with_line_if None next old line = at_line (old.lines + 1) line (after_line next old.now line)

-- What is known with one line more, which is passed over where a verdict stands.
abbrev pub with_line : (List ℕ → ℕ → ℕ) → Checked → Marked → Checked
with_line next old line = with_line_if old.ended next old line

abbrev pub with_lines : (List ℕ → ℕ → ℕ) → Checked → List Marked → Checked
with_lines next old [] = old
with_lines next old (line ∷ lines) = with_lines next (with_line next old line) lines

-- What is said of the lines so far: the verdict that stands, and else whether an answer is missing.
abbrev pub verdict_of : Checked → Verdict
verdict_of checked = unwrap_or checked.ended (at_end checked.lines checked.now.waiting)
