-- The verdict of a check that is handed lines one after another is the verdict on the list of them.
use Rattle.std.proofs.Common.{◌≡◌, ℕ, ◌+◌, List, [], ◌∷◌, Option, Some, None, refl}
use Rattle.std.specs.Prelude.{unwrap_or}
use Rattle.log_check.specs.declared.Verdict.{Verdict}
use Rattle.log_check.specs.Fits.{Marked, Fit, first_fit, after_line}
use Rattle.log_check.specs.Verdicts.{ended_at, judged, verdict_on}
use Rattle.log_check.specs.Checking.{Checked, first_checked, with_lines, verdict_of}

module _ (next : List ℕ → ℕ → ℕ) where
  abbrev known : ℕ → Fit → Option Verdict → Checked
  known n now ended = record { lines = n; now = now; ended = ended }

  -- a verdict that stands is passed on
  stands : (lines : List Marked) (n : ℕ) (now : Fit) (verdict : Verdict)
      → verdict_of (with_lines next (known n now (Some verdict)) lines) ≡ verdict
  stands [] n now verdict = refl
  stands (line ∷ lines) n now verdict = stands lines n now verdict

  abbrev Judged : List Marked → Type 0
  Judged lines = (n : ℕ) (now : Fit) → verdict_of (with_lines next (known n now None) lines) ≡ judged next n now lines

  behind : (lines : List Marked) → Judged lines → (n : ℕ) (now : Fit) (ended : Option Verdict)
      → verdict_of (with_lines next (known n now ended) lines) ≡ unwrap_or ended (judged next n now lines)
  behind lines judges n now None = judges n now
  behind lines judges n now (Some verdict) = stands lines n now verdict

  judges : (lines : List Marked) → Judged lines
  judges [] n now = refl
  judges (line ∷ lines) n now =
      behind lines (judges lines) (n + 1) (after_line next now line)
      (ended_at (n + 1) line (after_line next now line).states)

  pub check_judges : (lines : List Marked) → verdict_of (with_lines next first_checked lines) ≡ verdict_on next lines
  check_judges lines = judges lines 0 first_fit
