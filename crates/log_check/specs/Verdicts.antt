-- The verdict on a log: the first line that ends the check decides, and else whether a step waits at the end.
use Rattle.std.specs.Prelude.{◌≡◌, ℕ, ◌+◌, ◌-◌, ◌^◌, ◌<◌, ◌≤◌, ◌⊎◌, min, nat_lt, List, [], ◌∷◌, ◌++◌, length, Option, Some, None, unwrap_or, if◌then◌else◌}
use Rattle.paygo_spec.specs.Machine.{State}
use Rattle.run_spec.specs.Run.{Step}
use Rattle.log_check.specs.declared.Verdict.{Verdict}
use Rattle.log_check.specs.declared.Verdict.TheVariants.{Yes, No, Wide, Unread}
use Rattle.log_check.specs.Fits.{Marked, Unmarked, Fit, first_fit, after_line, fits}
use Rattle.log_check.specs.Logs.{IsLog, BeginsLog}

-- A number that stands still at the end of its type.
abbrev pub counted : ℕ → ℕ
counted n = min n (2 ^ 64 - 1)

-- What ends the check at the line of this number, if it does: it has no mark, no state fits any more, or more than 64
-- do.
abbrev pub ended_at : ℕ → Marked → List State → Option Verdict
ended_at n Unmarked states = Some (Unread (counted n))
ended_at n line [] = Some (No (counted n))
ended_at n line states = if nat_lt 64 (length states) then Some (Wide (counted n)) else None

-- The verdict behind the last line: where a step waits, its answer is missing.
abbrev pub at_end : ℕ → List Step → Verdict
at_end n [] = Yes (counted n)
at_end n waiting = No (counted (n + 1))

-- The verdict on these lines behind so many, which this fits.
abbrev pub judged : (List ℕ → ℕ → ℕ) → ℕ → Fit → List Marked → Verdict
judged next n old [] = at_end n old.waiting
judged next n old (line ∷ lines) =
    unwrap_or (ended_at (n + 1) line (after_line next old line).states)
    (judged next (n + 1) (after_line next old line) lines)

-- The verdict on a log.
abbrev pub verdict_on : (List ℕ → ℕ → ℕ) → List Marked → Verdict
verdict_on next lines = judged next 0 first_fit lines

-- At most 64 states fit at every line.
abbrev pub NeverWide : (List ℕ → ℕ → ℕ) → List Marked → Type 0
NeverWide next lines =
    (earlier later : List Marked) → earlier ++ later ≡ lines → length (fits next earlier).states ≤ 64

-- The line of this number, and those before and behind it.
pub record IsLine (lines : List Marked) (n : ℕ) : Type 0 where
  pub earlier : List Marked
  pub line : Marked
  pub later : List Marked
  pub split : lines ≡ earlier ++ line ∷ later
  pub number : n ≡ counted (length earlier + 1)

-- The lines before this one begin a log, and with it they don't.
abbrev pub Breaks : (List ℕ → ℕ → ℕ) → List Marked → ℕ → Type 0
Breaks next lines n =
    (at : IsLine lines n) × BeginsLog next at.earlier × (BeginsLog next (at.earlier ++ at.line ∷ []) → ⊥)

-- The lines begin a log, and aren't a whole one.
abbrev pub Misses : (List ℕ → ℕ → ℕ) → List Marked → ℕ → Type 0
Misses next lines n = (n ≡ counted (length lines + 1)) × BeginsLog next lines × (IsLog next lines → ⊥)

-- What a verdict says.
abbrev pub Means : (List ℕ → ℕ → ℕ) → List Marked → Verdict → Type 0
Means next lines (Yes n) = (n ≡ counted (length lines)) × IsLog next lines × NeverWide next lines
Means next lines (No n) = Breaks next lines n ⊎ Misses next lines n
Means next lines (Wide n) = (at : IsLine lines n) × (64 < length (fits next (at.earlier ++ at.line ∷ [])).states)
Means next lines (Unread n) = (at : IsLine lines n) × BeginsLog next at.earlier × (at.line ≡ Unmarked)
