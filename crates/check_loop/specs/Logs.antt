-- The lines of a log, and what a run of `check` writes.
use Rattle.std.specs.Prelude.{◌≡◌, ℕ, ◌<◌, true, nat_lt, List, [], ◌∷◌, ◌++◌, length, take, map, codes, if◌then◌else◌}
use Rattle.paygo_spec.specs.Streams.{SourceView, SinkView}
use Rattle.paygo_spec.specs.Text.{with_number}
use Rattle.run_spec.specs.declared.Status.{Status}
use Rattle.run_spec.specs.declared.Status.TheVariants as status
use Rattle.run_spec.specs.Lines.{all_lines}
use Rattle.log_check.specs.declared.Verdict.{Verdict}
use Rattle.log_check.specs.declared.Verdict.TheVariants as verdict
use Rattle.log_check.specs.Fits.{Marked, Unmarked, marked}
use Rattle.log_check.specs.Verdicts.{verdict_on}

-- A line of the input as one of the log: one above 4,096 bytes has no mark.
abbrev pub line_of_log : List ℕ → Marked
line_of_log line = if nat_lt 4096 (length line) then Unmarked else marked line

-- The line of a verdict, without its end.
abbrev pub line_of_verdict : Verdict → List ℕ
line_of_verdict (verdict.Yes lines) = with_number (codes "yes") lines
line_of_verdict (verdict.No line) = with_number (codes "no") line
line_of_verdict (verdict.Wide line) = with_number (codes "wide") line
line_of_verdict (verdict.Unread line) = with_number (codes "unread") line

-- The text of the verdict on the lines of these bytes.
abbrev pub verdict_text : (List ℕ → ℕ → ℕ) → List ℕ → List ℕ
verdict_text next bytes = line_of_verdict (verdict_on next (map line_of_log (all_lines bytes))) ++ 10 ∷ []

-- What was written of that text, by the status: all of it at Ok; at Write, where the source has told its end, fewer bytes than
-- it has, the first ones; and else nothing.
abbrev pub WritesVerdict : Status → List ℕ → SourceView → SinkView → SinkView → Type 0
WritesVerdict status.Ok text source old new = new.written ≡ old.written ++ text
WritesVerdict status.Write text source old new =
    (source.ended ≡ true) × ((n : ℕ) × (n < length text) × (new.written ≡ old.written ++ take n text))
WritesVerdict status.Read text source old new = new.written ≡ old.written
WritesVerdict status.Long text source old new = new.written ≡ old.written
WritesVerdict status.Memory text source old new = new.written ≡ old.written
WritesVerdict _ text source old new = ⊥

-- What a run of `check` did: its source handed out these bytes, and that was written of the verdict on their lines.
pub record ChecksLog (next : List ℕ → ℕ → ℕ) (result : Status) (was now : SourceView) (old new : SinkView) : Type 0 where
  pub taken : List ℕ
  pub given : now.given ≡ was.given ++ taken
  pub writes : WritesVerdict result (verdict_text next taken) now old new
