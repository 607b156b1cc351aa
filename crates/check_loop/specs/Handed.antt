-- What becomes of the lines of a log in a check.
use Rattle.std.specs.Prelude.{◌≡◌, ℕ, List, Result, Ok, Err}
use Rattle.paygo_spec.specs.declared.Memory.{Memory}
use Rattle.paygo_spec.specs.Flash.{FlashView}
use Rattle.paygo_spec.specs.Streams.{SinkView}
use Rattle.ledger_spec.specs.Keeper.{KeeperView}
use Rattle.line_loop.specs.declared.handler.LineFault.{LineFault}
use Rattle.line_loop.specs.declared.handler.LineFault.TheVariants as fault
use Rattle.log_check.specs.declared.progress.Progress.{Progress}
use Rattle.log_check.specs.Checking.{Checked, with_line}
use Rattle.log_check.specs.Holding.{Holds}
use Rattle.check_loop.specs.Logs.{line_of_log}

-- Want of memory as what came of a line.
abbrev pub of_memory : Result (Unit {0}) Memory → Result (Unit {0}) LineFault
of_memory (Ok done) = Ok done
of_memory (Err none) = Err fault.Memory

-- What the check holds behind a line: that line too, and where there was no memory what it held before. Nothing else can
-- fail.
abbrev pub HoldsBehind : (List ℕ → ℕ → ℕ) → List ℕ → Result (Unit {0}) LineFault → Checked → Progress → Type 0
HoldsBehind next line (Ok done) checked now = Holds now (with_line next checked (line_of_log line))
HoldsBehind next line (Err fault.Memory) checked now = Holds now checked
HoldsBehind next line (Err failed) checked now = ⊥

-- A line was handed to the check, and nothing was written or kept.
pub record HandedOn (next : List ℕ → ℕ → ℕ) (line : List ℕ) (outcome : Result (Unit {0}) LineFault) (was now : Progress)
    (keeper : KeeperView) (flash : FlashView) (sink : SinkView) (keeper' : KeeperView) (flash' : FlashView)
    (sink' : SinkView) : Type 0 where
  pub handed : (checked : Checked) → Holds was checked → HoldsBehind next line outcome checked now
  pub keeper_is : keeper' ≡ keeper
  pub flash_is : flash' ≡ flash
  pub sink_is : sink' ≡ sink
