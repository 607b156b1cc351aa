-- What a bench makes of a line, as a run over lines sees it.
use Rattle.std.specs.Prelude.{◌≡◌, ◌≢◌, ℕ, ◌≤◌, true, List, length, Result}
use Rattle.run_spec.specs.declared.Mode.{Mode}
use Rattle.run_spec.specs.declared.Mode.TheVariants as mode_is
use Rattle.run_spec.specs.Meaning.{is_ledger_text, trimmed, steps_of_line}
use Rattle.device_core.specs.declared.device.Device.{Device}
use Rattle.line_loop.specs.declared.handler.LineFault.{LineFault}
use Rattle.line_loop.specs.Handling.{Desk}
use Rattle.bench_run.specs.Bench.{Desk as BenchDesk, desk as bench_desk, Works, IsLedgerFault}

-- A bench, and the side or sides whose lines it takes.
pub record Side : Type 0 where
  pub mode : Mode
  pub device : Device

-- What the bench works with.
abbrev pub bench_of : Desk Side → BenchDesk
bench_of desk = bench_desk desk.handler.device desk.keeper desk.flash desk.sink

-- A line of the ledger that is read.
pub record IsOfLedger (mode : Mode) (line : List ℕ) : Type 0 where
  pub takes : mode ≢ mode_is.Device
  pub short : length line ≤ 4096
  pub is_ledger : is_ledger_text (trimmed line) ≡ true

-- The steps of the line were taken as a bench takes them, and only a line of the ledger has a fault of the keeper or none of
-- memory.
pub record DidLine (next : List ℕ → ℕ → ℕ) (line : List ℕ) (outcome : Result (Unit {0}) LineFault) (old new : Desk Side)
    : Type 0 where
  pub mode : new.handler.mode ≡ old.handler.mode
  pub works : Works next old.handler.mode (steps_of_line old.handler.mode line) outcome (bench_of old) (bench_of new)
  pub ledger : IsLedgerFault outcome → IsOfLedger old.handler.mode line
