-- What is planned for the objects in memory: at which call they are to fail, and what that call leaves.
use Rattle.std.specs.Prelude.{ℕ, ◌-◌}
use Rattle.std.specs.declared.option.Option.{Option}
use Rattle.memory_ports.specs.declared.mem_source.MemSource.{MemSource}
use Rattle.memory_ports.specs.declared.mem_sink.MemSink.{MemSink}
use Rattle.memory_ports.specs.declared.mem_flash.MemFlash.{MemFlash}
use Rattle.paygo_spec.specs.declared.Cut.{Cut}

-- The plan of a source: how many reads were tried so far (a number that stands still at 2^64 - 1), the number of the
-- read that is to fail, counted from 1, and the most bytes that one read gives.
pub record ReadPlan : Type 0 where
  pub calls : ℕ
  pub fails : Option ℕ
  pub most : ℕ

-- The plan of a sink: how many writes were tried so far (a number that stands still at 2^64 - 1), the number of the
-- write that is to fail, counted from 1, and how many bytes the sink has room for still.
pub record WritePlan : Type 0 where
  pub calls : ℕ
  pub fails : Option ℕ
  pub room : ℕ

-- What is planned for this source.
abbrev pub read_plan : MemSource → ReadPlan
read_plan source = record { calls = source.calls; fails = source.fail_at; most = source.most }

-- What is planned for this sink.
abbrev pub write_plan : MemSink → WritePlan
write_plan sink = record { calls = sink.calls; fails = sink.fail_at; room = sink.room - sink.filled }

-- The power cut that is planned for this flash.
abbrev pub planned_cut : MemFlash → Option Cut
planned_cut flash = flash.cut
