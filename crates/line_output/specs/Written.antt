-- What was written of a text.
use Rattle.std.specs.Prelude.{◌≡◌, ◌<◌, ℕ, List, ◌++◌, length, take, Result, Ok, Err}
use Rattle.paygo_spec.specs.Streams.{SinkView}
use Rattle.paygo_ports.specs.declared.sink.WriteFault.{WriteFault}

-- These bytes were written, or where the sink failed the first of them, fewer than all.
abbrev pub Wrote : List ℕ → Result (Unit {0}) WriteFault → SinkView → SinkView → Type 0
Wrote bytes (Ok done) old new = new.written ≡ old.written ++ bytes
Wrote bytes (Err fault) old new = (n : ℕ) × (n < length bytes) × (new.written ≡ old.written ++ take n bytes)
