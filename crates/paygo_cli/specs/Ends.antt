-- How a run ends that takes no lines: an audit, or a fleet.
use Rattle.std.specs.Prelude.{◌≡◌, ◌≢◌, ℕ, ◌<◌, List, ◌++◌, length, take, Result, Ok, Err}
use Rattle.paygo_spec.specs.Streams.{SinkView}
use Rattle.run_spec.specs.declared.Status.{Status}
use Rattle.run_spec.specs.declared.Status.TheVariants as status
use Rattle.paygo_ports.specs.declared.sink.WriteFault.{WriteFault}
use Rattle.fleet_spec.specs.declared.Totals.{Totals}
use Rattle.fleet_spec.specs.Script.{enrols_of, steps_of}
use Rattle.fleet_spec.specs.Fleet.{Came, HasNoPlan}
use Rattle.fleet_spec.specs.Text.{text_of_fleet}

-- The status of a run whose text was written, or not all of it.
abbrev pub written_by : Result (Unit {0}) WriteFault → Status
written_by (Ok done) = status.Ok
written_by (Err fault) = status.Write

-- What was written of a text behind what was there before: all of it at Ok, at Write fewer bytes than it has, the first ones,
-- and nothing where the keeper failed or where there was no memory. It ends with no other status.
abbrev pub WritesText : Status → List ℕ → SinkView → SinkView → Type 0
WritesText status.Ok text old new = new.written ≡ old.written ++ text
WritesText status.Write text old new = (n : ℕ) × (n < length text) × (new.written ≡ old.written ++ take n text)
WritesText status.Keep text old new = new.written ≡ old.written
WritesText status.Memory text old new = new.written ≡ old.written
WritesText _ text old new = ⊥

-- The fleet that the seed draws has these totals. Where its script plans no power cut, it can have no others.
pub record IsFleet (next : List ℕ → ℕ → ℕ) (seed devices days : ℕ) (totals : Totals) : Type 0 where
  pub came : Came next (enrols_of seed devices) (steps_of seed devices days) totals
  pub settled : HasNoPlan (steps_of seed devices days) → (other : Totals)
      → Came next (enrols_of seed devices) (steps_of seed devices days) other → other ≡ totals

-- The line of such totals was written, at Write but for its end; and where there was no memory, nothing was.
abbrev pub WritesFleet : (List ℕ → ℕ → ℕ) → ℕ → ℕ → ℕ → Status → SinkView → SinkView → Type 0
WritesFleet next seed devices days status.Memory old new = new.written ≡ old.written
WritesFleet next seed devices days result old new =
    (totals : Totals) × IsFleet next seed devices days totals × (result ≢ status.Keep)
    × WritesText result (text_of_fleet devices days totals) old new
