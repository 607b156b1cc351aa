-- What recovery finds is what some history leaves.
use Rattle.std.proofs.Common.{◌≡◌, ℕ, List, [], refl, sym}
use Rattle.paygo_spec.specs.Flash.{AreWords}
use Rattle.paygo_spec.specs.Clock.{unit_of}
use Rattle.paygo_spec.specs.Lawful.{IsSummary}
use Rattle.paygo_spec.specs.Recovery.{JournalView, Recovered, Unmade, Damaged, Made, recover}
use Rattle.paygo_spec.specs.Machine.{Stored, Blank, Broken, Journal, StandsAs}
use Rattle.paygo_spec.proofs.Snapshots.{snapshot_start}
use Rattle.journal_laws.proofs.Recovered.{made_holds}

-- a device has the history that starts with its summary
pub history_of : (journal : JournalView) → IsSummary journal.summary → StandsAs (Made journal) (Journal (record { config = journal.config; start = journal.summary; entries = []; at = journal.at }))
history_of journal rule = (refl, refl, sym (snapshot_start (unit_of journal.config.divider) journal.summary rule), rule)

stands_by : (words : List ℕ) → AreWords words → (found : Recovered) → recover words ≡ found → (stored : Stored) × StandsAs found stored
stands_by words are Unmade is = (Blank, tt)
stands_by words are (Damaged word) is = (Broken word, refl)
stands_by words are (Made journal) is = (
  Journal (record { config = journal.config; start = journal.summary; entries = []; at = journal.at }),
  history_of journal (made_holds words journal are is).ranges.summary,
)

pub stands : (words : List ℕ) → AreWords words → (stored : Stored) × StandsAs (recover words) stored
stands words are = stands_by words are (recover words) refl
