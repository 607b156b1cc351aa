-- How a journal on two banks goes on: with an entry, from a new device, and where the power is cut.
use Rattle.std.specs.Prelude.{◌≡◌, ℕ, ◌-◌, ◌⊎◌, Bool, ◌==◌, List, [], ◌∷◌, if◌then◌else◌}
use Rattle.paygo_spec.specs.declared.Config.{Config}
use Rattle.paygo_spec.specs.declared.Entry.{Entry}
use Rattle.paygo_spec.specs.declared.Entry.TheVariants.{Raised}
use Rattle.paygo_spec.specs.History.{Summary, fresh}
use Rattle.paygo_spec.specs.Clock.{unit_of}
use Rattle.paygo_spec.specs.Snapshot.{snapshot}
use Rattle.paygo_spec.specs.Layout.{first_position, further, turned, Leaves}
use Rattle.paygo_spec.specs.Recovery.{JournalView, Unmade, Made, recover}

-- The journal of a device that was just made.
abbrev pub new_journal : Config → JournalView
new_journal config = record { bank = 0; at = first_position; config = config; summary = fresh }

-- The summary with one entry more.
abbrev pub summary_with : JournalView → Entry → Summary
summary_with journal entry = snapshot (unit_of journal.config.divider) journal.summary (entry ∷ [])

-- The journal with one entry more. From a full bank it goes on in the other one.
abbrev pub with_entry : Entry → JournalView → JournalView
with_entry entry journal =
    record {
      bank = if journal.at.place == 512 then 1 - journal.bank else journal.bank;
      at = further journal.at;
      config = journal.config;
      summary = summary_with journal entry;
    }

-- The journal in the other bank, which begins with this summary, and has the next number and no entry yet.
abbrev pub begun_with : Summary → JournalView → JournalView
begun_with summary journal =
    record {
      bank = 1 - journal.bank;
      at = turned journal.at;
      config = journal.config;
      summary = summary;
    }

-- The summary goes on.
abbrev pub turned_journal : JournalView → JournalView
turned_journal journal = begun_with journal.summary journal

-- The device is raised: the next bank begins with the greater limit.
abbrev pub raised_journal : JournalView → JournalView
raised_journal journal = begun_with (summary_with journal Raised) journal

-- What the words hold after the power was cut while an entry was added: the journal as before or with the entry, and the
-- position that goes with it.
pub record IsCut (entry : Entry) (old : JournalView) (words : List ℕ) : Type 0 where
  pub counted : Bool
  pub now : JournalView
  pub recovered : recover words ≡ Made now
  pub position : Leaves old.at counted now.at
  pub config : now.config ≡ old.config
  pub summary : now.summary ≡ (if counted then summary_with old entry else old.summary)

-- What the words hold after the power was cut while a device was made: what they held, or, where that was no device, the
-- new one.
abbrev pub IsCutMake : Config → List ℕ → List ℕ → Type 0
IsCutMake config old new =
    (recover new ≡ recover old) ⊎ ((recover old ≡ Unmade) × (recover new ≡ Made (new_journal config)))
