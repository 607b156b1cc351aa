-- What an event comes to on a device that was made, by what it knows of its history: its journal and its pad.
use Rattle.std.specs.Prelude.{◌≡◌, ◌≢◌, ℕ, true, List, [], Option, Some, None}
use Rattle.paygo_spec.specs.declared.Event.{Event}
use Rattle.paygo_spec.specs.declared.Reply.TheVariants as reply_is
use Rattle.paygo_spec.specs.History.{first_limit}
use Rattle.paygo_spec.specs.Lawful.{follows}
use Rattle.paygo_spec.specs.Pad.{Keys}
use Rattle.paygo_spec.specs.Recovery.{JournalView}
use Rattle.paygo_spec.specs.Snapshot.{snapshot}
use Rattle.paygo_spec.specs.Machine.{History, Effect, unit_for, effect_of}
use Rattle.paygo_spec.specs.Machine as machine
use Rattle.device_core.specs.declared.decision.Decision.{Decision}
use Rattle.device_core.specs.declared.decision.Decision.TheVariants.{Answers, Adds, Raises}

-- The history that starts with the summary of a journal, and has no entry yet.
abbrev pub history_from : JournalView → History
history_from journal = record { config = journal.config; start = journal.summary; entries = []; at = journal.at }

-- The history that starts with the snapshot of this one: the entries are forgotten.
abbrev pub forgotten : History → History
forgotten history =
    record {
      config = history.config;
      start = snapshot (unit_for history) history.start history.entries;
      entries = [];
      at = history.at;
    }

-- The decision that carries an effect out: none where nothing is answered.
abbrev pub decision_of : Effect → Option Decision
decision_of (machine.Answers None entries) = None
decision_of (machine.Answers (Some reply) entries) = Some (Answers reply)
decision_of (machine.Adds entry) = Some (Adds entry)
decision_of machine.Raises = Some Raises

-- What is decided of an event: its effect on the history that starts with the summary.
abbrev pub decided : (List ℕ → ℕ → ℕ) → JournalView → Keys → Event → Option Decision
decided next journal keys event = decision_of (effect_of next (history_from journal) keys event)

-- A decision may be carried out: an entry that it adds may follow the summary, it raises only once, and no answer says
-- that the flash failed.
abbrev pub MayDo : JournalView → Decision → Type 0
MayDo journal (Answers reply) = reply ≢ reply_is.Down
MayDo journal (Adds entry) = follows journal.summary entry ≡ true
MayDo journal Raises = journal.summary.limit ≡ first_limit
