-- What the check keeps of a device, as what the specification says that a flash stands for.
use Rattle.std.specs.Prelude.{◌≤◌, List, [], ◌∷◌, Option, Some, None}
use Rattle.paygo_spec.specs.Machine as machine
use Rattle.paygo_spec.specs.Machine.{History, Stored, IsConfig}
use Rattle.bank_journal.specs.Summary.{summary_of}
use Rattle.log_check.specs.declared.standing.Made.{Made as MadeOf}
use Rattle.log_check.specs.declared.standing.Standing.{Standing}
use Rattle.log_check.specs.declared.standing.Standing.TheVariants.{Blank, Made}
use Rattle.log_check.specs.declared.outcomes.Foreseen.{Foreseen}
use Rattle.paygo_spec.specs.Recovery.{JournalView}
use Rattle.device_core.specs.declared.decision.Decision.{Decision}
use Rattle.device_core.specs.declared.decision.Decision.TheVariants.{Answers, Adds, Raises}
use Rattle.log_check.specs.After.{Outcome, with_reply, adding, raising}

-- The history that starts with the summary and has no entry.
abbrev pub history_of : MadeOf → History
history_of made =
    record {
      config = made.config;
      start = summary_of made.summary;
      entries = [];
      at = record { number = made.number; place = made.place };
    }

-- Its journal, in bank 0 of a flash that isn't looked at.
abbrev pub journal_of : MadeOf → JournalView
journal_of made =
    record {
      bank = 0;
      at = record { number = made.number; place = made.place };
      config = made.config;
      summary = summary_of made.summary;
    }

abbrev pub stored_of : Standing → Stored
stored_of Blank = machine.Blank
stored_of (Made made) = machine.Journal (history_of made)

-- A device that was made is in range.
pub record IsMade (made : MadeOf) : Type 0 where
  pub first : 1 ≤ made.number
  pub last : made.number ≤ 100000
  pub behind_head : 12 ≤ made.place
  pub within : made.place ≤ 512
  pub config : IsConfig made.config

abbrev pub IsStanding : Standing → Type 0
IsStanding Blank = Unit {0}
IsStanding (Made made) = IsMade made

abbrev pub outcome_of : Foreseen → Outcome
outcome_of foreseen = with_reply foreseen.reply (stored_of foreseen.standing)

-- What a decision comes to.
abbrev pub by_decision : History → Option Decision → List Outcome
by_decision history None = with_reply None (machine.Journal history) ∷ []
by_decision history (Some (Answers reply)) = with_reply (Some reply) (machine.Journal history) ∷ []
by_decision history (Some (Adds entry)) = adding history entry
by_decision history (Some Raises) = raising history
