-- What told words stand for.
use Rattle.std.proofs.Common.{◌≡◌, ℕ, List, Option, Some, None, IfSome, refl, sym, subst}
use Rattle.paygo_spec.specs.declared.Config.{Config}
use Rattle.paygo_spec.specs.Clock.{unit_of}
use Rattle.paygo_spec.specs.Flash.{Becomes}
use Rattle.paygo_spec.specs.History.{Summary}
use Rattle.paygo_spec.specs.Lawful.{Lawful, IsSummary}
use Rattle.paygo_spec.specs.Layout.{Position}
use Rattle.paygo_spec.specs.Snapshot.{snapshot}
use Rattle.paygo_spec.specs.Recovery.{JournalView, Recovered, recover}
use Rattle.paygo_spec.specs.Recovery as recovered
use Rattle.paygo_spec.proofs.Snapshots.{snapshot_start}
use Rattle.paygo_spec.specs.Machine.{History, Stored, Journal, StandsAs, Stands, unit_for}
use Rattle.device_core.specs.Decided.{history_from}

-- words on which this was found stand for what it stands for, and for nothing else
pub stands_as : (words : Option (List ℕ)) (found : Recovered) (stored : Stored) → IfSome words (λ words. recover words ≡ found) → Stands words stored → StandsAs found stored
stands_as None found stored backs stands = absurd stands
stands_as (Some words) found stored backs stands = subst (λ (r : Recovered). StandsAs r stored) backs stands

pub as_stands : (words : Option (List ℕ)) (found : Recovered) (before stored : Stored) → IfSome words (λ words. recover words ≡ found) → Stands words before → StandsAs found stored → Stands words stored
as_stands None found before stored backs stands as_found = absurd stands
as_stands (Some words) found before stored backs stands as_found = subst (λ (r : Recovered). StandsAs r stored) (sym backs) as_found

-- words on which this is found now
pub becomes_stands : (old new : Option (List ℕ)) (found : Recovered) (before stored : Stored) → Becomes (λ old words. recover words ≡ found) old new → Stands old before → StandsAs found stored
    → Stands new stored
becomes_stands None new found before stored becomes stands as_found = absurd stands
becomes_stands (Some old) None found before stored becomes stands as_found = absurd becomes
becomes_stands (Some old) (Some new) found before stored becomes stands as_found = subst (λ (r : Recovered). StandsAs r stored) (sym becomes) as_found

pub becomes_backs : (old new : Option (List ℕ)) (found : Recovered) → Becomes (λ old words. recover words ≡ found) old new → IfSome new (λ words. recover words ≡ found)
becomes_backs None None found becomes = tt
becomes_backs None (Some new) found becomes = absurd becomes
becomes_backs (Some old) None found becomes = tt
becomes_backs (Some old) (Some new) found becomes = becomes

-- What a device that was made knows of this history, in this bank.
abbrev pub journal_of : History → ℕ → JournalView
journal_of history bank =
    record { bank = bank; at = history.at; config = history.config; summary = snapshot (unit_for history) history.start history.entries }

-- The history is one that a device can have.
abbrev pub IsLawful : History → Type 0
IsLawful history = Lawful (unit_for history) history.start history.entries

-- a journal that stands for a history is all that a device knows of it
pub journal_is : (journal : JournalView) (history : History) → StandsAs (recovered.Made journal) (Journal history) → journal ≡ journal_of history journal.bank
journal_is journal history (config, at, summary, lawful) =
    subst (λ (c : Config). journal ≡ record { bank = journal.bank; at = history.at; config = c; summary = snapshot (unit_for history) history.start history.entries }) config
    (subst (λ (p : Position). journal ≡ record { bank = journal.bank; at = p; config = journal.config; summary = snapshot (unit_for history) history.start history.entries }) at
    (subst (λ (s : Summary). journal ≡ record { bank = journal.bank; at = journal.at; config = journal.config; summary = s }) summary refl))

-- a device whose summary keeps the rules has the history that starts with it
pub has_history : (journal : JournalView) → IsSummary journal.summary → (stored : Stored) × StandsAs (recovered.Made journal) stored
has_history journal rule = (
  Journal (history_from journal),
  (refl, refl, sym (snapshot_start (unit_of journal.config.divider) journal.summary rule), rule),
)
