-- A worn device: its flash has no room for an entry more. What it answers, and that its time stands still.
use Rattle.std.specs.Prelude.{◌≡◌, ℕ, ◌≤◌, true, List, [], ◌∷◌, Option, Some}
use Rattle.paygo_spec.specs.declared.Entry.{Entry}
use Rattle.paygo_spec.specs.declared.Event.{Event}
use Rattle.paygo_spec.specs.declared.Reply.{Reply}
use Rattle.paygo_spec.specs.declared.Reply.TheVariants as reply_is
use Rattle.paygo_spec.specs.Layout.{Position, last_bank, room}
use Rattle.paygo_spec.specs.Machine.{State, Stored, Journal, History, Effect, Answers, Adds, Raises, Acts, Goes, calls_of_effect, gone_on, unit_for, effect_of, keys_after}
use Rattle.paygo_spec.specs.Snapshot.{snapshot}

-- The flash has no room for an entry more. So the bank in use is the last one, and full.
pub record IsWorn (at : Position) : Type 0 where
  pub within : at.number ≤ last_bank
  pub full : room at ≡ 0

-- The flash stands for this history still, at the same place, but for entries that change nothing: the greatest count, which
-- counts are spent, the time left, failures and block are as they were.
pub record StandsStill (history : History) (stored : Stored) : Type 0 where
  pub entries : List Entry
  pub stored_is : stored ≡ Journal (gone_on history entries history.at)
  pub same : snapshot (unit_for history) history.start entries
      ≡ snapshot (unit_for history) history.start history.entries

-- What a worn device answers, by what the event comes to on it: what would need the flash is answered `worn`.
abbrev pub worn_answer : Effect → Option Reply
worn_answer (Answers reply entries) = reply
worn_answer (Adds entry) = Some reply_is.Worn
worn_answer Raises = Some reply_is.Worn

-- A worn device that is on has this one answer to an event but Power, asks nothing of the flash, stays on, and counts no
-- fault.
pub record IsWornStep (next : List ℕ → ℕ → ℕ) (history : History) (event : Event) (reply : Option Reply)
    (old new : State) : Type 0 where
  pub answer : reply ≡ worn_answer (effect_of next history old.keys event)
  pub calls : calls_of_effect history.at (effect_of next history old.keys event) ≡ 0
  pub goes : Goes true (keys_after old.stored event old.keys) old new

-- Events happen to a device, one after another, whatever is answered to them.
abbrev pub Lives : (List ℕ → ℕ → ℕ) → List Event → State → State → Type 0
Lives next [] old new = new ≡ old
Lives next (event ∷ events) old new =
    (reply : Option Reply) × (mid : State) × Acts next event reply old mid × Lives next events mid new
