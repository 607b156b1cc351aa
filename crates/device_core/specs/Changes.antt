-- What each call of a device does to what it has in memory and to its flash, by its reply.
use Rattle.std.specs.Prelude.{◌≡◌, ◌≢◌, ℕ, ◌⊎◌, false, List, Option, Some, None, IfSome}
use Rattle.paygo_spec.specs.declared.Config.{Config}
use Rattle.paygo_spec.specs.declared.Entry.{Entry}
use Rattle.paygo_spec.specs.declared.Event.{Event}
use Rattle.paygo_spec.specs.declared.Event.TheVariants.{Power}
use Rattle.paygo_spec.specs.declared.Reply.{Reply}
use Rattle.paygo_spec.specs.declared.Reply.TheVariants as reply_is
use Rattle.paygo_spec.specs.Flash.{FlashView, KeepsPlan, Becomes, Passed, Failed}
use Rattle.paygo_spec.specs.Clock.{clock_at_start}
use Rattle.paygo_spec.specs.Layout.{room, last_bank, calls_of_entry}
use Rattle.paygo_spec.specs.Pad.{Keys, PadView, no_keys, kept_of}
use Rattle.paygo_spec.specs.Recovery.{JournalView, recover}
use Rattle.paygo_spec.specs.Recovery as recovered
use Rattle.paygo_spec.specs.Machine.{History, Journal, FaultsBy, reply_to_entry, keys_after}
use Rattle.journal_laws.specs.Journal.{new_journal, raised_journal, with_entry, IsCut, IsCutMake}
use Rattle.device_core.specs.declared.device.Device.{Device}
use Rattle.device_core.specs.declared.device.Phase.{Phase}
use Rattle.device_core.specs.declared.device.Phase.TheVariants.{Off, Unmade, Damaged, Up}
use Rattle.device_core.specs.declared.decision.Decision.{Decision}
use Rattle.device_core.specs.declared.decision.Decision.TheVariants.{Answers, Adds, Raises}
use Rattle.device_core.specs.Decided.{MayDo, decided}
use Rattle.device_core.specs.Memory.{Holds, IsDown, Does, CostsAsSaid, Remembers}

-- Nothing changed.
pub record Stays (old new : JournalView) (was now : FlashView) : Type 0 where
  pub same : new ≡ old
  pub kept : now ≡ was

-- An entry was added, and this is the reply.
pub record Added (entry : Entry) (old : JournalView) (was : FlashView) (reply : Reply) (new : JournalView)
    (now : FlashView) : Type 0 where
  pub some_room : room old.at ≢ 0
  pub reply_is : reply ≡ reply_to_entry entry (clock_at_start new.summary)
  pub journal : new ≡ with_entry entry old
  pub words : Becomes (λ old words. recover words ≡ recovered.Made new) was.words now.words
  pub calls : Passed (calls_of_entry old.at) was now

-- The flash failed while an entry was added.
pub record CutOff (entry : Entry) (old : JournalView) (was now : FlashView) : Type 0 where
  pub some_room : room old.at ≢ 0
  pub words : Becomes (λ before words. IsCut entry old words) was.words now.words
  pub calls : Failed (calls_of_entry old.at) was now

-- An entry is to be added: there is no room for it, or the flash fails, or it is added.
abbrev pub AddsAs : Entry → JournalView → FlashView → Reply → JournalView → FlashView → Type 0
AddsAs entry old was reply_is.Worn new now = (room old.at ≡ 0) × Stays old new was now
AddsAs entry old was reply_is.Down new now = CutOff entry old was now
AddsAs entry old was reply new now = Added entry old was reply new now

-- The device was raised, and this is the reply.
pub record RaisedNow (old : JournalView) (was : FlashView) (reply : Reply) (new : JournalView)
    (now : FlashView) : Type 0 where
  pub some_bank : old.at.number ≢ last_bank
  pub reply_is : reply ≡ reply_is.Raised
  pub journal : new ≡ raised_journal old
  pub words : Becomes (λ old words. recover words ≡ recovered.Made new) was.words now.words
  pub calls : Passed 13 was now

-- The flash failed while the device was raised.
pub record CutRaise (old : JournalView) (was now : FlashView) : Type 0 where
  pub some_bank : old.at.number ≢ last_bank
  pub words : Becomes
      (λ before words. (recover words ≡ recovered.Made old) ⊎ (recover words ≡ recovered.Made (raised_journal old)))
      was.words now.words
  pub calls : Failed 13 was now

-- The device is to be raised: there is no bank for it, or the flash fails, or it is raised.
abbrev pub RaisesAs : JournalView → FlashView → Reply → JournalView → FlashView → Type 0
RaisesAs old was reply_is.Worn new now = (old.at.number ≡ last_bank) × Stays old new was now
RaisesAs old was reply_is.Down new now = CutRaise old was now
RaisesAs old was reply new now = RaisedNow old was reply new now

-- A decision is carried out: an answer changes nothing.
abbrev pub Carried : Decision → JournalView → FlashView → Reply → JournalView → FlashView → Type 0
Carried (Answers answer) old was reply new now = (reply ≡ answer) × Stays old new was now
Carried (Adds entry) old was reply new now = AddsAs entry old was reply new now
Carried Raises old was reply new now = RaisesAs old was reply new now

-- The same, where nothing may be decided: then there is no reply.
abbrev pub CarriedOut : Option Decision → JournalView → FlashView → Option Reply → JournalView → FlashView → Type 0
CarriedOut None old was reply new now = (reply ≡ None) × Stays old new was now
CarriedOut (Some decision) old was None new now = ⊥
CarriedOut (Some decision) old was (Some reply) new now = Carried decision old was reply new now

-- What a device that was made does at an event: the pad is told of it, and what is decided is carried out.
pub record Asked (next : List ℕ → ℕ → ℕ) (event : Event) (old : JournalView) (before : PadView) (was : FlashView)
    (reply : Option Reply) (new : JournalView) (after : PadView) (now : FlashView) : Type 0 where
  pub decision : Option Decision
  pub decision_is : (keys : Keys) → before ≡ kept_of keys → decision ≡ decided next old keys event
  pub pad_is : (keys : Keys) (history : History) → before ≡ kept_of keys → event ≢ Power
      → after ≡ kept_of (keys_after (Journal history) event keys)
  pub may : IfSome decision (MayDo old)
  pub did : CarriedOut decision old was reply new now

-- What a device is doing after its power came, and what was found on its flash. How many calls it took isn't said of a
-- damaged one.
abbrev pub Starts : Phase → FlashView → FlashView → Type 0
Starts Off was now =
    (now.words ≡ was.words) × Failed 514 was now
    × IfSome was.words (λ words. recover words ≡ recovered.Unmade → Failed 3 was now)
Starts Unmade was now =
    (now.words ≡ was.words) × IfSome was.words (λ words. recover words ≡ recovered.Unmade) × Passed 3 was now
Starts (Damaged place) was now =
    (now.words ≡ was.words) × IfSome was.words (λ words. recover words ≡ recovered.Damaged place)
    × ((calls : ℕ) × Passed calls was now)
Starts (Up journal) was now =
    (now.words ≡ was.words) × IfSome was.words (λ words. recover words ≡ recovered.Made journal) × Passed 514 was now

-- What a device answers when its power came, by what it is doing then.
abbrev pub greeting_of : Phase → Reply
greeting_of Off = reply_is.Down
greeting_of Unmade = reply_is.Unmade
greeting_of (Damaged place) = reply_is.Damaged place
greeting_of (Up journal) =
    reply_is.Up journal.summary.last journal.summary.left journal.summary.free journal.summary.block

-- The flash doesn't tell its words, and is up: all that is known where the device finds another flash than it left.
pub record Strange (was now : FlashView) : Type 0 where
  pub untold : IfSome was.words (λ words. ⊥)
  pub words : now.words ≡ was.words
  pub calls : Passed 2 was now

-- A device that isn't made is asked to be: it is up, or the flash failed.
abbrev pub Begins : Config → Phase → Reply → FlashView → FlashView → Type 0
Begins config (Up journal) reply was now =
    (journal ≡ new_journal config) × (reply ≡ reply_is.Up 0 0 false 0)
    × Becomes (λ old words. recover words ≡ recovered.Made journal) was.words now.words × Passed 15 was now
Begins config Off reply_is.Down was now = Becomes (IsCutMake config) was.words now.words × Failed 15 was now
Begins config Off (reply_is.Made number) was now = Strange was now
Begins config (Damaged place) (reply_is.Damaged word) was now = (word ≡ place) × Strange was now
Begins config _ _ was now = ⊥

-- A device that is off, with a cleared pad.
abbrev pub off_device : Device
off_device = record { phase = Off; pad = kept_of no_keys }

-- What the device is after its reply: where the flash failed it is off, with a cleared pad.
abbrev pub settled : Option Reply → Device → Device
settled (Some reply_is.Down) device = off_device
settled reply device = device

-- All that is said of a device at an event.
pub record Handled (next : List ℕ → ℕ → ℕ) (event : Event) (old : Device) (was : FlashView) (reply : Option Reply)
    (new : Device) (now : FlashView) : Type 0 where
  pub holds : Holds new now
  pub faults : FaultsBy reply was.faults now.faults
  pub plan : KeepsPlan was now
  pub down : reply ≡ Some reply_is.Down → IsDown new
  pub step : Does next event old was reply new now
  pub calls : CostsAsSaid next event old was reply now
  pub kept : event ≡ Power → now.words ≡ was.words
  pub memory : Remembers next event old was reply new now
