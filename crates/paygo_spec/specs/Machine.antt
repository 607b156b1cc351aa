-- The device as a machine: what may be replied to each event, and what stands then. Its free choices are that the flash
-- may fail in an event that uses it, which the flash's count of faults shows, and whether an event that was cut off so
-- counts, and at which position the next entry goes.
use Rattle.std.specs.Prelude.{◌≡◌, ◌≢◌, ℕ, ◌^◌, ◌<◌, ◌≤◌, ◌⊎◌, Bool, true, false, ◌==◌, ◌&&◌, min, List, [], ◌∷◌, Option, Some, None, if◌then◌else◌}
use Rattle.paygo_spec.specs.declared.Config.{Config}
use Rattle.paygo_spec.specs.declared.Entry.{Entry}
use Rattle.paygo_spec.specs.declared.Entry.TheVariants.{Accept, Bad, Elapsed, Raised}
use Rattle.paygo_spec.specs.declared.Event.{Event}
use Rattle.paygo_spec.specs.declared.Event.TheVariants.{Power, Make, Key, Tick, Show, Raise}
use Rattle.paygo_spec.specs.declared.Reply.{Reply}
use Rattle.paygo_spec.specs.declared.Reply.TheVariants as reply_is
use Rattle.paygo_spec.specs.declared.TokenKind.{TokenKind}
use Rattle.paygo_spec.specs.declared.TokenKind.TheVariants.{Add, Set, Free}
use Rattle.paygo_spec.specs.Faults.{Rose}
use Rattle.paygo_spec.specs.Flash.{FlashView}
use Rattle.paygo_spec.specs.History.{Summary, fresh, raised_limit, limit_of, top, kind_of}
use Rattle.paygo_spec.specs.Clock.{ClockView, clock_of, divides_day, unit_of}
use Rattle.paygo_spec.specs.Lawful.{Lawful}
use Rattle.paygo_spec.specs.Snapshot.{snapshot}
use Rattle.paygo_spec.specs.Pad.{Keys, IsKey, no_keys, after_key, after_seconds, held_of}
use Rattle.paygo_spec.specs.Typed.{Typed, WrongLength, WrongDigit, Blocked, OldToken, Makes, typed}
use Rattle.paygo_spec.specs.Layout.{Position, first_position, last_bank, room, further, turned, Leaves, calls_of_entry}
use Rattle.paygo_spec.specs.Recovery.{Recovered, Unmade, Damaged, Made, recover}

-- The history of a device that was made: its configuration, where the history starts, the entries since then, the newest
-- first, and the position of the next entry on the flash.
pub record History : Type 0 where
  pub config : Config
  pub start : Summary
  pub entries : List Entry
  pub at : Position

-- The history of a device that was just made with this configuration.
abbrev pub new_device : Config → History
new_device config = record { config = config; start = fresh; entries = []; at = first_position }

-- A history with these entries in place of its own, and the next one at this position.
abbrev pub gone_on : History → List Entry → Position → History
gone_on history entries at = record { config = history.config; start = history.start; entries = entries; at = at }

-- What a flash stands for.
pub data Stored : Type 0 where
  -- no device was made on it
  Blank : Stored
  -- it is damaged at this word
  Broken : (word : ℕ) → Stored
  -- a device was made, and has this history
  Journal : (history : History) → Stored

-- The seconds of one unit of time of a device.
abbrev pub unit_for : History → ℕ
unit_for history = unit_of history.config.divider

-- What recovery finds is what the flash stands for: of a device that was made, the summary of a history that it can have.
abbrev pub StandsAs : Recovered → Stored → Type 0
StandsAs Unmade Blank = Unit {0}
StandsAs (Damaged word) (Broken place) = word ≡ place
StandsAs (Made journal) (Journal history) =
    (journal.config ≡ history.config) × (journal.at ≡ history.at)
    × (journal.summary ≡ snapshot (unit_for history) history.start history.entries)
    × Lawful (unit_for history) history.start history.entries
StandsAs _ _ = ⊥

-- The words are told, and stand for this.
abbrev pub Stands : Option (List ℕ) → Stored → Type 0
Stands None stored = ⊥
Stands (Some words) stored = StandsAs (recover words) stored

-- A configuration is in range: a starting code below 10^9, and a divisor of a day's seconds from 1 on.
pub record IsConfig (config : Config) : Type 0 where
  pub start : config.start < 10 ^ 9
  pub divider : divides_day config.divider ≡ true

-- An event is one that may be asked for: a configuration in range, a key of the pad, at most 999,999,999 seconds.
abbrev pub IsEvent : Event → Type 0
IsEvent Power = Unit {0}
IsEvent (Make config) = IsConfig config
IsEvent (Key key) = IsKey key
IsEvent (Tick seconds) = seconds ≤ 999999999
IsEvent Show = Unit {0}
IsEvent Raise = Unit {0}

-- Whether the device is on, what its flash stands for, the keys that its pad holds, and the flash's count of faults.
pub record State : Type 0 where
  pub on : Bool
  pub stored : Stored
  pub keys : Keys
  pub faults : ℕ

-- Before its first event a device is off, and nothing was typed.
abbrev pub starting : Stored → ℕ → State
starting stored faults = record { on = false; stored = stored; keys = no_keys; faults = faults }

-- The flash stands for what the machine says, and its count of faults is the machine's.
pub record Stand (flash : FlashView) (state : State) : Type 0 where
  pub words : Stands flash.words state.stored
  pub faults : state.faults ≡ flash.faults

-- What a device shows after these entries.
abbrev pub clock_at : History → List Entry → ClockView
clock_at history entries = clock_of (unit_for history) history.start entries

-- Whether two clocks show the same time left and block.
abbrev pub shows_same : ClockView → ClockView → Bool
shows_same now before = (now.left == before.left) && (now.block == before.block)

-- The reply to an accepted token of this kind, by the clock after it.
abbrev pub reply_to_token : Option TokenKind → ℕ → ℕ → ClockView → Reply
reply_to_token (Some Add) count value clock = reply_is.Added count value clock.left clock.free
reply_to_token (Some Set) count value clock = reply_is.Set count value clock.left
reply_to_token (Some Free) count value clock = reply_is.Free count
reply_to_token _ count value clock = reply_is.Synced count

-- The reply to an entry that was added to the history, by the clock after it.
abbrev pub reply_to_entry : Entry → ClockView → Reply
reply_to_entry (Accept count value) clock = reply_to_token (kind_of count value) count value clock
reply_to_entry Bad clock = reply_is.Invalid clock.block
reply_to_entry (Elapsed seconds) clock = reply_is.Ticked clock.left clock.free clock.block
reply_to_entry Raised clock = reply_is.Raised

-- The reply when the power comes.
abbrev pub reply_to_power : Stored → Reply
reply_to_power Blank = reply_is.Unmade
reply_to_power (Broken word) = reply_is.Damaged word
reply_to_power (Journal history) =
    let clock = clock_at history history.entries in
    reply_is.Up (top history.start history.entries) clock.left clock.free clock.block

-- What a device that was made shows.
abbrev pub shown : History → Keys → Reply
shown history keys =
    let clock = clock_at history history.entries in
    let count = top history.start history.entries in
    reply_is.Shown count clock.left clock.free clock.fails clock.block (held_of keys) (room history.at)

-- What an event comes to on a device that was made.
pub data Effect : Type 0 where
  -- it is answered, or isn't, and the history goes on with these entries without a word of the flash
  Answers : (reply : Option Reply) (entries : List Entry) → Effect
  -- it adds this entry to the history, which takes a word of the flash
  Adds : (entry : Entry) → Effect
  -- it raises the greatest count, which takes the other bank of the flash
  Raises : Effect

-- What an entry at the keypad comes to.
abbrev pub effect_of_typed : History → Typed → Effect
effect_of_typed history (WrongLength n) = Answers (Some (reply_is.Length (min n 99))) history.entries
effect_of_typed history (WrongDigit place) = Answers (Some (reply_is.Digits place)) history.entries
effect_of_typed history (Blocked block) = Answers (Some (reply_is.Blocked block)) history.entries
effect_of_typed history OldToken = Answers (Some reply_is.Old) history.entries
effect_of_typed history (Makes entry) = Adds entry

-- What becomes of these digits on a device with this history.
abbrev pub typed_on : (List ℕ → ℕ → ℕ) → History → List ℕ → Typed
typed_on next history digits =
    let config = history.config in
    typed (next config.key) config.start (unit_for history) config.form history.start history.entries digits

-- What seconds come to: where the clock shows the same after them, they cost no word of the flash.
abbrev pub effect_of_seconds : History → ℕ → Effect
effect_of_seconds history seconds =
    let clock = clock_at history (Elapsed seconds ∷ history.entries) in
    if shows_same clock (clock_at history history.entries)
    then Answers (Some (reply_to_entry (Elapsed seconds) clock)) (Elapsed seconds ∷ history.entries)
    else Adds (Elapsed seconds)

-- What it comes to that a device is raised: once, and from then on nothing.
abbrev pub effect_of_raise : History → Effect
effect_of_raise history =
    if limit_of history.start history.entries == raised_limit
    then Answers (Some reply_is.Raised) history.entries
    else Raises

-- What an event but Power comes to on a device that was made. The key `#` hands the entry in.
abbrev pub effect_of : (List ℕ → ℕ → ℕ) → History → Keys → Event → Effect
effect_of next history keys (Make config) = Answers (Some (reply_is.Made history.at.number)) history.entries
effect_of next history keys (Key key) =
    if key == 35 then effect_of_typed history (typed_on next history keys.pressed) else Answers None history.entries
effect_of next history keys (Tick seconds) = effect_of_seconds history seconds
effect_of next history keys Show = Answers (Some (shown history keys)) history.entries
effect_of next history keys Raise = effect_of_raise history
effect_of next history keys _ = Answers None history.entries

-- An entry is added: there is no room for it, and nothing changes; or the flash failed, and the entry counts or not; or
-- it is answered, and the flash stands for the history with it.
abbrev pub MayAdd : History → Entry → Option Reply → Stored → Type 0
MayAdd history entry (Some reply_is.Worn) new = (room history.at ≡ 0) × (new ≡ Journal history)
MayAdd history entry (Some reply_is.Down) new =
    (0 < room history.at)
    × ((counted : Bool) × (at : Position) × Leaves history.at counted at
    × (new ≡ Journal (gone_on history (if counted then entry ∷ history.entries else history.entries) at)))
MayAdd history entry reply new =
    (0 < room history.at)
    × (reply ≡ Some (reply_to_entry entry (clock_at history (entry ∷ history.entries))))
    × (new ≡ Journal (gone_on history (entry ∷ history.entries) (further history.at)))

-- A device is raised: there is no bank for it, and nothing changes; or the flash failed, and the history is as before or
-- raised; or it is answered, and the history is raised, in the next bank.
abbrev pub MayRaise : History → Option Reply → Stored → Type 0
MayRaise history (Some reply_is.Worn) new = (history.at.number ≡ last_bank) × (new ≡ Journal history)
MayRaise history (Some reply_is.Down) new =
    (history.at.number ≢ last_bank)
    × ((new ≡ Journal history) ⊎ (new ≡ Journal (gone_on history (Raised ∷ history.entries) (turned history.at))))
MayRaise history reply new =
    (history.at.number ≢ last_bank) × (reply ≡ Some reply_is.Raised)
    × (new ≡ Journal (gone_on history (Raised ∷ history.entries) (turned history.at)))

-- The reply to an event with this effect, and what the flash stands for then.
abbrev pub Meets : History → Effect → Option Reply → Stored → Type 0
Meets history (Answers answer entries) reply new =
    (reply ≡ answer) × (new ≡ Journal (gone_on history entries history.at))
Meets history (Adds entry) reply new = MayAdd history entry reply new
Meets history Raises reply new = MayRaise history reply new

-- A device is made: it is up, or the flash failed, and stands for the new device or for what it stood for.
abbrev pub MayMake : Config → Option Reply → Stored → Type 0
MayMake config (Some reply_is.Down) new = (new ≡ Blank) ⊎ (new ≡ Journal (new_device config))
MayMake config reply new = (reply ≡ Some (reply_is.Up 0 0 false 0)) × (new ≡ Journal (new_device config))

-- The reply of a device that isn't made, or is damaged: of the keys it answers `#` alone.
abbrev pub only : Event → Reply → Option Reply
only (Key key) reply = if key == 35 then Some reply else None
only event reply = Some reply

-- What a device that is on replies to an event but Power, by what its flash stands for, and what that stands for then.
abbrev pub Replies : (List ℕ → ℕ → ℕ) → Stored → Keys → Event → Option Reply → Stored → Type 0
Replies next Blank keys (Make config) reply new = MayMake config reply new
Replies next Blank keys event reply new = (reply ≡ only event reply_is.Unmade) × (new ≡ Blank)
Replies next (Broken word) keys event reply new = (reply ≡ only event (reply_is.Damaged word)) × (new ≡ Broken word)
Replies next (Journal history) keys event reply new = Meets history (effect_of next history keys event) reply new

-- The pad of a device that isn't made, or is damaged, takes no key but `#`, which clears it.
abbrev pub keys_after_key : Stored → ℕ → Keys → Keys
keys_after_key (Journal history) key keys = after_key key keys
keys_after_key stored key keys = if key == 35 then no_keys else keys

-- The keys that the pad holds after an event: a tick is told to it.
abbrev pub keys_after : Stored → Event → Keys → Keys
keys_after stored Power keys = no_keys
keys_after stored (Key key) keys = keys_after_key stored key keys
keys_after stored (Tick seconds) keys = after_seconds seconds keys
keys_after stored _ keys = keys

-- It goes on, on or off and with these keys, and no fault is counted.
pub record Goes (on : Bool) (keys : Keys) (old new : State) : Type 0 where
  pub on_is : new.on ≡ on
  pub keys_are : new.keys ≡ keys
  pub faults_are : new.faults ≡ old.faults

-- The flash failed in this event, once: its count rose, and the device is off, with a cleared pad.
pub record Falls (old new : State) : Type 0 where
  pub off : new.on ≡ false
  pub cleared : new.keys ≡ no_keys
  pub rose : Rose old.faults new.faults

-- An event that is answered Down was one fault of the flash, and any other was none.
abbrev pub FaultsBy : Option Reply → ℕ → ℕ → Type 0
FaultsBy (Some reply_is.Down) before now = Rose before now
FaultsBy reply before now = now ≡ before

-- How a device that is on goes on by its reply.
abbrev pub GoesBy : Option Reply → Keys → State → State → Type 0
GoesBy (Some reply_is.Down) keys old new = Falls old new
GoesBy reply keys old new = Goes true keys old new

-- A device that is on, or off, may reply this to an event but Power.
abbrev pub ActsIf : Bool → (List ℕ → ℕ → ℕ) → Event → Option Reply → State → State → Type 0
ActsIf true next event reply old new =
    Replies next old.stored old.keys event reply new.stored
    × GoesBy reply (keys_after old.stored event old.keys) old new
ActsIf false next event reply old new = (reply ≡ None) × (new.stored ≡ old.stored) × Goes false old.keys old new

-- A device, on or off, may reply this when its power comes.
abbrev pub Powers : Option Reply → State → State → Type 0
Powers (Some reply_is.Down) old new = Falls old new
Powers reply old new = (reply ≡ Some (reply_to_power old.stored)) × Goes true no_keys old new

-- The device may answer this reply, or none, to the event, and go on to new.
abbrev pub Acts : (List ℕ → ℕ → ℕ) → Event → Option Reply → State → State → Type 0
Acts next Power reply old new = (new.stored ≡ old.stored) × Powers reply old new
Acts next event reply old new = ActsIf old.on next event reply old new

-- How many calls of the flash an event with this effect takes.
abbrev pub calls_of_effect : Position → Effect → ℕ
calls_of_effect at (Answers reply entries) = 0
calls_of_effect at (Adds entry) = calls_of_entry at
calls_of_effect at Raises = if at.number == last_bank then 0 else 13

-- How many calls it takes until the power is up and the flash is read. On a damaged flash that isn't said.
abbrev pub calls_of_power : Stored → Option ℕ
calls_of_power Blank = Some 3
calls_of_power (Broken word) = None
calls_of_power (Journal history) = Some 514

-- How many calls an event but Power takes on a device that is on.
abbrev pub calls_on : (List ℕ → ℕ → ℕ) → Stored → Keys → Event → ℕ
calls_on next Blank keys (Make config) = 15
calls_on next (Journal history) keys event = calls_of_effect history.at (effect_of next history keys event)
calls_on next _ keys event = 0

-- How many calls of the flash an event makes in this state where none of them fails, if that is said.
abbrev pub calls_of : (List ℕ → ℕ → ℕ) → State → Event → Option ℕ
calls_of next state Power = calls_of_power state.stored
calls_of next state event = if state.on then Some (calls_on next state.stored state.keys event) else Some 0
