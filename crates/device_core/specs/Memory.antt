-- What a device has in memory, beside what its flash stands for.
use Rattle.std.specs.Prelude.{◌≡◌, ℕ, Bool, true, false, List, Option, Some, None, IfSome, is_some}
use Rattle.paygo_spec.specs.declared.Config.{Config}
use Rattle.paygo_spec.specs.declared.Event.{Event}
use Rattle.paygo_spec.specs.declared.Event.TheVariants.{Power, Make}
use Rattle.paygo_spec.specs.declared.Reply.{Reply}
use Rattle.paygo_spec.specs.declared.Reply.TheVariants as reply_is
use Rattle.paygo_spec.specs.Flash.{FlashView, DueAfter, DueWithin}
use Rattle.paygo_spec.specs.Pad.{no_keys, kept_of}
use Rattle.paygo_spec.specs.Recovery.{Recovered, recover}
use Rattle.paygo_spec.specs.Recovery as recovered
use Rattle.paygo_spec.specs.Machine.{Stored, State, StandsAs, Acts, reply_to_power, calls_of}
use Rattle.paygo_spec.specs.Machine.{Stand}
use Rattle.journal_laws.specs.Journal.{new_journal}
use Rattle.device_core.specs.declared.device.Device.{Device}
use Rattle.device_core.specs.declared.device.Phase.{Phase}
use Rattle.device_core.specs.declared.device.Phase.TheVariants.{Off, Unmade, Damaged, Up}

-- What a device that is on found on its flash, or left there.
abbrev pub found_by : Phase → Option Recovered
found_by Off = None
found_by Unmade = Some recovered.Unmade
found_by (Damaged place) = Some (recovered.Damaged place)
found_by (Up journal) = Some (recovered.Made journal)

-- The device is on: up, or not made yet, or on a damaged flash.
abbrev pub is_on : Device → Bool
is_on device = is_some (found_by device.phase)

-- The words stand for what the device found on them or left there.
abbrev pub Backs : Phase → List ℕ → Type 0
Backs phase words = IfSome (found_by phase) (λ found. recover words ≡ found)

-- What a device needs of its flash: where it is on, the flash is up, and its words, where it tells them, are those that
-- the device left.
pub record Holds (device : Device) (flash : FlashView) : Type 0 where
  pub up : is_on device ≡ true → flash.up ≡ true
  pub words : IfSome flash.words (Backs device.phase)

-- Device and flash stand for this state of the machine. The device's `pad`, which its contracts name too, is what it
-- keeps of the keys that were pressed since the pad was last cleared.
pub record Agrees (device : Device) (flash : FlashView) (state : State) : Type 0 where
  pub on_is : state.on ≡ is_on device
  pub pad_is : device.pad ≡ kept_of state.keys
  pub stand : Stand flash state

-- The device is off, with a cleared pad.
pub record IsDown (device : Device) : Type 0 where
  pub off : is_on device ≡ false
  pub cleared : device.pad ≡ kept_of no_keys

-- Whatever device and flash stand for, the reply to this event is one that the machine may give, and device and flash
-- go on to what it goes on to.
abbrev pub Does : (List ℕ → ℕ → ℕ) → Event → Device → FlashView → Option Reply → Device → FlashView → Type 0
Does next event old was reply new now =
    (state : State) → Agrees old was state → (after : State) × Acts next event reply state after × Agrees new now after

-- An event that makes so many calls of the flash, where that is said, is answered Down exactly where the due was below
-- that number.
abbrev pub Costs : Option ℕ → Option Reply → FlashView → FlashView → Type 0
Costs None reply was now = Unit {0}
Costs (Some calls) (Some reply_is.Down) was now = DueWithin calls was.due now.due
Costs (Some calls) reply was now = DueAfter calls was.due now.due

-- The calls that an event makes are those that the specification says, whatever device and flash stand for.
abbrev pub CostsAsSaid : (List ℕ → ℕ → ℕ) → Event → Device → FlashView → Option Reply → FlashView → Type 0
CostsAsSaid next event old was reply now =
    (state : State) → Agrees old was state → Costs (calls_of next state event) reply was now

-- What the device found or left on its flash stands for this.
abbrev pub Fits : Phase → Stored → Type 0
Fits phase stored = IfSome (found_by phase) (λ found. StandsAs found stored)

-- The device has this state of the machine in memory, whatever its flash tells: a history that what it found or left
-- there can stand for, the keys of its pad, and the flash's count of faults.
pub record Recalls (device : Device) (flash : FlashView) (state : State) : Type 0 where
  pub on_is : state.on ≡ is_on device
  pub pad_is : device.pad ≡ kept_of state.keys
  pub fits : Fits device.phase state.stored
  pub faults_are : state.faults ≡ flash.faults

-- The power came: the flash failed, and the device is off; or it is on, with a cleared pad, and what it found stands
-- for something, as of which it answers, whatever that is.
abbrev pub PowersBy : Option Reply → Device → Type 0
PowersBy (Some reply_is.Down) new = is_on new ≡ false
PowersBy reply new =
    (is_on new ≡ true) × (new.pad ≡ kept_of no_keys) × ((stored : Stored) × Fits new.phase stored)
    × ((stored : Stored) → Fits new.phase stored → reply ≡ Some (reply_to_power stored))

-- A device that isn't made is asked to be. The flash failed, and the device is off; or it is made, and up; or, where
-- another wrote the flash in the meantime, the device says so: on a damaged flash it is damaged, and where it meets
-- another device it is off.
abbrev pub MakesBy : Config → Option Reply → Device → Device → Type 0
MakesBy config (Some reply_is.Down) old new = is_on new ≡ false
MakesBy config (Some (reply_is.Damaged place)) old new =
    (found_by new.phase ≡ Some (recovered.Damaged place)) × (new.pad ≡ old.pad)
MakesBy config (Some (reply_is.Made number)) old new = (is_on new ≡ false) × (new.pad ≡ old.pad)
MakesBy config reply old new =
    (reply ≡ Some (reply_is.Up 0 0 false 0)) × (found_by new.phase ≡ Some (recovered.Made (new_journal config)))
    × (new.pad ≡ old.pad)

-- Any other event is a step of the machine, from whatever the device has in memory to what it has there then.
abbrev pub RecallsBy : (List ℕ → ℕ → ℕ) → Event → Device → FlashView → Option Reply → Device → FlashView → Type 0
RecallsBy next event old was reply new now =
    (state : State) → Recalls old was state
    → (after : State) × Acts next event reply state after × Recalls new now after

-- What the device answers, and has in memory then, follows what it has in memory, also where its flash tells no words.
abbrev pub Remembers : (List ℕ → ℕ → ℕ) → Event → Device → FlashView → Option Reply → Device → FlashView → Type 0
Remembers next Power old was reply new now = PowersBy reply new
Remembers next (Make config) old was reply new now =
    (old.phase ≡ Unmade → MakesBy config reply old new)
    × ((old.phase ≡ Unmade → ⊥) → RecallsBy next (Make config) old was reply new now)
Remembers next event old was reply new now = RecallsBy next event old was reply new now
