-- What the machine does at an event, for a device that is on.
use Rattle.std.proofs.Common.{◌≡◌, ◌≢◌, ℕ, Bool, true, false, ◌==◌, List, if◌then◌else◌, Option, Some, None, IfSome, refl, ap}
use Rattle.paygo_spec.specs.declared.Event.{Event}
use Rattle.paygo_spec.specs.declared.Event.TheVariants.{Power, Make, Key, Tick, Show, Raise}
use Rattle.paygo_spec.specs.declared.Reply.{Reply}
use Rattle.paygo_spec.specs.declared.Reply.TheVariants as reply_is
use Rattle.paygo_spec.specs.Flash.{FlashView}
use Rattle.paygo_spec.specs.Pad.{Keys}
use Rattle.paygo_spec.specs.Machine.{State, Acts, ActsIf, Goes, GoesBy, FaultsBy, calls_on, calls_of, only}
use Rattle.device_core.specs.declared.device.Device.{Device}
use Rattle.device_core.specs.declared.device.Phase.TheVariants.{Off}
use Rattle.device_core.specs.Memory.{Backs, Holds}
use Rattle.device_core.specs.Changes.{off_device, settled}

pub acts_other : (next : List ℕ → ℕ → ℕ) (event : Event) (reply : Option Reply) (old new : State) → event ≢ Power → ActsIf old.on next event reply old new → Acts next event reply old new
acts_other next Power reply old new other acts = absurd (other refl)
acts_other next _ reply old new other acts = acts

pub calls_other : (next : List ℕ → ℕ → ℕ) (event : Event) (state : State) → event ≢ Power → state.on ≡ true → calls_of next state event ≡ Some (calls_on next state.stored state.keys event)
calls_other next Power state other on = absurd (other refl)
calls_other next (Make config) state other on = ap (λ (b : Bool). if b then Some (calls_on next state.stored state.keys (Make config)) else Some 0) on
calls_other next (Key key) state other on = ap (λ (b : Bool). if b then Some (calls_on next state.stored state.keys (Key key)) else Some 0) on
calls_other next (Tick seconds) state other on = ap (λ (b : Bool). if b then Some (calls_on next state.stored state.keys (Tick seconds)) else Some 0) on
calls_other next Show state other on = ap (λ (b : Bool). if b then Some (calls_on next state.stored state.keys Show) else Some 0) on
calls_other next Raise state other on = ap (λ (b : Bool). if b then Some (calls_on next state.stored state.keys Raise) else Some 0) on

pub goes_on : (reply : Option Reply) (keys : Keys) (old new : State) → reply ≢ Some reply_is.Down → Goes true keys old new → GoesBy reply keys old new
goes_on None keys old new other goes = goes
goes_on (Some reply_is.Down) keys old new other goes = absurd (other refl)
goes_on (Some _) keys old new other goes = goes

-- any reply but Down is no fault
pub no_fault : (reply : Option Reply) (before now : ℕ) → reply ≢ Some reply_is.Down → now ≡ before → FaultsBy reply before now
no_fault None before now other same = same
no_fault (Some reply_is.Down) before now other same = absurd (other refl)
no_fault (Some _) before now other same = same

pub settled_other : (reply : Option Reply) (device : Device) → reply ≢ Some reply_is.Down → settled reply device ≡ device
settled_other None device other = refl
settled_other (Some reply_is.Down) device other = absurd (other refl)
settled_other (Some _) device other = refl

-- a device that is off needs nothing of its flash
pub off_backed : (words : Option (List ℕ)) → IfSome words (Backs Off)
off_backed None = tt
off_backed (Some words) = tt

pub off_holds : (now : FlashView) → Holds off_device now
off_holds now = record { up = λ on. cc; words = off_backed now.words }

-- of the keys `#` alone is answered
key_fair : (reply : Reply) (hash : Bool) → reply ≢ reply_is.Down → (if hash then Some reply else None) ≢ Some reply_is.Down
key_fair reply true other is = other cc
key_fair reply false other is = cc

some_fair : (reply : Reply) → reply ≢ reply_is.Down → Some reply ≢ Some reply_is.Down
some_fair reply other is = other cc

pub only_fair : (event : Event) (reply : Reply) → reply ≢ reply_is.Down → only event reply ≢ Some reply_is.Down
only_fair Power reply other = some_fair reply other
only_fair (Make config) reply other = some_fair reply other
only_fair (Key key) reply other = key_fair reply (key == 35) other
only_fair (Tick seconds) reply other = some_fair reply other
only_fair Show reply other = some_fair reply other
only_fair Raise reply other = some_fair reply other
