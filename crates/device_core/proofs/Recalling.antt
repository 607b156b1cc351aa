-- A device does as the machine does by what it has in memory, and where its flash tells words, by those too.
use Rattle.std.proofs.Common.{◌≡◌, ◌≢◌, ℕ, Bool, true, List, Option, Some, IfSome, refl, sym, ap, ◌∙◌, subst}
use Rattle.paygo_spec.specs.declared.Config.{Config}
use Rattle.paygo_spec.specs.declared.Event.{Event}
use Rattle.paygo_spec.specs.declared.Event.TheVariants.{Power, Make}
use Rattle.paygo_spec.specs.declared.Reply.{Reply}
use Rattle.paygo_spec.specs.declared.Reply.TheVariants as reply_is
use Rattle.paygo_spec.specs.Flash.{FlashView, KeepsPlan}
use Rattle.paygo_spec.specs.Pad.{no_keys, kept_of}
use Rattle.paygo_spec.specs.Recovery as recovered
use Rattle.paygo_spec.specs.Machine.{Stored, State, Stands, Acts, ActsIf, GoesBy, FaultsBy, Replies, keys_after, calls_on, reply_to_power}
use Rattle.device_core.specs.declared.device.Device.{Device}
use Rattle.device_core.specs.declared.device.Phase.{Phase}
use Rattle.device_core.specs.declared.device.Phase.TheVariants.{Off, Unmade, Damaged, Up}
use Rattle.device_core.specs.Memory.{is_on, Fits, Backs, Holds, Agrees, Recalls, IsDown, Does, Costs, CostsAsSaid, PowersBy, RecallsBy, Remembers}
use Rattle.device_core.specs.Changes.{Handled}
use Rattle.device_core.proofs.Stands.{stands_as}
use Rattle.device_core.proofs.Handling.{acts_other, calls_other}

-- The words that stood for this state stand for that one then.
abbrev pub StandOn : FlashView → State → FlashView → State → Type 0
StandOn was before now after = Stands was.words before.stored → Stands now.words after.stored

-- A step of the machine from whatever the device has in memory, which the words follow.
abbrev pub Steps : (List ℕ → ℕ → ℕ) → Event → Device → FlashView → Option Reply → Device → FlashView → Type 0
Steps next event old was reply new now =
    (state : State) → Recalls old was state → (after : State) × Acts next event reply state after × Recalls new now after × StandOn was state now after

-- What a device that is on does at an event but Power, in this state of the machine.
abbrev pub Reacts : (List ℕ → ℕ → ℕ) → Event → State → FlashView → Option Reply → Device → FlashView → Type 0
Reacts next event state was reply new now =
    (after : State) × Replies next state.stored state.keys event reply after.stored × GoesBy reply (keys_after state.stored event state.keys) state after × Recalls new now after × StandOn was state now after

-- what words stand for, a device that left them has in memory
fits_of : (phase : Phase) (words : Option (List ℕ)) (stored : Stored) → IfSome words (Backs phase) → Stands words stored → Fits phase stored
fits_of Off words stored backs stands = tt
fits_of Unmade words stored backs stands = stands_as words recovered.Unmade stored backs stands
fits_of (Damaged place) words stored backs stands = stands_as words (recovered.Damaged place) stored backs stands
fits_of (Up journal) words stored backs stands = stands_as words (recovered.Made journal) stored backs stands

pub recalls_of : (device : Device) (flash : FlashView) (state : State) → Holds device flash → Agrees device flash state → Recalls device flash state
recalls_of device flash state holds agrees = record {
  on_is = agrees.on_is;
  pad_is = agrees.pad_is;
  fits = fits_of device.phase flash.words state.stored holds.words agrees.stand.words;
  faults_are = agrees.stand.faults;
}

-- what an event that neither makes a device nor brings the power says of the memory
pub remembers_made : (next : List ℕ → ℕ → ℕ) (event : Event) (old : Device) (was : FlashView) (reply : Option Reply) (new : Device) (now : FlashView) → event ≢ Power → old.phase ≢ Unmade
    → RecallsBy next event old was reply new now → Remembers next event old was reply new now
remembers_made next Power old was reply new now other made recalls = absurd (other refl)
remembers_made next (Make config) old was reply new now other made recalls = (λ e. absurd (made e), λ e. recalls)
remembers_made next _ old was reply new now other made recalls = recalls

pub remembers_unmade : (next : List ℕ → ℕ → ℕ) (event : Event) (old : Device) (was : FlashView) (reply : Option Reply) (new : Device) (now : FlashView) → event ≢ Power → ((config : Config) → event ≢ Make config)
    → RecallsBy next event old was reply new now → Remembers next event old was reply new now
remembers_unmade next Power old was reply new now other not_make recalls = absurd (other refl)
remembers_unmade next (Make config) old was reply new now other not_make recalls = absurd (not_make config refl)
remembers_unmade next _ old was reply new now other not_make recalls = recalls

pub powers_by : (reply : Reply) (new : Device) → reply ≢ reply_is.Down → is_on new ≡ true → new.pad ≡ kept_of no_keys
    → (stored : Stored) × Fits new.phase stored → ((stored : Stored) → Fits new.phase stored → reply ≡ reply_to_power stored) → PowersBy (Some reply) new
powers_by reply_is.Down new fair on cleared fits says = absurd (fair refl)
powers_by _ new fair on cleared fits says = (on, cleared, fits, λ stored fits. ap Some (says stored fits))

module _ (next : List ℕ → ℕ → ℕ) (event : Event) (other : event ≢ Power) (old : Device) (was : FlashView) (reply : Option Reply) (new : Device) (now : FlashView) (holds : Holds old was) where
  pub does : Steps next event old was reply new now → Does next event old was reply new now
  does steps state agrees =
      let s = steps state (recalls_of old was state holds agrees) in
      (s.0, s.1, record { on_is = s.2.on_is; pad_is = s.2.pad_is; stand = record { words = s.3 agrees.stand.words; faults = s.2.faults_are } })

  pub recalls : Steps next event old was reply new now → RecallsBy next event old was reply new now
  recalls steps state recalled = let s = steps state recalled in (s.0, s.1, s.2)

  module _ (on : is_on old ≡ true) (says : (state : State) → Recalls old was state → Reacts next event state was reply new now × Costs (Some (calls_on next state.stored state.keys event)) reply was now) where
    steps : Steps next event old was reply new now
    steps state recalled =
        let r = (says state recalled).0 in
        let on_is : state.on ≡ true = recalled.on_is ∙ on in (
          r.0,
          acts_other next event reply state r.0 other (subst (λ (b : Bool). ActsIf b next event reply state r.0) (sym on_is) (r.1, r.2)),
          r.3,
          r.4,
        )

    costs : CostsAsSaid next event old was reply now
    costs state agrees =
        subst (λ (calls : Option ℕ). Costs calls reply was now) (sym (calls_other next event state other (agrees.on_is ∙ on)))
        (says state (recalls_of old was state holds agrees)).1

    -- a device that is on handles an event but Power
    pub handled_on : Holds new now → FaultsBy reply was.faults now.faults → KeepsPlan was now → (reply ≡ Some reply_is.Down → IsDown new)
        → (RecallsBy next event old was reply new now → Remembers next event old was reply new now) → Handled next event old was reply new now
    handled_on kept faults plan down remembers = record {
      holds = kept;
      faults = faults;
      plan = plan;
      down = down;
      step = does steps;
      calls = costs;
      kept = λ e. absurd (other e);
      memory = remembers (recalls steps);
    }
