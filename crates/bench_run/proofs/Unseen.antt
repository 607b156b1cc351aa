-- What a device does by what it has in memory, as a machine of a flash that isn't seen.
use Rattle.std.proofs.Common.{◌≡◌, ◌⊎◌, inl, inr, ℕ, Bool, true, false, List, Option, Some, None, refl, sym, ap, ◌∙◌, subst}
use Rattle.std.specs.Prelude.{IfSome, is_some}
use Rattle.paygo_spec.specs.declared.Config.{Config}
use Rattle.paygo_spec.specs.declared.Event.{Event}
use Rattle.paygo_spec.specs.declared.Event.TheVariants.{Power, Make, Key, Tick, Show, Raise}
use Rattle.paygo_spec.specs.declared.Reply.{Reply}
use Rattle.paygo_spec.specs.declared.Reply.TheVariants as reply_is
use Rattle.paygo_spec.specs.Flash.{FlashView}
use Rattle.paygo_spec.specs.Pad.{no_keys}
use Rattle.paygo_spec.specs.Recovery.{Recovered}
use Rattle.paygo_spec.specs.Recovery as recovered
use Rattle.paygo_spec.specs.Faults.{Rose}
use Rattle.paygo_spec.specs.History.{fresh}
use Rattle.paygo_spec.specs.Machine.{State, Stored, Blank, Broken, Journal, StandsAs, Acts, ActsIf, Replies, MayMake, GoesBy, Falls, FaultsBy, new_device, unit_for}
use Rattle.run_spec.specs.Unseen.{Finds, IsLawful, ActsUnseen}
use Rattle.journal_laws.specs.Journal.{new_journal}
use Rattle.device_core.specs.declared.device.Device.{Device}
use Rattle.device_core.specs.declared.device.Phase.{Phase}
use Rattle.device_core.specs.declared.device.Phase.TheVariants.{Off, Unmade, Damaged, Up}
use Rattle.device_core.specs.Memory.{found_by, Fits, Recalls, IsDown, PowersBy, MakesBy, RecallsBy, Remembers}
use Rattle.paygo_spec.proofs.Snapshots.{snapshot_start}
use Rattle.paygo_spec.proofs.Windows.{fresh_keeps}

-- a device that is off has nothing in memory that would have to fit
off_fits : (found : Option Recovered) (stored : Stored) → is_some found ≡ false → IfSome found (λ found. StandsAs found stored)
off_fits None stored off = tt
off_fits (Some found) stored off = cc

found_fits : (found : Option Recovered) (what : Recovered) (stored : Stored) → found ≡ Some what → StandsAs what stored → IfSome found (λ found. StandsAs found stored)
found_fits found what stored is stands = subst (λ (f : Option Recovered). IfSome f (λ found. StandsAs found stored)) (sym is) stands

-- a device that isn't made has nothing but that in memory
unmade_is : (stored : Stored) → StandsAs recovered.Unmade stored → stored ≡ Blank
unmade_is Blank stands = refl
unmade_is (Broken word) stands = absurd stands
unmade_is (Journal history) stands = absurd stands

new_stands : (config : Config) → StandsAs (recovered.Made (new_journal config)) (Journal (new_device config))
new_stands config = (refl, refl, sym (snapshot_start (unit_for (new_device config)) fresh fresh_keeps), fresh_keeps)

-- what a device that is on has in memory is a history that a device can have
fits_lawful : (found : Option Recovered) (stored : Stored) → is_some found ≡ true → IfSome found (λ found. StandsAs found stored) → IsLawful stored
fits_lawful None stored on fits = cc
fits_lawful (Some found) Blank on fits = tt
fits_lawful (Some found) (Broken word) on fits = tt
fits_lawful (Some recovered.Unmade) (Journal history) on fits = absurd fits
fits_lawful (Some (recovered.Damaged word)) (Journal history) on fits = absurd fits
fits_lawful (Some (recovered.Made journal)) (Journal history) on fits = fits.3

recalls_lawful : (device : Device) (flash : FlashView) (state : State) → Recalls device flash state → state.on ≡ true → IsLawful state.stored
recalls_lawful device flash state recalls on = fits_lawful (found_by device.phase) state.stored (sym recalls.on_is ∙ on) recalls.fits

module _ (next : List ℕ → ℕ → ℕ) (old new : Device) (was now : FlashView) (state : State) (recalls : Recalls old was state) where
  abbrev Recalled : Event → Option Reply → Type 0
  Recalled event reply = (after : State) × (Acts next event reply state after ⊎ Finds event reply state after) × Recalls new now after

  -- no fault was counted
  kept : now.faults ≡ was.faults → now.faults ≡ state.faults
  kept same = same ∙ sym recalls.faults_are

  -- the state of a device that the flash failed
  abbrev fallen : Stored → State
  fallen stored = record { on = false; stored = stored; keys = no_keys; faults = now.faults }

  fallen_recalled : (stored : Stored) → IsDown new → Recalls new now (fallen stored)
  fallen_recalled stored down = record { on_is = sym down.off; pad_is = down.cleared; fits = off_fits (found_by new.phase) stored down.off; faults_are = refl }

  -- what the flash failed at, the device's machine does too
  falls : (stored : Stored) → Rose was.faults now.faults → Falls state (fallen stored)
  falls stored rose = record { off = refl; cleared = refl; rose = subst (λ (n : ℕ). Rose n now.faults) (sym recalls.faults_are) rose }

  power : (reply : Option Reply) → PowersBy reply new → FaultsBy reply was.faults now.faults → (reply ≡ Some reply_is.Down → IsDown new) → Recalled Power reply
  power (Some reply_is.Down) powers counted down = (fallen state.stored, inl (refl, falls state.stored counted), fallen_recalled state.stored (down refl))
  power _ powers counted down = (
    record { on = true; stored = powers.2.0; keys = no_keys; faults = now.faults },
    inr (powers.3 powers.2.0 powers.2.1, record { on_is = refl; keys_are = refl; faults_are = kept counted }),
    record { on_is = sym powers.0; pad_is = powers.1; fits = powers.2.1; faults_are = refl },
  )

  module _ (config : Config) (is : old.phase ≡ Unmade) where
    on : state.on ≡ true
    on = recalls.on_is ∙ ap (λ (p : Phase). is_some (found_by p)) is

    blank : state.stored ≡ Blank
    blank = unmade_is state.stored (subst (λ (p : Phase). Fits p state.stored) is recalls.fits)

    -- what a device that isn't made does, its machine does
    acted : (reply : Option Reply) (after : State) → MayMake config reply after.stored → GoesBy reply state.keys state after → Acts next (Make config) reply state after
    acted reply after may goes =
        subst (λ (b : Bool). ActsIf b next (Make config) reply state after) (sym on)
        (subst (λ (s : Stored). Replies next s state.keys (Make config) reply after.stored) (sym blank) may, goes)

    made_up : (reply : Option Reply) → FaultsBy reply was.faults now.faults → reply ≡ Some (reply_is.Up 0 0 false 0) → found_by new.phase ≡ Some (recovered.Made (new_journal config)) → new.pad ≡ old.pad → Recalled (Make config) reply
    made_up reply counted up found pad =
        let same : now.faults ≡ was.faults = subst (λ (r : Option Reply). FaultsBy r was.faults now.faults) up counted in
        let after : State = record { on = true; stored = Journal (new_device config); keys = state.keys; faults = now.faults } in
        subst (λ (r : Option Reply). Recalled (Make config) r) (sym up) (
          after,
          inl (acted (Some (reply_is.Up 0 0 false 0)) after (refl, refl) (record { on_is = refl; keys_are = refl; faults_are = kept same })),
          record {
            on_is = sym (ap (λ (f : Option Recovered). is_some f) found);
            pad_is = pad ∙ recalls.pad_is;
            fits = found_fits (found_by new.phase) (recovered.Made (new_journal config)) (Journal (new_device config)) found (new_stands config);
            faults_are = refl;
          },
        )

    make : (reply : Option Reply) → MakesBy config reply old new → FaultsBy reply was.faults now.faults → (reply ≡ Some reply_is.Down → IsDown new) → Recalled (Make config) reply
    make (Some reply_is.Down) makes counted down =
        (fallen Blank, inl (acted (Some reply_is.Down) (fallen Blank) (inl refl) (falls Blank counted)), fallen_recalled Blank (down refl))
    make (Some (reply_is.Damaged word)) makes counted down = (
      record { on = true; stored = Broken word; keys = state.keys; faults = now.faults },
      inr (record { on = on; unmade = blank }, refl, record { on_is = refl; keys_are = refl; faults_are = kept counted }),
      record {
        on_is = sym (ap (λ (f : Option Recovered). is_some f) makes.0);
        pad_is = makes.1 ∙ recalls.pad_is;
        fits = found_fits (found_by new.phase) (recovered.Damaged word) (Broken word) makes.0 refl;
        faults_are = refl;
      },
    )
    make (Some (reply_is.Made number)) makes counted down = (
      record { on = false; stored = state.stored; keys = state.keys; faults = now.faults },
      inr (record { on = on; unmade = blank }, record { on_is = refl; keys_are = refl; faults_are = kept counted }),
      record { on_is = sym makes.0; pad_is = makes.1 ∙ recalls.pad_is; fits = off_fits (found_by new.phase) state.stored makes.0; faults_are = refl },
    )
    make _ makes counted down = made_up _ counted makes.0 makes.1 makes.2

  -- a step of the machine
  step : (event : Event) (reply : Option Reply) → RecallsBy next event old was reply new now → Recalled event reply
  step event reply by = let did = by state recalls in (did.0, inl did.1, did.2)

  make_any : (config : Config) (phase : Phase) → old.phase ≡ phase → (reply : Option Reply) → Remembers next (Make config) old was reply new now
      → FaultsBy reply was.faults now.faults → (reply ≡ Some reply_is.Down → IsDown new) → Recalled (Make config) reply
  make_any config Unmade is reply remembers counted down = make config is reply (remembers.0 is) counted down
  make_any config Off is reply remembers counted down = step (Make config) reply (remembers.1 (λ e. let bad : Off ≡ Unmade = sym is ∙ e in cc))
  make_any config (Damaged place) is reply remembers counted down = step (Make config) reply (remembers.1 (λ e. let bad : Damaged place ≡ Unmade = sym is ∙ e in cc))
  make_any config (Up journal) is reply remembers counted down = step (Make config) reply (remembers.1 (λ e. let bad : Up journal ≡ Unmade = sym is ∙ e in cc))

  pub by_event : (event : Event) (reply : Option Reply) → Remembers next event old was reply new now → FaultsBy reply was.faults now.faults → (reply ≡ Some reply_is.Down → IsDown new) → Recalled event reply
  by_event Power reply remembers counted down = power reply remembers counted down
  by_event (Make config) reply remembers counted down = make_any config old.phase refl reply remembers counted down
  by_event (Key key) reply remembers counted down = step (Key key) reply remembers
  by_event (Tick seconds) reply remembers counted down = step (Tick seconds) reply remembers
  by_event Show reply remembers counted down = step Show reply remembers
  by_event Raise reply remembers counted down = step Raise reply remembers

pub remembered : (next : List ℕ → ℕ → ℕ) (event : Event) (old new : Device) (was now : FlashView) (reply : Option Reply) → Remembers next event old was reply new now → FaultsBy reply was.faults now.faults
    → (reply ≡ Some reply_is.Down → IsDown new) → (state : State) → Recalls old was state → (after : State) × ActsUnseen next event reply state after × Recalls new now after
remembered next event old new was now reply remembers counted down state recalls =
    let did = by_event next old new was now state recalls event reply remembers counted down in
    (did.0, (did.1, recalls_lawful new now did.0 did.2), did.2)
