-- A device of the fleet with its flash, as it is seen, and what it stands for.
use Rattle.std.specs.Prelude.{◌≡◌, ℕ, List, [], ◌∷◌, Option, None, Some}
use Rattle.paygo_spec.specs.declared.Event.{Event}
use Rattle.paygo_spec.specs.declared.Event.TheVariants as event
use Rattle.paygo_spec.specs.declared.Form.{Form}
use Rattle.paygo_spec.specs.declared.Reply.{Reply}
use Rattle.paygo_spec.specs.Digits.{digits_of}
use Rattle.paygo_spec.specs.Flash.{FlashView}
use Rattle.paygo_spec.specs.declared.Cut.{Cut}
use Rattle.device_core.specs.declared.device.Device.{Device}
use Rattle.device_core.specs.Memory.{Agrees}
use Rattle.ledger_spec.specs.declared.Enrol.{Enrol}
use Rattle.ledger_spec.specs.declared.Order.{Order}
use Rattle.memory_ports.specs.Cuts.{due_of}
use Rattle.fleet_spec.specs.Fleet.{Site, Happen, new_site, config_of, planned, typed}
use Rattle.fleet_sim.specs.declared.tally.Tally.{Tally}
use Rattle.fleet_sim.specs.Tallies.{counted}

-- What is seen of a device of the fleet: what it has in memory, its flash, and the power cut that is planned for that.
pub record SiteView : Type 0 where
  pub device : Device
  pub flash : FlashView
  pub cut : Option Cut

-- It stands for this device of a fleet.
pub record StandsFor (view : SiteView) (site : Site) : Type 0 where
  pub agrees : Agrees view.device view.flash site.device
  pub due : view.flash.due ≡ Some site.due

-- The cut of the script is planned, whole: after so many calls, and with these bits kept. It stands for the device with that
-- plan, and nothing else became of it.
pub record Plans (cut : Cut) (old new : SiteView) : Type 0 where
  pub cut_is : new.cut ≡ Some cut
  pub device_is : new.device ≡ old.device
  pub flash_is : new.flash ≡ record old.flash { due = due_of (Some cut) }
  pub stands : (site : Site) → StandsFor old site → StandsFor new (planned cut.after site)

-- Whatever it stood for, these events were answered so, and it stands for what came of them.
abbrev pub Follows : (List ℕ → ℕ → ℕ) → List Event → List (Option Reply) → SiteView → SiteView → Type 0
Follows next events answers old new =
    (site : Site) → StandsFor old site → (after : Site) × Happen next events answers site after × StandsFor new after

-- These events happened, and their answers were counted.
pub record Counts (next : List ℕ → ℕ → ℕ) (events : List Event) (old : SiteView) (before : Tally) (new : SiteView)
    (after : Tally) : Type 0 where
  pub answers : List (Option Reply)
  pub tally_is : after ≡ counted answers before
  pub follows : Follows next events answers old new

-- It was powered and made with the configuration of what was enrolled.
pub record IsMade (next : List ℕ → ℕ → ℕ) (enrol : Enrol) (view : SiteView) : Type 0 where
  pub answers : List (Option Reply)
  pub site : Site
  pub happen : Happen next (event.Power ∷ event.Make (config_of enrol) ∷ []) answers (new_site 0) site
  pub stands : StandsFor view site

-- The keys of the token that was found, if one was.
abbrev pub typed_found : Option (Order × Form) → List Event
typed_found None = []
typed_found (Some found) = typed (digits_of found.1 found.0.token)
