-- A fleet in memory, as it is seen, and what it stands for.
use Rattle.std.specs.Prelude.{◌≡◌, ℕ, List, length, slice_get, slice_set, Option, Some, IfSome, IsSomeAnd}
use Rattle.std.specs.List.{AllZip}
use Rattle.paygo_spec.specs.declared.Event.{Event}
use Rattle.paygo_spec.specs.declared.Form.{Form}
use Rattle.paygo_spec.specs.declared.Reply.{Reply}
use Rattle.paygo_spec.specs.declared.Cut.{Cut}
use Rattle.ledger_spec.specs.declared.Command.{Command}
use Rattle.ledger_spec.specs.declared.Enrol.{Enrol}
use Rattle.ledger_spec.specs.declared.Order.{Order}
use Rattle.ledger_spec.specs.Tables.{Tables, no_tables}
use Rattle.ledger_spec.specs.Applied.{left_by}
use Rattle.ledger_spec.specs.Keeper.{IsOrderOf}
use Rattle.ledger_spec.specs.Ledger.{done}
use Rattle.fleet_spec.specs.declared.Step.{Step}
use Rattle.fleet_spec.specs.declared.Step.TheVariants.{Plan}
use Rattle.fleet_spec.specs.declared.Totals.{Totals}
use Rattle.fleet_spec.specs.Fleet.{Site, Fleet, AreMade, Goes, sold, totals_of}
use Rattle.fleet_sim.specs.declared.tally.Tally.{Tally}
use Rattle.fleet_sim.specs.Tallies.{no_answers, counted}
use Rattle.fleet_sim.specs.Sites.{SiteView, StandsFor, Plans, Counts, typed_found}

-- What is seen of a fleet in memory: the shop's tables, the devices with their flashes, and the answers counted so far.
pub record FleetView : Type 0 where
  pub tables : Option Tables
  pub sites : List SiteView
  pub tally : Tally

-- It stands for this fleet.
pub record StandsForAll (view : FleetView) (fleet : Fleet) : Type 0 where
  pub tables : view.tables ≡ Some fleet.tables
  pub sites : AllZip StandsFor view.sites fleet.sites

-- These devices were sold, and each of them made. No answer was counted.
pub record IsSold (next : List ℕ → ℕ → ℕ) (enrols : List Enrol) (view : FleetView) : Type 0 where
  pub tables : view.tables ≡ Some (sold next no_tables enrols)
  pub tally : view.tally ≡ no_answers
  pub sites : List Site
  pub made : AreMade next enrols sites
  pub stand : AllZip StandsFor view.sites sites

-- Whatever fleet it stood for, these steps are ones of it, their answers were counted, and it stands for what came of them.
pub record Runs (next : List ℕ → ℕ → ℕ) (enrols : List Enrol) (steps : List Step) (old new : FleetView) : Type 0 where
  pub answers : List (Option Reply)
  pub tally_is : new.tally ≡ counted answers old.tally
  pub count : length new.sites ≡ length old.sites
  pub follows : (fleet : Fleet) → StandsForAll old fleet
      → (after : Fleet) × Goes next enrols steps answers fleet after × StandsForAll new after

-- It with the tables that a command leaves.
abbrev pub commanded : (List ℕ → ℕ → ℕ) → Command → FleetView → FleetView
commanded next command view = record view { tables = left_by (λ t. done next t command) view.tables }

-- This power cut is planned for one of the devices.
pub record PlansAt (at : ℕ) (cut : Cut) (old new : FleetView) : Type 0 where
  pub before : SiteView
  pub after : SiteView
  pub found : slice_get old.sites at ≡ Some before
  pub plans : Plans cut before after
  pub left : new ≡ record old { sites = slice_set old.sites at after }

-- Behind a step that plans a power cut, that cut is the one that is planned for the device, with the bits that it keeps.
abbrev pub HasPlanned : Step → FleetView → Type 0
HasPlanned (Plan device cut) view = IsSomeAnd (slice_get view.sites device) (λ site. site.cut ≡ Some cut)
HasPlanned step view = Unit {0}

-- These events happened to one of the devices, and their answers were counted.
pub record CountsAt (next : List ℕ → ℕ → ℕ) (at : ℕ) (events : List Event) (old new : FleetView) : Type 0 where
  pub before : SiteView
  pub after : SiteView
  pub found : slice_get old.sites at ≡ Some before
  pub counts : Counts next events before old.tally after new.tally
  pub left : new ≡ record { tables = old.tables; sites = slice_set old.sites at after; tally = new.tally }

-- The token of an order was typed on one of the devices, where the tables have such an order.
pub record EntersAt (next : List ℕ → ℕ → ℕ) (at : ℕ) (id : List ℕ) (old new : FleetView) : Type 0 where
  pub entered : Option (Order × Form)
  pub is_order : IfSome old.tables (λ tables. IsOrderOf tables id entered)
  pub counts : CountsAt next at (typed_found entered) old new

-- These are the totals of whatever fleet it stands for, after whatever answers were counted.
abbrev pub TotalsAre : FleetView → Totals → Type 0
TotalsAre view totals =
    (fleet : Fleet) (answers : List (Option Reply)) → StandsForAll view fleet → view.tally ≡ counted answers no_answers
    → totals ≡ totals_of answers fleet
