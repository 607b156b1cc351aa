-- The steps of a fleet in memory are those of the fleet that it stands for.
use Rattle.std.proofs.Common.{◌≡◌, Bool, true, false, not, ℕ, zero, suc, ◌+◌, ◌<◌, List, [], ◌∷◌, ◌++◌, length, take, Option, Some, None, refl, sym, ap, ◌∙◌, append-nil, append_assoc, subst, get_or}
use Rattle.std.specs.Prelude.{if◌then◌else◌, slice_get, slice_set, IfSome, unwrap_or}
use Rattle.std.specs.List.{AllZip}
use Rattle.std.specs.Option.{option_map}
use Rattle.std.proofs.lemmas.List.{length-set, take_more}
use Rattle.paygo_spec.specs.declared.Event.{Event}
use Rattle.paygo_spec.specs.declared.Event.TheVariants as event
use Rattle.paygo_spec.specs.declared.Form.{Form}
use Rattle.paygo_spec.specs.declared.Reply.{Reply}
use Rattle.paygo_spec.specs.Digits.{digits_of}
use Rattle.paygo_spec.specs.declared.Cut.{Cut}
use Rattle.ledger_spec.specs.declared.Command.{Command}
use Rattle.ledger_spec.specs.declared.Command.TheVariants.{Enroll}
use Rattle.ledger_spec.specs.declared.Enrol.{Enrol}
use Rattle.ledger_spec.specs.declared.Order.{Order}
use Rattle.ledger_spec.specs.Applied.{left_by}
use Rattle.ledger_spec.specs.Keeper.{IsOrderOf}
use Rattle.ledger_spec.specs.Ledger.{done, IsCommand}
use Rattle.ledger_spec.specs.Tables.{Tables, no_tables, order_of}
use Rattle.fleet_spec.specs.declared.Step.{Step}
use Rattle.fleet_spec.specs.declared.Step.TheVariants.{Ledger, Plan, Wrong, Enter, Tick, Power}
use Rattle.fleet_spec.specs.Fleet.{Site, Fleet, Happen, HappenAt, AreMade, Steps, Goes, planned, sold, typed, typed_order, typed_wrong, new_site, config_of}
use Rattle.fleet_sim.specs.Tallies.{no_answers, counted}
use Rattle.fleet_sim.specs.Sites.{SiteView, StandsFor, IsMade, typed_found}
use Rattle.fleet_sim.specs.Fleets.{commanded, FleetView, HasPlanned, IsSold, Runs, PlansAt, CountsAt, EntersAt}
use Rattle.fleet_sim.proofs.Counting.{counted-append}

-- the device that one of the sites stands for
pub site_at : (views : List SiteView) (sites : List Site) (at : ℕ) (view : SiteView) → AllZip StandsFor views sites
    → slice_get views at ≡ Some view
    → (site : Site) × (slice_get sites at ≡ Some site) × StandsFor view site
site_at [] [] at view stand found = cc
site_at (v ∷ views) (s ∷ sites) zero view stand found =
    let same : v ≡ view = cc in (s, refl, subst (λ w. StandsFor w s) same stand.0)
site_at (v ∷ views) (s ∷ sites) (suc at) view stand found = site_at views sites at view stand.1 found
site_at [] (s ∷ sites) at view stand found = absurd stand
site_at (v ∷ views) [] at view stand found = absurd stand

-- one more site
stand-push : (views : List SiteView) (sites : List Site) (view : SiteView) (site : Site) → AllZip StandsFor views sites
    → StandsFor view site → AllZip StandsFor (views ++ view ∷ []) (sites ++ site ∷ [])
stand-push [] [] view site stand is = (is, tt)
stand-push (v ∷ views) (s ∷ sites) view site stand is = (stand.0, stand-push views sites view site stand.1 is)
stand-push [] (s ∷ sites) view site stand is = absurd stand
stand-push (v ∷ views) [] view site stand is = absurd stand

-- a site that was pushed
pub pushed_so : (views all : List SiteView) (view : SiteView) (ok failed : Bool) → ok ≡ not failed → failed ≡ false
    → all ≡ (if ok then views ++ view ∷ [] else views) → all ≡ views ++ view ∷ []
pushed_so views all view true failed is done all_is = all_is
pushed_so views all view false failed is done all_is = absurd (let both : false ≡ true = is ∙ ap not done in cc)

-- one of the sites is another
sites_set : (views : List SiteView) (sites : List Site) (at : ℕ) (view : SiteView) (site : Site)
    → AllZip StandsFor views sites → StandsFor view site
    → AllZip StandsFor (slice_set views at view) (slice_set sites at site)
sites_set [] [] at view site stand is = tt
sites_set (v ∷ views) (s ∷ sites) zero view site stand is = (is, stand.1)
sites_set (v ∷ views) (s ∷ sites) (suc at) view site stand is = (stand.0, sites_set views sites at view site stand.1 is)
sites_set [] (s ∷ sites) at view site stand is = absurd stand
sites_set (v ∷ views) [] at view site stand is = absurd stand

-- what is set is found there
set_found : (views : List SiteView) (at : ℕ) (before after : SiteView) → slice_get views at ≡ Some before
    → slice_get (slice_set views at after) at ≡ Some after
set_found [] at before after found = absurd (let bad : None ≡ Some before = found in cc)
set_found (view ∷ views) zero before after found = refl
set_found (view ∷ views) (suc at) before after found = set_found views at before after found

module _ (next : List ℕ → ℕ → ℕ) (enrols : List Enrol) where
  -- more steps behind others
  goes-append : (steps more : List Step) (answers others : List (Option Reply)) (old mid new : Fleet)
      → Goes next enrols steps answers old mid → Goes next enrols more others mid new
      → Goes next enrols (steps ++ more) (answers ++ others) old new
  goes-append [] more answers others old mid new (none, same) second =
      subst (λ (l : List (Option Reply)). Goes next enrols more (l ++ others) old new) (sym none)
      (subst (λ (f : Fleet). Goes next enrols more others f new) same second)
  goes-append (step ∷ steps) more answers others old mid new first second =
      let answers_are = ap (λ l. l ++ others) first.3 ∙ append_assoc first.1 first.2 others in
      let rest = goes-append steps more first.2 others first.0 mid new first.5 second in
      (first.0, first.1, first.2 ++ others, answers_are, first.4, rest)

  -- one step
  goes_one : (step : Step) (answers : List (Option Reply)) (old new : Fleet) → Steps next enrols step answers old new
      → Goes next enrols (step ∷ []) answers old new
  goes_one step answers old new steps = (new, answers, [], sym (append-nil answers), steps, (refl, refl))

  -- no step yet
  pub runs_none : (view : FleetView) → Runs next enrols [] view view
  runs_none view = record { answers = []; tally_is = refl; count = refl; follows = λ fleet stands. (fleet, (refl, refl), stands) }

  -- more steps are run
  pub runs_more : (steps more : List Step) (first old new : FleetView) → Runs next enrols steps first old
      → Runs next enrols more old new → Runs next enrols (steps ++ more) first new
  runs_more steps more first old new done later = record {
    answers = done.answers ++ later.answers;
    tally_is = later.tally_is ∙ ap (counted later.answers) done.tally_is ∙ sym (counted-append done.answers later.answers first.tally);
    count = later.count ∙ done.count;
    follows = λ fleet stands.
        let mid = done.follows fleet stands in
        let end = later.follows mid.0 mid.2 in
        (end.0, goes-append steps more done.answers later.answers fleet mid.0 end.0 mid.1 end.1, end.2);
  }

  -- one step more
  pub runs_step : (steps : List Step) (i : ℕ) (step : Step) (first old new : FleetView) → i < length steps
      → step ≡ get_or steps i step → Runs next enrols (take i steps) first old → Runs next enrols (step ∷ []) old new
      → Runs next enrols (take (i + 1) steps) first new
  runs_step steps i step first old new within is done one =
      let more : take (i + 1) steps ≡ take i steps ++ step ∷ [] =
      take_more steps i step within ∙ ap (λ s. take i steps ++ s ∷ []) (sym is) in
      subst (λ (l : List Step). Runs next enrols l first new) (sym more)
      (runs_more (take i steps) (step ∷ []) first old new done one)

  -- a command that was done
  pub command_runs : (command : Command) (old new : FleetView) → IsCommand command → new ≡ commanded next command old
      → Runs next enrols (Ledger command ∷ []) old new
  command_runs command old new is left = record {
    answers = [];
    tally_is = ap (λ (v : FleetView). v.tally) left;
    count = ap (λ (v : FleetView). length v.sites) left;
    follows = λ fleet stands.
        let after : Fleet = record { tables = (done next fleet.tables command).tables; sites = fleet.sites } in (
          after,
          goes_one (Ledger command) [] fleet after (is, refl, refl, refl),
          record {
            tables = ap (λ (v : FleetView). v.tables) left ∙ ap (left_by (λ t. done next t command)) stands.tables;
            sites = subst (λ (v : FleetView). AllZip StandsFor v.sites fleet.sites) (sym left) stands.sites;
          },
        );
  }

  -- a power cut that was planned
  pub plan_runs : (device : ℕ) (cut : Cut) (old new : FleetView) → PlansAt device cut old new
      → Runs next enrols (Plan device cut ∷ []) old new
  plan_runs device cut old new plans = record {
    answers = [];
    tally_is = ap (λ (v : FleetView). v.tally) plans.left;
    count = ap (λ (v : FleetView). length v.sites) plans.left ∙ length-set old.sites device plans.after;
    follows = λ fleet stands.
        let site = site_at old.sites fleet.sites device plans.before stands.sites plans.found in
        let now = planned cut.after site.0 in
        let after : Fleet = record { tables = fleet.tables; sites = slice_set fleet.sites device now } in (
          after,
          goes_one (Plan device cut) [] fleet after (refl, refl, record { before = site.0; found = site.1; left = refl }),
          record {
            tables = ap (λ (v : FleetView). v.tables) plans.left ∙ stands.tables;
            sites = subst (λ (v : FleetView). AllZip StandsFor v.sites after.sites) (sym plans.left)
                (sites_set old.sites fleet.sites device plans.after now stands.sites (plans.plans.stands site.0 site.2));
          },
        );
  }

  -- and it is planned then
  pub plan_kept : (device : ℕ) (cut : Cut) (old new : FleetView) → PlansAt device cut old new → HasPlanned (Plan device cut) new
  plan_kept device cut old new plans =
      let found : slice_get new.sites device ≡ Some plans.after =
      ap (λ (v : FleetView). slice_get v.sites device) plans.left ∙ set_found old.sites device plans.before plans.after plans.found in
      rw found plans.plans.cut_is

  -- events at a device, where they are those of the step
  events_run : (step : Step) (device : ℕ) (events : List Event) (old new : FleetView)
      → CountsAt next device events old new
      → ((fleet after : Fleet) (answers : List (Option Reply)) → old.tables ≡ Some fleet.tables → after.tables ≡ fleet.tables
      → HappenAt next device events answers fleet.sites after.sites → Steps next enrols step answers fleet after)
      → Runs next enrols (step ∷ []) old new
  events_run step device events old new at is = record {
    answers = at.counts.answers;
    tally_is = at.counts.tally_is;
    count = ap (λ (v : FleetView). length v.sites) at.left ∙ length-set old.sites device at.after;
    follows = λ fleet stands.
        let site = site_at old.sites fleet.sites device at.before stands.sites at.found in
        let now = at.counts.follows site.0 site.2 in
        let after : Fleet = record { tables = fleet.tables; sites = slice_set fleet.sites device now.0 } in (
          after,
          goes_one step at.counts.answers fleet after
              (is fleet after at.counts.answers stands.tables refl
              (record { before = site.0; after = now.0; found = site.1; happen = now.1; left = refl })),
          record {
            tables = ap (λ (v : FleetView). v.tables) at.left ∙ stands.tables;
            sites = subst (λ (v : FleetView). AllZip StandsFor v.sites after.sites) (sym at.left)
                (sites_set old.sites fleet.sites device at.after now.0 stands.sites now.2);
          },
        );
  }

  pub tick_runs : (device seconds : ℕ) (old new : FleetView) → CountsAt next device (event.Tick seconds ∷ []) old new
      → Runs next enrols (Tick device seconds ∷ []) old new
  tick_runs device seconds old new at =
      events_run (Tick device seconds) device (event.Tick seconds ∷ []) old new at
      (λ fleet after answers told same happen. (same, happen))

  pub power_runs : (device : ℕ) (old new : FleetView) → CountsAt next device (event.Power ∷ []) old new
      → Runs next enrols (Power device ∷ []) old new
  power_runs device old new at =
      events_run (Power device) device (event.Power ∷ []) old new at
      (λ fleet after answers told same happen. (same, happen))

  -- wrong digits in the form of what the device was sold as
  pub wrong_runs : (device : ℕ) (enrol : Enrol) (old new : FleetView) → slice_get enrols device ≡ Some enrol
      → CountsAt next device (typed (digits_of enrol.form 0)) old new → Runs next enrols (Wrong device ∷ []) old new
  wrong_runs device enrol old new found at =
      events_run (Wrong device) device (typed (digits_of enrol.form 0)) old new at
      (λ fleet after answers told same happen.
      (same, subst (λ (o : Option Enrol). HappenAt next device (typed_wrong o) answers fleet.sites after.sites) (sym found) happen))

  -- the keys of the order that was found
  order_typed : (tables : Tables) (id : List ℕ) (entered : Option (Order × Form)) → IsOrderOf tables id entered
      → typed_found entered ≡ unwrap_or (option_map (typed_order tables) (order_of tables id)) []
  order_typed tables id None none = rw none refl
  order_typed tables id (Some found) (order, form) = rw (order, form) refl

  pub enter_runs : (device : ℕ) (id : List ℕ) (old new : FleetView) → EntersAt next device id old new
      → Runs next enrols (Enter device id ∷ []) old new
  enter_runs device id old new at =
      events_run (Enter device id) device (typed_found at.entered) old new at.counts
      (λ fleet after answers told same happen. (
        same,
        subst (λ (events : List Event). HappenAt next device events answers fleet.sites after.sites)
            (order_typed fleet.tables id at.entered
            (subst (λ (o : Option Tables). IfSome o (λ tables. IsOrderOf tables id at.entered)) told at.is_order)) happen,
      ))

-- one more device is sold
module _ (next : List ℕ → ℕ → ℕ) where
  sold-append : (tables : Tables) (enrols : List Enrol) (enrol : Enrol)
      → sold next tables (enrols ++ enrol ∷ []) ≡ (done next (sold next tables enrols) (Enroll enrol)).tables
  sold-append tables [] enrol = refl
  sold-append tables (e ∷ enrols) enrol = sold-append (done next tables (Enroll e)).tables enrols enrol

  made-append : (enrols : List Enrol) (sites : List Site) (enrol : Enrol) (site : Site) → AreMade next enrols sites
      → ((answers : List (Option Reply)) × Happen next (event.Power ∷ event.Make (config_of enrol) ∷ []) answers (new_site 0) site)
      → AreMade next (enrols ++ enrol ∷ []) (sites ++ site ∷ [])
  made-append [] [] enrol site made is = (is, tt)
  made-append (e ∷ enrols) (s ∷ sites) enrol site made is = (made.0, made-append enrols sites enrol site made.1 is)
  made-append [] (s ∷ sites) enrol site made is = absurd made
  made-append (e ∷ enrols) [] enrol site made is = absurd made

  pub sold_none : (view : FleetView) → view ≡ record { tables = Some no_tables; sites = []; tally = no_answers }
      → IsSold next [] view
  sold_none view is = record {
    tables = ap (λ (v : FleetView). v.tables) is;
    tally = ap (λ (v : FleetView). v.tally) is;
    sites = [];
    made = tt;
    stand = subst (λ (v : FleetView). AllZip StandsFor v.sites []) (sym is) tt;
  }

  pub sold_more : (enrols : List Enrol) (enrol : Enrol) (old mid : FleetView) (views : List SiteView) (site : SiteView)
      → IsMade next enrol site
      → mid ≡ commanded next (Enroll enrol) old → views ≡ mid.sites ++ site ∷ [] → IsSold next enrols old
      → IsSold next (enrols ++ enrol ∷ []) (record mid { sites = views })
  sold_more enrols enrol old mid views site made left pushed is = record {
    tables = ap (λ (v : FleetView). v.tables) left ∙ ap (left_by (λ t. done next t (Enroll enrol))) is.tables
        ∙ ap Some (sym (sold-append no_tables enrols enrol));
    tally = ap (λ (v : FleetView). v.tally) left ∙ is.tally;
    sites = is.sites ++ made.site ∷ [];
    made = made-append enrols is.sites enrol made.site is.made (made.answers, made.happen);
    stand = subst (λ (l : List SiteView). AllZip StandsFor l (is.sites ++ made.site ∷ []))
        (sym (pushed ∙ ap (λ (v : FleetView). v.sites ++ site ∷ []) left))
        (stand-push old.sites is.sites site made.site is.stand made.stands);
  }

  pub sold_step : (enrols : List Enrol) (i : ℕ) (enrol : Enrol) (old new : FleetView) → i < length enrols
      → enrol ≡ get_or enrols i enrol → IsSold next (take i enrols) old
      → ((before : List Enrol) → IsSold next before old → IsSold next (before ++ enrol ∷ []) new)
      → IsSold next (take (i + 1) enrols) new
  sold_step enrols i enrol old new within is sold_so one =
      let more : take (i + 1) enrols ≡ take i enrols ++ enrol ∷ [] =
      take_more enrols i enrol within ∙ ap (λ e. take i enrols ++ e ∷ []) (sym is) in
      subst (λ (l : List Enrol). IsSold next l new) (sym more) (one (take i enrols) sold_so)

  -- as many devices as were sold
  sites_count : (enrols : List Enrol) (views : List SiteView) (sites : List Site) → AreMade next enrols sites
      → AllZip StandsFor views sites → length views ≡ length enrols
  sites_count [] [] [] made stand = refl
  sites_count (e ∷ enrols) (v ∷ views) (s ∷ sites) made stand = ap suc (sites_count enrols views sites made.1 stand.1)
  sites_count [] (v ∷ views) [] made stand = absurd stand
  sites_count [] views (s ∷ sites) made stand = absurd made
  sites_count (e ∷ enrols) views [] made stand = absurd made
  sites_count (e ∷ enrols) [] (s ∷ sites) made stand = absurd stand

  pub sold_count : (enrols : List Enrol) (view : FleetView) → IsSold next enrols view
      → length view.sites ≡ length enrols
  sold_count enrols view is = sites_count enrols view.sites is.sites is.made is.stand
