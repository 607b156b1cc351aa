-- What becomes of a fleet where its script plans no power cut.
use Rattle.std.proofs.Common.{◌≡◌, ℕ, List, [], ◌∷◌, ◌++◌, Option, refl, sym, ap, ◌∙◌, subst}
use Rattle.paygo_spec.specs.declared.Event.TheVariants as event
use Rattle.paygo_spec.specs.declared.Reply.{Reply}
use Rattle.ledger_spec.specs.declared.Enrol.{Enrol}
use Rattle.fleet_spec.specs.declared.Step.{Step}
use Rattle.fleet_spec.specs.declared.Step.TheVariants.{Plan}
use Rattle.fleet_spec.specs.declared.Totals.{Totals}
use Rattle.fleet_spec.specs.Fleet.{Site, Fleet, AreMade, Begins, Goes, Came, HasNoPlan, config_of, new_site, totals_of}
use Rattle.fleet_laws.proofs.Alike.{IsCalm, AreAlike, AllAlike, FleetsAlike, totals_alike}
use Rattle.fleet_laws.proofs.Stepping.{happen_once, PlansNone, steps_once}

new_calm : IsCalm (new_site 0)
new_calm = record { whole = tt; due = refl }

none_planned : (step : Step) (steps : List Step) → HasNoPlan (step ∷ steps) → PlansNone step × HasNoPlan steps
none_planned (Plan device cut) steps none = absurd none
none_planned _ steps none = (tt, none)

module _ (next : List ℕ → ℕ → ℕ) where
  -- the devices that are sold are alike when they are made
  made_alike : (enrols : List Enrol) (a b : List Site) → AreMade next enrols a → AreMade next enrols b → AllAlike a b
  made_alike [] [] [] of_a of_b = tt
  made_alike (enrol ∷ enrols) (x ∷ a) (y ∷ b) of_a of_b =
      let new : AreAlike (new_site 0) (new_site 0) = record { same = refl; first = new_calm; second = new_calm } in
      let events = event.Power ∷ event.Make (config_of enrol) ∷ [] in
      let here = happen_once next events of_a.0.0 of_b.0.0 (new_site 0) (new_site 0) x y new of_a.0.1 of_b.0.1 in
      (here.1, made_alike enrols a b of_a.1 of_b.1)
  made_alike [] (x ∷ a) b of_a of_b = absurd of_a
  made_alike [] [] (y ∷ b) of_a of_b = absurd of_b
  made_alike (enrol ∷ enrols) [] b of_a of_b = absurd of_a
  made_alike (enrol ∷ enrols) (x ∷ a) [] of_a of_b = absurd of_b

  begins_alike : (enrols : List Enrol) (a b : Fleet) → Begins next enrols a → Begins next enrols b → FleetsAlike a b
  begins_alike enrols a b of_a of_b =
      record { tables = of_a.tables ∙ sym of_b.tables; sites = made_alike enrols a.sites b.sites of_a.sites of_b.sites }

  -- and stay so from step to step
  goes_once : (enrols : List Enrol) (steps : List Step) (answers others : List (Option Reply)) (a b a_then b_then : Fleet)
      → HasNoPlan steps → FleetsAlike a b → Goes next enrols steps answers a a_then → Goes next enrols steps others b b_then
      → (answers ≡ others) × FleetsAlike a_then b_then
  goes_once enrols [] answers others a b a_then b_then none alike of_a of_b =
      let second = subst (FleetsAlike a) (sym of_b.1) alike in
      (of_a.0 ∙ sym of_b.0, subst (λ (f : Fleet). FleetsAlike f b_then) (sym of_a.1) second)
  goes_once enrols (step ∷ steps) answers others a b a_then b_then none alike of_a of_b =
      let unplanned = none_planned step steps none in
      let here = steps_once next enrols step of_a.1 of_b.1 a b of_a.0 of_b.0 unplanned.0 alike of_a.4 of_b.4 in
      let behind = goes_once enrols steps of_a.2 of_b.2 of_a.0 of_b.0 a_then b_then unplanned.1 here.1 of_a.5 of_b.5 in
      let both : of_a.1 ++ of_a.2 ≡ of_b.1 ++ of_b.2 = cc (here.0, behind.0) in
      (of_a.3 ∙ both ∙ sym of_b.3, behind.1)

-- where no cut is planned, the totals are a function of the script
pub once : (next : List ℕ → ℕ → ℕ) (enrols : List Enrol) (steps : List Step) → HasNoPlan steps → (a b : Totals)
    → Came next enrols steps a → Came next enrols steps b → a ≡ b
once next enrols steps none a b of_a of_b =
    let begins = begins_alike next enrols of_a.start of_b.start of_a.begins of_b.begins in
    let goes = goes_once next enrols steps of_a.answers of_b.answers of_a.start of_b.start of_a.end of_b.end none begins of_a.goes of_b.goes in
    of_a.totals_are
    ∙ ap (λ (answers : List (Option Reply)). totals_of answers of_a.end) goes.0
    ∙ totals_alike of_b.answers of_a.end of_b.end goes.1
    ∙ sym of_b.totals_are
