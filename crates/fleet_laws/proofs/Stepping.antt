-- A step of two fleets that are alike, where it plans no power cut: its answers are the same, and they stay alike.
use Rattle.std.proofs.Common.{◌≡◌, ◌≢◌, ℕ, Bool, true, false, if◌then◌else◌, List, [], ◌∷◌, slice_set, Option, Some, None, refl, sym, ap, ◌∙◌, subst}
use Rattle.paygo_spec.specs.declared.Event.{Event}
use Rattle.paygo_spec.specs.declared.Event.TheVariants as event
use Rattle.paygo_spec.specs.declared.Reply.{Reply}
use Rattle.paygo_spec.specs.Machine.{State, Stored, Blank, Broken, Journal, calls_of, calls_on, calls_of_power}
use Rattle.ledger_spec.specs.declared.Enrol.{Enrol}
use Rattle.ledger_spec.specs.Ledger.{done}
use Rattle.ledger_spec.specs.Tables.{Tables}
use Rattle.fleet_spec.specs.declared.Step.{Step}
use Rattle.fleet_spec.specs.declared.Step.TheVariants.{Ledger, Plan, Wrong, Enter, Tick, Power}
use Rattle.fleet_spec.specs.Fleet.{Site, Fleet, CutsByPlan, Happens, Happen, HappenAt, Steps, events_of}
use Rattle.fleet_laws.proofs.Acting.{Seen, seen_of, Acted, acted, IsActed, IsUp, acts, IsWhole, acted_whole}
use Rattle.fleet_laws.proofs.Alike.{IsCalm, AreAlike, AllAlike, FleetsAlike, found_alike, set_alike}

-- on a flash that isn't damaged it is said how many calls an event makes
power_said : (stored : Stored) → IsWhole stored → calls_of_power stored ≢ None
power_said Blank whole = λ e. cc
power_said (Broken word) whole = absurd whole
power_said (Journal history) whole = λ e. cc

said_if : (on : Bool) (calls : ℕ) → (if on then Some calls else Some 0) ≢ None
said_if true calls = λ e. cc
said_if false calls = λ e. cc

calls_said : (next : List ℕ → ℕ → ℕ) (happens : Event) (state : State) → IsWhole state.stored → calls_of next state happens ≢ None
calls_said next event.Power state whole = power_said state.stored whole
calls_said next happens state whole = said_if state.on (calls_on next state.stored state.keys happens)

-- so where no cut is planned none falls, and none is planned then
uncut : (calls : Option ℕ) (answer : Option Reply) (due : Option ℕ) → calls ≢ None → CutsByPlan calls answer None due
    → IsUp answer × (due ≡ None)
uncut None answer due said cuts = absurd (said refl)
uncut (Some calls) answer due said cuts = (λ down. absurd (let falls : false ≡ true = cuts.0.0 down in cc), cuts.1)

-- The step plans no cut.
abbrev pub PlansNone : Step → Type 0
PlansNone (Plan device cut) = ⊥
PlansNone _ = Unit {0}

module _ (next : List ℕ → ℕ → ℕ) where
  -- a calm device acts as what is seen of it says, and stays calm
  calm : (happens : Event) (answer : Option Reply) (old new : Site) → IsCalm old → Happens next happens answer old new
      → IsActed (acted next happens (seen_of old.device)) answer new.device × IsCalm new
  calm happens answer old new is h =
      let calls = calls_of next old.device happens in
      let cuts = subst (λ (due : Option ℕ). CutsByPlan calls answer due new.due) is.due h.cuts in
      let none = uncut calls answer new.due (calls_said next happens old.device is.whole) cuts in
      let so = acts next happens answer old.device new.device none.0 h.acts in
      let whole = acted_whole next happens (seen_of old.device) is.whole in
      (so, record { whole = subst (λ (seen : Seen). IsWhole seen.stored) (sym so.1) whole; due = none.1 })

  happens_once : (happens : Event) (answer other : Option Reply) (a b a_then b_then : Site) → AreAlike a b
      → Happens next happens answer a a_then → Happens next happens other b b_then → (answer ≡ other) × AreAlike a_then b_then
  happens_once happens answer other a b a_then b_then alike of_a of_b =
      let first = calm happens answer a a_then alike.first of_a in
      let second = calm happens other b b_then alike.second of_b in
      let same : acted next happens (seen_of a.device) ≡ acted next happens (seen_of b.device) = ap (acted next happens) alike.same in
      let seen = first.0.1 ∙ ap (λ (so : Acted). so.seen) same ∙ sym second.0.1 in
      (first.0.0 ∙ ap (λ (so : Acted). so.reply) same ∙ sym second.0.0, record { same = seen; first = first.1; second = second.1 })

  -- events of two devices that are alike
  pub happen_once : (events : List Event) (answers others : List (Option Reply)) (a b a_then b_then : Site) → AreAlike a b
      → Happen next events answers a a_then → Happen next events others b b_then → (answers ≡ others) × AreAlike a_then b_then
  happen_once [] [] [] a b a_then b_then alike of_a of_b =
      (refl, subst (λ (s : Site). AreAlike s b_then) (sym of_a) (subst (AreAlike a) (sym of_b) alike))
  happen_once (e ∷ events) (answer ∷ answers) (other ∷ others) a b a_then b_then alike of_a of_b =
      let here = happens_once e answer other a b of_a.0 of_b.0 alike of_a.1 of_b.1 in
      let behind = happen_once events answers others of_a.0 of_b.0 a_then b_then here.1 of_a.2 of_b.2 in
      let both : answer ∷ answers ≡ other ∷ others = cc (here.0, behind.0) in
      (both, behind.1)
  happen_once [] (answer ∷ answers) others a b a_then b_then alike of_a of_b = absurd of_a
  happen_once [] [] (other ∷ others) a b a_then b_then alike of_a of_b = absurd of_b
  happen_once (e ∷ events) [] others a b a_then b_then alike of_a of_b = absurd of_a
  happen_once (e ∷ events) (answer ∷ answers) [] a b a_then b_then alike of_a of_b = absurd of_b

  -- events at one place of two lists that are alike
  happen_at_once : (at : ℕ) (events : List Event) (answers others : List (Option Reply)) (a b a_then b_then : List Site) → AllAlike a b
      → HappenAt next at events answers a a_then → HappenAt next at events others b b_then → (answers ≡ others) × AllAlike a_then b_then
  happen_at_once at events answers others a b a_then b_then alike of_a of_b =
      let before = found_alike a b at of_a.before of_b.before alike of_a.found of_b.found in
      let once = happen_once events answers others of_a.before of_b.before of_a.after of_b.after before of_a.happen of_b.happen in
      let after = set_alike a b at of_a.after of_b.after alike once.1 in
      let second = subst (AllAlike (slice_set a at of_a.after)) (sym of_b.left) after in
      (once.0, subst (λ (l : List Site). AllAlike l b_then) (sym of_a.left) second)

  module _ (enrols : List Enrol) where
    -- A step's events happen to this device, and the tables stay.
    abbrev IsAt : Step → ℕ → List (Option Reply) → Fleet → Fleet → Type 0
    IsAt step at answers old new =
        (new.tables ≡ old.tables) × HappenAt next at (events_of enrols old.tables step) answers old.sites new.sites

    at_once : (step : Step) (at : ℕ) (answers others : List (Option Reply)) (a b a_then b_then : Fleet) → FleetsAlike a b
        → IsAt step at answers a a_then → IsAt step at others b b_then → (answers ≡ others) × FleetsAlike a_then b_then
    at_once step at answers others a b a_then b_then alike of_a of_b =
        let events = events_of enrols a.tables step in
        let same = subst (λ (t : Tables). HappenAt next at (events_of enrols t step) others b.sites b_then.sites) (sym alike.tables) of_b.1 in
        let once = happen_at_once at events answers others a.sites b.sites a_then.sites b_then.sites alike.sites of_a.1 same in
        (once.0, record { tables = of_a.0 ∙ alike.tables ∙ sym of_b.0; sites = once.1 })

    pub steps_once : (step : Step) (answers others : List (Option Reply)) (a b a_then b_then : Fleet) → PlansNone step → FleetsAlike a b
        → Steps next enrols step answers a a_then → Steps next enrols step others b b_then → (answers ≡ others) × FleetsAlike a_then b_then
    steps_once (Ledger command) answers others a b a_then b_then none alike of_a of_b =
        let tables = of_a.2 ∙ ap (λ (t : Tables). (done next t command).tables) alike.tables ∙ sym of_b.2 in
        let second = subst (AllAlike a.sites) (sym of_b.3) alike.sites in
        let sites = subst (λ (l : List Site). AllAlike l b_then.sites) (sym of_a.3) second in
        (of_a.1 ∙ sym of_b.1, record { tables = tables; sites = sites })
    steps_once (Plan device cut) answers others a b a_then b_then none alike of_a of_b = absurd none
    steps_once (Wrong device) answers others a b a_then b_then none alike of_a of_b =
        at_once (Wrong device) device answers others a b a_then b_then alike of_a of_b
    steps_once (Enter device id) answers others a b a_then b_then none alike of_a of_b =
        at_once (Enter device id) device answers others a b a_then b_then alike of_a of_b
    steps_once (Tick device seconds) answers others a b a_then b_then none alike of_a of_b =
        at_once (Tick device seconds) device answers others a b a_then b_then alike of_a of_b
    steps_once (Power device) answers others a b a_then b_then none alike of_a of_b =
        at_once (Power device) device answers others a b a_then b_then alike of_a of_b
