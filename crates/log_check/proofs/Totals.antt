-- A machine always goes on: each step has some answer.
use Rattle.std.proofs.Common.{◌≡◌, ◌≤◌, length, ℕ, Bool, true, false, ◌==◌, List, [], ◌∷◌, Option, Some, None, refl, ⊎_elim, arith}
use Rattle.std.proofs.lemmas.List.{length-map}
use Rattle.std.specs.Prelude.{if◌then◌else◌}
use Rattle.std.specs.List.{Contains}
use Rattle.std.proofs.lemmas.Bool.{cases_Bool}
use Rattle.paygo_spec.specs.declared.Event.{Event}
use Rattle.paygo_spec.specs.declared.Event.TheVariants.{Power, Make, Key, Tick, Show, Raise}
use Rattle.paygo_spec.specs.declared.Reply.{Reply}
use Rattle.paygo_spec.specs.declared.Reply.TheVariants as reply_is
use Rattle.paygo_spec.specs.Layout.{room, last_bank}
use Rattle.paygo_spec.specs.Pad.{Keys, no_keys}
use Rattle.paygo_spec.specs.Machine.{State, Acts, IsEvent, Stored, Blank, Broken, Journal, History, Effect, Answers, Adds, Raises, effect_of, keys_after, new_device, reply_to_power}
use Rattle.ledger_spec.specs.Ledger.{done}
use Rattle.run_spec.specs.Run.{Step, Say, Do, Act, Answer, Said, Did, Told as ToldOf, World, MayAnswer, Run}
use Rattle.log_check.specs.After.{with_reply, by_effect, outcomes, choice_of, summed_state, after_if, after}
use Rattle.log_check.proofs.Choices.{after_may}
use Rattle.log_check.proofs.Members.{first_in, map_in}
use Rattle.log_check.proofs.Steps.{IsStep, AreSteps}

-- A list has an element.
abbrev pub Some_in : {A : Type 0} → List A → Type 0
Some_in {A} list = (x : A) × Contains list x

begins : {A : Type 0} (x : A) (xs : List A) → Some_in (x ∷ xs)
begins x xs = (x, first_in x xs)

either_some : {A : Type 0} (b : Bool) (x : A) (xs : List A) (y : A) (ys : List A)
    → Some_in (if b then x ∷ xs else y ∷ ys)
either_some true x xs y ys = begins x xs
either_some false x xs y ys = begins y ys

effect_some : (history : History) (effect : Effect) → Some_in (by_effect history effect)
effect_some history (Answers reply entries) = begins _ []
effect_some history (Adds entry) = either_some (room history.at == 0) _ [] _ _
effect_some history Raises = either_some (history.at.number == last_bank) _ [] _ _

outcome_some : (next : List ℕ → ℕ → ℕ) (stored : Stored) (keys : Keys) (event : Event)
    → Some_in (outcomes next stored keys event)
outcome_some next Blank keys (Make config) = (
  with_reply (Some (reply_is.Up 0 0 false 0)) (Journal (new_device config)),
  (0, omega arith, refl),
)
outcome_some next Blank keys event = begins _ []
outcome_some next (Broken word) keys event = begins _ []
outcome_some next (Journal history) keys event = effect_some history (effect_of next history keys event)

if_some : (on : Bool) (next : List ℕ → ℕ → ℕ) (state : State) (event : Event) → Some_in (after_if on next state event)
if_some true next state event =
    let o = outcome_some next state.stored state.keys event in
    let make = choice_of (keys_after state.stored event state.keys) state.faults in
    (make o.0, map_in make (outcomes next state.stored state.keys event) o.0 o.1)
if_some false next state event = begins _ []

after_some : (next : List ℕ → ℕ → ℕ) (state : State) (event : Event) → Some_in (after next state event)
after_some next state Power = (
  choice_of no_keys state.faults
      (with_reply (Some (reply_to_power state.stored)) state.stored),
  (0, omega arith, refl),
)
after_some next state (Make config) = if_some state.on next state (Make config)
after_some next state (Key key) = if_some state.on next state (Key key)
after_some next state (Tick seconds) = if_some state.on next state (Tick seconds)
after_some next state Show = if_some state.on next state Show
after_some next state Raise = if_some state.on next state Raise

-- some answer to a step
abbrev Goes : (List ℕ → ℕ → ℕ) → Step → World → Type 0
Goes next step old = (answer : Option Answer) × (new : World) × MayAnswer next step answer old new

event_goes : (next : List ℕ → ℕ → ℕ) (event : Event) (old : World) → IsEvent event
    → (reply : Option Reply) (new : State) → Acts next event reply old.device new → Goes next (Act event) old
event_goes next event old valid None new acts =
    (None, record { tables = old.tables; device = new }, ((valid, acts), refl))
event_goes next event old valid (Some reply) new acts =
    (Some (ToldOf reply), record { tables = old.tables; device = new }, ((valid, acts), refl))

step_goes : (next : List ℕ → ℕ → ℕ) (step : Step) (old : World) → IsStep step → Goes next step old
step_goes next (Say text) old valid = (Some (Said text), old, (refl, refl))
step_goes next (Do command) old valid = (
  Some (Did (done next old.tables command).answer),
  record
      { tables = (done next old.tables command).tables; device = old.device },
  ((valid, refl, refl), refl),
)
step_goes next (Act event) old valid =
    let c = after_some next (summed_state old.device) event in
    let m = after_may next event old.device c.0 c.1 in
    event_goes next event old valid c.0.reply m.0 m.1

pub steps_go : (next : List ℕ → ℕ → ℕ) (steps : List Step) (old : World) → AreSteps steps
    → (answers : List (Option Answer)) × (now : World) × Run next old steps answers now
steps_go next [] old valid = ([], old, refl)
steps_go next (step ∷ steps) old valid =
    let one = step_goes next step old valid.0 in
    let rest = steps_go next steps one.1 valid.1 in
    (one.0 ∷ rest.0, rest.1, (one.1, one.2, rest.2))

-- at most five choices
effect_five : (history : History) (effect : Effect) → length (by_effect history effect) ≤ 5
effect_five history (Answers reply entries) = omega arith
effect_five history (Adds entry) =
    ⊎_elim (λ (t : (room history.at == 0) ≡ true). rw t (omega arith))
    (λ (t : (room history.at == 0) ≡ false). rw t
    (⊎_elim (λ (u : (history.at.place == 512) ≡ true). rw u (omega arith))
    (λ (u : (history.at.place == 512) ≡ false). rw u (omega arith)) (cases_Bool (history.at.place == 512))))
    (cases_Bool (room history.at == 0))
effect_five history Raises = ⊎_elim (λ (t : (history.at.number == last_bank) ≡ true). rw t (omega arith))
    (λ (t : (history.at.number == last_bank) ≡ false). rw t (omega arith)) (cases_Bool (history.at.number == last_bank))

outcome_five : (next : List ℕ → ℕ → ℕ) (stored : Stored) (keys : Keys) (event : Event)
    → length (outcomes next stored keys event) ≤ 5
outcome_five next Blank keys (Make config) = omega arith
outcome_five next Blank keys event = omega arith
outcome_five next (Broken word) keys event = omega arith
outcome_five next (Journal history) keys event = effect_five history (effect_of next history keys event)

if_five : (on : Bool) (next : List ℕ → ℕ → ℕ) (state : State) (event : Event)
    → length (after_if on next state event) ≤ 5
if_five true next state event = omega (
  arith,
  length-map (outcomes next state.stored state.keys event)
      (choice_of (keys_after state.stored event state.keys) state.faults),
  outcome_five next state.stored state.keys
      event,
)
if_five false next state event = omega arith

pub at_most_five : (next : List ℕ → ℕ → ℕ) (state : State) (event : Event) → length (after next state event) ≤ 5
at_most_five next state Power = omega arith
at_most_five next state (Make config) = if_five state.on next state (Make config)
at_most_five next state (Key key) = if_five state.on next state (Key key)
at_most_five next state (Tick seconds) = if_five state.on next state (Tick seconds)
at_most_five next state Show = if_five state.on next state Show
at_most_five next state Raise = if_five state.on next state Raise
