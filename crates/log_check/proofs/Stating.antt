-- What the check keeps of the states goes on as the states do.
use Rattle.std.proofs.Common.{◌≡◌, ℕ, suc, Bool, true, false, not, List, [], ◌∷◌, length, map, refl, sym, ap, subst, ◌∙◌}
use Rattle.std.specs.Prelude.{is_none}
use Rattle.paygo_spec.specs.declared.Event.{Event}
use Rattle.paygo_spec.specs.Faults.{raised}
use Rattle.paygo_spec.specs.Machine.{State, Stored, Blank, starting, keys_after}
use Rattle.paygo_spec.specs.Pad.{Keys, kept_of, no_keys}
use Rattle.log_check.specs.declared.standing.Standing.TheVariants as standing_is
use Rattle.log_check.specs.declared.states.States.{States}
use Rattle.log_check.specs.Fits.{says, is_silent, going_on}
use Rattle.log_check.specs.Keeping.{storeds_of, put_storeds, AreOnce, AreAlike, first_of, first_is_made, state_as, states_as, told_from, is_cut}
use Rattle.log_check.specs.Kept.{AreStates}
use Rattle.log_check.proofs.Gathering.{once_all}
use Rattle.log_check.proofs.Going.{told_as, told_going, like_each, off_going, on_going}
use Rattle.log_check.proofs.MadeKinds.{alike_from}

not_on : (kept : States) → kept.on ≡ false → kept.on ≡ true → ⊥
not_on kept e f = let g : false ≡ true = sym e ∙ f in cc

-- the states of a device before its first event
pub first_states : (kept : States) → kept.on ≡ false → kept.pad ≡ kept_of no_keys
    → kept.standings.items ≡ standing_is.Blank ∷ [] → AreStates kept (starting Blank 0 ∷ [])
first_states kept off pad items =
    let list : storeds_of kept.standings.items ≡ Blank ∷ [] = ap storeds_of items in
    record {
      keys = no_keys;
      faults = 0;
      pad = pad;
      states_are = ap (λ (o : Bool). states_as o no_keys 0 (Blank ∷ [])) (sym off)
          ∙ ap (states_as kept.on no_keys 0) (sym list);
      once = subst AreOnce (sym list) refl;
      alike = λ on. absurd (not_on kept off on);
    }

length_map : {A B : Type 0} (f : A → B) (xs : List A) → length (map f xs) ≡ length xs
length_map f [] = refl
length_map f (x ∷ xs) = ap suc (length_map f xs)

-- there are as many states as standings
pub as_many : (kept : States) (states : List State) → AreStates kept states
    → length kept.standings.items ≡ length states
as_many kept states are =
    sym (length_map {B = Stored} _ kept.standings.items)
    ∙ sym (length_map (state_as kept.on are.keys are.faults) (storeds_of kept.standings.items))
    ∙ ap length (sym are.states_are)

-- no state is left
pub none_left : (kept : States) (states : List State) → kept.standings.items ≡ [] → AreStates kept states
    → (keys : Keys) → kept.pad ≡ kept_of keys → AreStates kept []
none_left kept states none are keys pad =
    let list : storeds_of kept.standings.items ≡ [] = ap storeds_of none in
    record {
      keys = keys;
      faults = 0;
      pad = pad;
      states_are = ap (states_as kept.on keys 0) (sym list);
      once = subst AreOnce (sym list) refl;
      alike = λ on. subst AreAlike (sym list) tt;
    }

module _ (next : List ℕ → ℕ → ℕ) (kept : States) (event : Event) (states : List State) (are : AreStates kept states)
  where
    abbrev storeds : List Stored
    storeds = storeds_of kept.standings.items

    quiet_is : (b : Bool) → is_silent event states ≡ b
        → is_silent event (states_as kept.on are.keys are.faults storeds) ≡ b
    quiet_is b h = ap (is_silent event) (sym are.states_are) ∙ h

    module _ (new : States) (text : List ℕ) (answered : is_silent event states ≡ false)
        (behind : (keys : Keys) → kept.pad ≡ kept_of keys
        → storeds_of new.standings.items ≡ put_storeds [] (told_from next text event keys storeds)) where
      abbrev told : List Stored
      told = put_storeds [] (told_from next text event are.keys storeds)

      told_are : going_on next (says text) event states ≡ map
          (told_as (not (is_cut text)) (keys_after (first_of storeds) event are.keys) are.faults) told
      told_are = ap (going_on next (says text) event) are.states_are
          ∙ told_going next text event kept.on are.keys are.faults storeds (quiet_is false answered) are.alike

      told_once : AreOnce (storeds_of new.standings.items)
      told_once = subst AreOnce (sym (behind are.keys are.pad))
          (once_all [] (told_from next text event are.keys storeds) refl)

      -- the power was cut
      pub fell : is_cut text ≡ true → new.on ≡ false → new.pad ≡ kept_of no_keys
          → AreStates new (going_on next (says text) event states)
      fell cut off pad = record {
        keys = no_keys;
        faults = raised are.faults 1;
        pad = pad;
        states_are =
            told_are ∙ ap (λ (b : Bool). map (told_as (not b) (keys_after (first_of storeds) event are.keys) are.faults)
            told) cut
            ∙ ap (states_as false no_keys (raised are.faults 1)) (sym (behind are.keys are.pad))
            ∙ ap (λ (o : Bool). states_as o no_keys (raised are.faults 1) (storeds_of new.standings.items)) (sym off);
        once = told_once;
        alike = λ on. absurd (not_on new off on);
      }

      -- another answer was told
      pub stayed : is_cut text ≡ false → new.on ≡ true
          → ((keys : Keys) → kept.pad ≡ kept_of keys → new.pad ≡ kept_of (keys_after (first_of storeds) event keys))
          → AreStates new (going_on next (says text) event states)
      stayed uncut on pad =
          let keys = keys_after (first_of storeds) event are.keys in
          record {
            keys = keys;
            faults = are.faults;
            pad = pad are.keys are.pad;
            states_are =
                told_are ∙ ap (λ (b : Bool). map (told_as (not b) keys are.faults) told) uncut
                ∙ ap (states_as true keys are.faults) (sym (behind are.keys are.pad))
                ∙ ap (λ (o : Bool). states_as o keys are.faults (storeds_of new.standings.items)) (sym on);
            once = told_once;
            alike = λ is_on. subst AreAlike (sym (behind are.keys are.pad))
                (alike_from text uncut next event are.keys (first_is_made storeds) kept.standings.items
                (like_each event kept.on are.keys are.faults storeds (quiet_is false answered) are.alike));
          }

    -- a device that is off stays as it is
    pub passed_off : is_silent event states ≡ true → kept.on ≡ false
        → AreStates kept (going_on next is_none event states)
    passed_off silent off =
        let as_off : states ≡ states_as false are.keys are.faults storeds = are.states_are
        ∙ ap (λ (o : Bool). states_as o are.keys are.faults storeds) off in
        record {
          keys = are.keys;
          faults = are.faults;
          pad = are.pad;
          states_are =
              ap (going_on next is_none event) as_off
              ∙ off_going next are.keys are.faults event storeds (ap (is_silent event) (sym as_off) ∙ silent) are.once
              ∙ ap (λ (o : Bool). states_as o are.keys are.faults storeds) (sym off);
          once = are.once;
          alike = are.alike;
        }

    -- a device that is on hears a key
    pub passed_on : (new : States) → is_silent event states ≡ true → kept.on ≡ true → new.on ≡ true
        → new.standings.items ≡ kept.standings.items
        → ((keys : Keys) → kept.pad ≡ kept_of keys → new.pad ≡ kept_of (keys_after (first_of storeds) event keys))
        → AreStates new (going_on next is_none event states)
    passed_on new silent on still same pad =
        let as_on : states ≡ states_as true are.keys are.faults storeds = are.states_are
        ∙ ap (λ (o : Bool). states_as o are.keys are.faults storeds) on in
        let keys = keys_after (first_of storeds) event are.keys in
        let list : storeds_of new.standings.items ≡ storeds = ap storeds_of same in
        record {
          keys = keys;
          faults = are.faults;
          pad = pad are.keys are.pad;
          states_are =
              ap (going_on next is_none event) as_on
              ∙ on_going next are.keys are.faults event storeds (ap (is_silent event) (sym as_on) ∙ silent)
              (are.alike on)
              are.once
              ∙ ap (states_as true keys are.faults) (sym list)
              ∙ ap (λ (o : Bool). states_as o keys are.faults (storeds_of new.standings.items)) (sym still);
          once = subst AreOnce (sym list) are.once;
          alike = λ is_on. subst AreAlike (sym list) (are.alike on);
        }

-- whether an event is silent, by the first state
silent_first : (event : Event) (kept : States) (states : List State) (stored : Stored) (more : List Stored)
    → (are : AreStates kept states) → storeds_of kept.standings.items ≡ stored ∷ more
    → is_silent event states ≡ is_silent event (state_as kept.on are.keys are.faults stored ∷ [])
silent_first event kept states stored more are list =
    ap (is_silent event) (are.states_are ∙ ap (states_as kept.on are.keys are.faults) list)
