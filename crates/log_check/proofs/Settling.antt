-- The steps that wait, and how the first of them are taken.
use Rattle.std.proofs.Common.{◌≡◌, ◌≢◌, ℕ, zero, suc, ◌+◌, ◌<◌, ◌≤◌, true, false, cond, List, [], ◌∷◌, ◌++◌, length, map, take, drop, get_or, add-one, ⊎_elim, refl, sym, ap, subst, ◌∙◌, arith}
use Rattle.std.specs.Prelude.{is_none, nat_lt}
use Rattle.std.proofs.lemmas.Bool.{cases_Bool}
use Rattle.std.proofs.lemmas.Bool.Decides.{nat_tests}
use Rattle.std.proofs.Math.Seq.{drop-cons}
use Rattle.std.proofs.lemmas.List.{drop_all, take_more}
use Rattle.paygo_spec.specs.declared.Event.{Event}
use Rattle.paygo_spec.specs.declared.Event.TheVariants.{Power, Key}
use Rattle.paygo_spec.specs.Machine.{State, IsEvent}
use Rattle.paygo_spec.specs.Words.{is_space}
use Rattle.ledger_spec.specs.Tables.{Tables}
use Rattle.run_spec.specs.declared.Mode.TheVariants as mode
use Rattle.run_spec.specs.DeviceLines.{presses}
use Rattle.run_spec.specs.Run.{Step, Say, Act}
use Rattle.log_check.specs.declared.states.States.{States}
use Rattle.log_check.specs.Fits.{Typed, Told, Unmarked, Fit, fit, is_silent, going_on, settled}
use Rattle.log_check.specs.Kept.{AreStates}
use Rattle.log_check.specs.Waiting.{AreEvents, acts_from, some_wait, IsSettled, SettledTo}

pub acts_at : (events : List Event) (at : ℕ) (d : Event) → at < length events
    → acts_from at events ≡ Act (get_or events at d) ∷ acts_from (at + 1) events
acts_at events at d within = ap (map Act) (drop-cons events at d within
    ∙ ap (λ n. get_or events at d ∷ drop n events) (sym (add-one at)))

pub acts_end : (events : List Event) (at : ℕ) → length events ≤ at → acts_from at events ≡ []
acts_end events at end = ap (map Act) (drop_all at events end)

pub event_at : (events : List Event) (at : ℕ) (d : Event) → at < length events → AreEvents events
    → IsEvent (get_or events at d)
event_at [] at d within are = absurd (omega (arith, within))
event_at (event ∷ events) zero d within are = are.0
event_at (event ∷ events) (suc at) d within are = event_at events at d (omega (arith, within)) are.1

module _ (next : List ℕ → ℕ → ℕ) (tables : Tables) where
  takes_first : (event : Event) (steps : List Step) (states : List State) → is_silent event states ≡ true
      → settled next (Act event ∷ steps) tables states ≡ settled next steps tables (going_on next is_none event states)
  takes_first event steps states silent = rw silent refl

  leaves_first : (event : Event) (steps : List Step) (states : List State) → is_silent event states ≡ false
      → settled next (Act event ∷ steps) tables states ≡ fit (Act event ∷ steps) tables states
  leaves_first event steps states answered = rw answered refl

  -- Of the steps that waited these are left, with these states.
  pub record Settling (old : List State) (waiting : List Step) (kept : States) (left : List Step) : Type 0 where
    pub states : List State
    pub are : AreStates kept states
    pub same : settled next waiting tables old ≡ settled next left tables states

  pub none_taken : (old : List State) (waiting : List Step) (kept : States) → AreStates kept old
      → Settling old waiting kept waiting
  none_taken old waiting kept are = record { states = old; are = are; same = refl }

  module _ (old : List State) (waiting : List Step) (kept : States) (left : List Step)
      (so_far : Settling old waiting kept left) where
    -- one step more is taken
    pub one_taken : (event : Event) (steps : List Step) (new : States) → left ≡ Act event ∷ steps
        → is_silent event so_far.states ≡ true
        → AreStates new (going_on next is_none event so_far.states) → Settling old waiting new steps
    one_taken event steps new is silent are = record {
      states = going_on next is_none event so_far.states;
      are = are;
      same = so_far.same ∙ ap (λ (l : List Step). settled next l tables so_far.states) is
          ∙ takes_first event steps so_far.states silent;
    }

    ends : left ≡ left → settled next left tables so_far.states ≡ fit left tables so_far.states
        → IsSettled left so_far.states → SettledTo next tables old waiting kept left
    ends same is quiet =
        let e : settled next waiting tables old ≡ fit left tables so_far.states = so_far.same ∙ is in
        record {
          tables_are = ap (λ (f : Fit). f.tables) e;
          left_are = ap (λ (f : Fit). f.waiting) e;
          states_are = subst (λ (f : Fit). AreStates kept f.states) (sym e) so_far.are;
          is_settled = subst (λ (f : Fit). IsSettled left f.states) (sym e) quiet;
        }

    -- the next step is answered
    pub stops : (event : Event) (steps : List Step) → left ≡ Act event ∷ steps → is_silent event so_far.states ≡ false
        → SettledTo next tables old waiting kept left
    stops event steps is answered =
        ends refl
        (ap (λ (l : List Step). settled next l tables so_far.states) is
        ∙ leaves_first event steps so_far.states answered
        ∙ ap (λ (l : List Step). fit l tables so_far.states) (sym is))
        (subst (λ (l : List Step). IsSettled l so_far.states) (sym is) answered)

    -- no step is left
    pub is_done : left ≡ [] → SettledTo next tables old waiting kept left
    is_done is =
        ends refl
        (ap (λ (l : List Step). settled next l tables so_far.states) is
        ∙ ap (λ (l : List Step). fit l tables so_far.states) (sym is))
        (subst (λ (l : List Step). IsSettled l so_far.states) (sym is) tt)

  pub settles_say : (text : List ℕ) (old : List State) (kept : States) → AreStates kept old
      → SettledTo next tables old (Say text ∷ []) kept (Say text ∷ [])
  settles_say text old kept are = record { tables_are = refl; left_are = refl; states_are = are; is_settled = tt }

-- the keys of two texts
presses_both : (xs ys : List ℕ) → presses (xs ++ ys) ≡ presses xs ++ presses ys
presses_both [] ys = refl
presses_both (x ∷ xs) ys =
    elim (is_space x) as (λ b. cond b (presses (xs ++ ys)) (Key x ∷ presses (xs ++ ys)) ≡ cond b (presses xs)
    (Key x ∷ presses xs) ++ presses ys) [
      | true ↦ presses_both xs ys
      | false ↦ ap (λ keys. Key x ∷ keys) (presses_both xs ys)
    ]

-- one key more of a text
pub presses_more : (text : List ℕ) (i : ℕ) (now new : List Event) → i < length text → now ≡ presses (take i text)
    → new ≡ now ++ presses (get_or text i 0 ∷ []) → new ≡ presses (take (i + 1) text)
presses_more text i now new within h k =
    k ∙ ap (λ (l : List Event). l ++ presses (get_or text i 0 ∷ [])) h
    ∙ sym (presses_both (take i text) (get_or text i 0 ∷ [])) ∙ ap presses (sym (take_more text i 0 within))

pub events_more : (xs : List Event) (y : Event) → AreEvents xs → IsEvent y → AreEvents (xs ++ y ∷ [])
events_more [] y h k = (k, tt)
events_more (x ∷ xs) y h k = (h.0, events_more xs y h.1 k)

-- a run of both takes lines of the ledger, and of the device
pub both_takes_ledger : mode.Both ≢ mode.Device
both_takes_ledger e = cc

pub both_takes_device : mode.Both ≢ mode.Serve
both_takes_device e = cc

-- what waits behind the first of these events
pub drop_acts : (events : List Event) (at : ℕ) (d : Event) → at < length events
    → drop 1 (acts_from at events) ≡ acts_from (at + 1) events
drop_acts events at d within = ap (drop 1) (acts_at events at d within)

pub first_acts : (events : List Event) (at : ℕ) (d : Event) → at < length events
    → acts_from at events ≡ Act (get_or events at d) ∷ drop 1 (acts_from at events)
first_acts events at d within = acts_at events at d within
    ∙ ap (λ (l : List Step). Act (get_or events at d) ∷ l) (sym (drop_acts events at d within))

-- whether one of these events waits
pub some_acts : (events : List Event) (at : ℕ) → some_wait (acts_from at events) ≡ nat_lt at (length events)
some_acts events at =
    ⊎_elim
    (λ (t : nat_lt at (length events) ≡ true).
    let within : at < length events = grind (arith, nat_tests) in
    ap some_wait (acts_at events at Power within) ∙ sym t)
    (λ (t : nat_lt at (length events) ≡ false).
    let end : length events ≤ at = grind (arith, nat_tests) in
    ap some_wait (acts_end events at end) ∙ sym t)
    (cases_Bool (nat_lt at (length events)))

-- a line that was typed, or told, has a mark
pub typed_marks : (line : List ℕ) → Typed line ≢ Unmarked
typed_marks line e = cc

pub told_marks : (text : List ℕ) → Told text ≢ Unmarked
told_marks text e = cc
