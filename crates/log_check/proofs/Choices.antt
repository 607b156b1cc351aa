-- A pair of a reply, or none, and a state stands in the list of choices exactly where the device's machine allows it.
use Rattle.std.proofs.Common.{◌≡◌, ℕ, Bool, true, false, List, [], ◌∷◌, map, Option, Some, None, refl, sym, ap, subst, ◌∙◌, inl, inr, ◌⊎◌, ⊎_elim}
use Rattle.std.specs.List.{Contains}
use Rattle.paygo_spec.specs.declared.Config.{Config}
use Rattle.paygo_spec.specs.declared.Event.{Event}
use Rattle.paygo_spec.specs.declared.Event.TheVariants.{Power, Make, Key, Tick, Show, Raise}
use Rattle.paygo_spec.specs.declared.Reply.{Reply}
use Rattle.paygo_spec.specs.declared.Reply.TheVariants as reply_is
use Rattle.paygo_spec.specs.Faults.{raised}
use Rattle.paygo_spec.specs.History.{Summary, fresh}
use Rattle.paygo_spec.specs.Layout.{first_position}
use Rattle.paygo_spec.specs.Pad.{Keys, no_keys}
use Rattle.paygo_spec.specs.Snapshot.{snapshot, bits_of}
use Rattle.paygo_spec.specs.Machine.{State, Stored, Blank, Broken, Journal, new_device, unit_for, reply_to_power, only, effect_of, keys_after, MayMake, Replies, Goes, GoesBy, ActsIf, Powers, Acts}
use Rattle.device_core.specs.Decided.{forgotten}
use Rattle.log_check.specs.After.{Outcome, with_reply, summed, summed_state, making, outcomes, powering, state_by, Choice, choice, choice_of, after_if, after}
use Rattle.log_check.proofs.Choosing.{LeadsTo, effect_may, may_effect}
use Rattle.log_check.proofs.Effects.{stays, effects_same}
use Rattle.log_check.proofs.Members.{one_in, later_in, cases_in, in_one, map_in, in_map}

fresh_is : (unit : ℕ) → snapshot unit fresh [] ≡ fresh
unfolding bits_of
fresh_is unit = refl

module _ (config : Config) where
  abbrev made : Stored
  made = Journal (new_device config)

  made_is : made ≡ summed made
  made_is = ap (λ (s : Summary). Journal (record { config = config; start = s; entries = []; at = first_position }))
      (sym (fresh_is (unit_for (new_device config))))

  abbrev make_up : Outcome
  make_up = with_reply (Some (reply_is.Up 0 0 false 0)) made

  abbrev make_down : Outcome
  make_down = with_reply (Some reply_is.Down) made

  abbrev make_cut : List Outcome
  make_cut = with_reply (Some reply_is.Down) Blank ∷ make_down ∷ []

  making_may : (outcome : Outcome) → Contains (making config) outcome → LeadsTo (MayMake config) outcome
  making_may outcome h =
      ⊎_elim (λ (e : make_up ≡ outcome). subst (LeadsTo (MayMake config)) e (made, (refl, refl), made_is))
      (λ (c : Contains make_cut outcome). ⊎_elim (λ e. subst (LeadsTo (MayMake config)) e (Blank, inl refl, refl))
      (λ (d : Contains (make_down ∷ []) outcome). subst (LeadsTo (MayMake config)) (in_one make_down outcome d)
      (made, inr refl, made_is))
      (cases_in _ outcome (make_down ∷ []) c))
      (cases_in make_up outcome make_cut h)

  make_fell : (new : Stored) → (new ≡ Blank) ⊎ (new ≡ made)
      → Contains (making config) (with_reply (Some reply_is.Down) (summed new))
  make_fell new (inl is) = later_in make_up _ make_cut
      (one_in _ _ (make_down ∷ []) (ap (λ (s : Stored). with_reply (Some reply_is.Down) (summed s)) (sym is)))
  make_fell new (inr is) = later_in make_up _ make_cut
      (later_in _ _ (make_down ∷ []) (one_in _ _ [] (ap (with_reply (Some reply_is.Down)) (made_is
      ∙ ap summed (sym is)))))

  make_answered : (reply : Option Reply) (new : Stored) → reply ≡ Some (reply_is.Up 0 0 false 0) → new ≡ made
      → Contains (making config) (with_reply reply (summed new))
  make_answered reply new says is = one_in make_up _ make_cut
      (ap (with_reply (Some (reply_is.Up 0 0 false 0))) (made_is ∙ ap summed (sym is))
      ∙ ap (λ (r : Option Reply). with_reply r (summed new)) (sym says))

  may_making : (reply : Option Reply) (new : Stored) → MayMake config reply new
      → Contains (making config) (with_reply reply (summed new))
  may_making (Some reply_is.Down) new h = make_fell new h
  may_making reply new h = make_answered reply new h.0 h.1

-- a device that answers one reply, and stays as it is
module _ (stored : Stored) (answer : Option Reply) (still : stored ≡ summed stored) where
  abbrev Only : Option Reply → Stored → Type 0
  Only reply new = (reply ≡ answer) × (new ≡ stored)

  only_may : (outcome : Outcome) → Contains (with_reply answer stored ∷ []) outcome → LeadsTo Only outcome
  only_may outcome h = subst (LeadsTo Only) (in_one (with_reply answer stored) outcome h) (stored, (refl, refl), still)

  may_only : (reply : Option Reply) (new : Stored) → Only reply new
      → Contains (with_reply answer stored ∷ []) (with_reply reply (summed new))
  may_only reply new h = one_in _ _ [] (ap (with_reply answer) (still ∙ ap summed (sym h.1))
      ∙ ap (λ (r : Option Reply). with_reply r (summed new)) (sym h.0))

outcomes_may : (next : List ℕ → ℕ → ℕ) (stored : Stored) (keys : Keys) (event : Event) (outcome : Outcome)
    → Contains (outcomes next (summed stored) keys event) outcome → LeadsTo (Replies next stored keys event) outcome
outcomes_may next Blank keys (Make config) outcome h = making_may config outcome h
outcomes_may next Blank keys event outcome h = only_may Blank (only event reply_is.Unmade) refl outcome h
outcomes_may next (Broken word) keys event outcome h = only_may (Broken word) (only event (reply_is.Damaged word)) refl
    outcome h
outcomes_may next (Journal history) keys event outcome h =
    effect_may history (effect_of next history keys event) outcome (stays history next keys event)
    (subst (λ (l : List Outcome). Contains l outcome) (effects_same (forgotten history) next history keys event) h)

may_outcomes : (next : List ℕ → ℕ → ℕ) (stored : Stored) (keys : Keys) (event : Event) (reply : Option Reply)
    (new : Stored) → Replies next stored keys event reply new
    → Contains (outcomes next (summed stored) keys event) (with_reply reply (summed new))
may_outcomes next Blank keys (Make config) reply new h = may_making config reply new h
may_outcomes next Blank keys event reply new h = may_only Blank (only event reply_is.Unmade) refl reply new h
may_outcomes next (Broken word) keys event reply new h = may_only (Broken word) (only event (reply_is.Damaged word))
    refl reply new h
may_outcomes next (Journal history) keys event reply new h =
    subst (λ (l : List Outcome). Contains l (with_reply reply (summed new)))
    (sym (effects_same (forgotten history) next history keys event))
    (may_effect history (effect_of next history keys event) reply new (stays history next keys event) h)

-- what the pad holds then doesn't hang on the history
keys_same : (stored : Stored) (event : Event) (keys : Keys)
    → keys_after (summed stored) event keys ≡ keys_after stored event keys
keys_same Blank event keys = refl
keys_same (Broken word) event keys = refl
keys_same (Journal history) Power keys = refl
keys_same (Journal history) (Make config) keys = refl
keys_same (Journal history) (Key key) keys = refl
keys_same (Journal history) (Tick seconds) keys = refl
keys_same (Journal history) Show keys = refl
keys_same (Journal history) Raise keys = refl

power_same : (stored : Stored) → reply_to_power (summed stored) ≡ reply_to_power stored
power_same Blank = refl
power_same (Broken word) = refl
power_same (Journal history) = refl

abbrev state_with : Bool → Stored → Keys → ℕ → State
state_with on stored keys faults = record { on = on; stored = stored; keys = keys; faults = faults }

state_is : (new : State) (on : Bool) (keys : Keys) (faults : ℕ) → new.on ≡ on → new.keys ≡ keys → new.faults ≡ faults
    → new ≡ state_with on new.stored keys faults
state_is new on keys faults a b c =
    ap (λ (x : Bool). state_with x new.stored new.keys new.faults) a
    ∙ ap (λ (x : Keys). state_with on new.stored x new.faults) b ∙ ap (λ (x : ℕ). state_with on new.stored keys x) c

-- a device goes on as the outcome says, and is that state
goes_is : (reply : Option Reply) (keys : Keys) (old new : State) → GoesBy reply keys old new
    → new ≡ state_by reply new.stored keys old.faults
goes_is (Some reply_is.Down) keys old new h = state_is new false no_keys (raised old.faults 1) h.off h.cleared h.rose
goes_is reply keys old new h = state_is new true keys old.faults h.on_is h.keys_are h.faults_are

is_goes : (reply : Option Reply) (stored : Stored) (keys : Keys) (old : State)
    → GoesBy reply keys old (state_by reply stored keys old.faults)
is_goes (Some reply_is.Down) stored keys old = record { off = refl; cleared = refl; rose = refl }
is_goes reply stored keys old = record { on_is = refl; keys_are = refl; faults_are = refl }

summed_by : (reply : Option Reply) (stored : Stored) (keys : Keys) (faults : ℕ)
    → state_by reply (summed stored) keys faults ≡ summed_state (state_by reply stored keys faults)
summed_by (Some reply_is.Down) stored keys faults = refl
summed_by reply stored keys faults = refl

stored_by : (reply : Option Reply) (stored : Stored) (keys : Keys) (faults : ℕ)
    → (state_by reply stored keys faults).stored ≡ stored
stored_by (Some reply_is.Down) stored keys faults = refl
stored_by reply stored keys faults = refl

-- The machine allows this reply, or none, and goes on to what is this state with the history forgotten.
abbrev pub Allows : (Option Reply → State → Type 0) → Choice → Type 0
Allows acts c = (new : State) × acts c.reply new × (c.state ≡ summed_state new)

-- outcomes that are just what may be replied are, as choices, what the machine allows
module _ (meets : Option Reply → Stored → Type 0) (list : List Outcome) (keys : Keys) (old : State) where
  abbrev Goes_on : Option Reply → State → Type 0
  Goes_on reply new = meets reply new.stored × GoesBy reply keys old new

  choices_may : ((outcome : Outcome) → Contains list outcome → LeadsTo meets outcome) → (c : Choice)
      → Contains (map (choice_of keys old.faults) list) c → Allows Goes_on c
  choices_may may c h =
      let m = in_map (choice_of keys old.faults) list c h in
      let o = m.0 in
      let l = may o m.1 in
      let new = state_by o.reply l.0 keys old.faults in
      subst (Allows Goes_on) m.2 (
        new,
        (subst (meets o.reply) (sym (stored_by o.reply l.0 keys old.faults)) l.1, is_goes o.reply l.0 keys old),
        ap (λ (s : Stored). state_by o.reply s keys old.faults) l.2 ∙ summed_by o.reply l.0 keys old.faults,
      )

  may_choices : ((reply : Option Reply) (new : Stored) → meets reply new
      → Contains list (with_reply reply (summed new))) → (reply : Option Reply) (new : State) → Goes_on reply new
      → Contains (map (choice_of keys old.faults) list) (choice reply (summed_state new))
  may_choices may reply new h =
      let same : state_by reply (summed new.stored) keys old.faults ≡ summed_state new = summed_by reply new.stored keys
      old.faults ∙ ap summed_state (sym (goes_is reply keys old new h.1)) in
      subst (Contains (map (choice_of keys old.faults) list)) (ap (choice reply) same)
      (map_in (choice_of keys old.faults) list (with_reply reply (summed new.stored)) (may reply new.stored h.0))

module _ (next : List ℕ → ℕ → ℕ) (event : Event) (old : State) where
  abbrev MayIf : Bool → Option Reply → State → Type 0
  MayIf on reply new = ActsIf on next event reply old new

  still_is : (new : State) → old.on ≡ false → new.stored ≡ old.stored → Goes false old.keys old new → new ≡ old
  still_is new off stored goes =
      state_is new false old.keys old.faults goes.on_is goes.keys_are goes.faults_are
      ∙ ap (λ (s : Stored). state_with false s old.keys old.faults) stored
      ∙ ap (λ (b : Bool). state_with b old.stored old.keys old.faults) (sym off)

  abbrev meets : Option Reply → Stored → Type 0
  meets = Replies next old.stored old.keys event

  abbrev listed : List Outcome
  listed = outcomes next (summed old.stored) old.keys event

  if_may : (on : Bool) → old.on ≡ on → (c : Choice) → Contains (after_if on next (summed_state old) event) c
      → Allows (MayIf on) c
  if_may true e c h =
      choices_may meets listed (keys_after old.stored event old.keys) old (outcomes_may next old.stored old.keys event)
      c
      (subst (λ (k : Keys). Contains (map (choice_of k old.faults) listed) c) (keys_same old.stored event old.keys) h)
  if_may false e c h = subst (Allows (MayIf false)) (in_one (choice None (summed_state old)) c h)
      (old, (refl, refl, record { on_is = e; keys_are = refl; faults_are = refl }), refl)

  may_if : (on : Bool) → old.on ≡ on → (reply : Option Reply) (new : State) → MayIf on reply new
      → Contains (after_if on next (summed_state old) event) (choice reply (summed_state new))
  may_if true e reply new h =
      subst (λ (k : Keys). Contains (map (choice_of k old.faults) listed) (choice reply (summed_state new)))
      (sym (keys_same old.stored event old.keys))
      (may_choices meets listed (keys_after old.stored event old.keys) old (may_outcomes next old.stored old.keys event)
      reply new h)
  may_if false e reply new h =
      one_in _ _ [] (ap (λ (s : State). choice None (summed_state s)) (sym (still_is new e h.1 h.2))
      ∙ ap (λ (r : Option Reply). choice r (summed_state new)) (sym h.0))

module _ (old : State) where
  abbrev MeetsPower : Option Reply → Stored → Type 0
  MeetsPower (Some reply_is.Down) stored = stored ≡ old.stored
  MeetsPower reply stored = (reply ≡ Some (reply_to_power old.stored)) × (stored ≡ old.stored)

  abbrev Came : Option Reply → State → Type 0
  Came reply new = (new.stored ≡ old.stored) × Powers reply old new

  power_fair : (stored : Stored) → reply_to_power stored ≡ reply_is.Down → ⊥
  power_fair Blank e = cc
  power_fair (Broken word) e = cc
  power_fair (Journal history) e = cc

  fair_power : (reply : Reply) → (reply ≡ reply_is.Down → ⊥) → reply ≡ reply_to_power old.stored
      → MeetsPower (Some reply) old.stored
  fair_power reply_is.Down fair is = absurd (fair refl)
  fair_power _ fair is = (ap Some is, refl)

  abbrev power_up : Outcome
  power_up = with_reply (Some (reply_to_power (summed old.stored))) (summed old.stored)

  abbrev power_cut : Outcome
  power_cut = with_reply (Some reply_is.Down) (summed old.stored)

  powering_may : (outcome : Outcome) → Contains (powering (summed old.stored)) outcome → LeadsTo MeetsPower outcome
  powering_may outcome h =
      ⊎_elim
      (λ (e : power_up ≡ outcome). subst (LeadsTo MeetsPower)
      (ap (λ (r : Reply). with_reply (Some r) (summed old.stored)) (sym (power_same old.stored)) ∙ e)
      (old.stored, fair_power (reply_to_power old.stored) (power_fair old.stored) refl, refl))
      (λ (c : Contains (power_cut ∷ []) outcome). subst (LeadsTo MeetsPower) (in_one power_cut outcome c)
      (old.stored, refl, refl))
      (cases_in power_up outcome (power_cut ∷ []) h)

  power_answered : (reply : Option Reply) (new : Stored) → reply ≡ Some (reply_to_power old.stored) → new ≡ old.stored
      → Contains (powering (summed old.stored)) (with_reply reply (summed new))
  power_answered reply new says is =
      one_in power_up _ (power_cut ∷ []) (ap (λ (r : Reply). with_reply (Some r) (summed old.stored))
      (power_same old.stored) ∙ ap (λ (r : Option Reply). with_reply r (summed old.stored)) (sym says)
      ∙ ap (λ (s : Stored). with_reply reply (summed s)) (sym is))

  may_powering : (reply : Option Reply) (new : Stored) → MeetsPower reply new
      → Contains (powering (summed old.stored)) (with_reply reply (summed new))
  may_powering (Some reply_is.Down) new h = later_in power_up _ (power_cut ∷ [])
      (one_in power_cut _ [] (ap (λ (s : Stored). with_reply (Some reply_is.Down) (summed s)) (sym h)))
  may_powering reply new h = power_answered reply new h.0 h.1

  came : (reply : Option Reply) (new : State) → MeetsPower reply new.stored × GoesBy reply no_keys old new
      → Came reply new
  came (Some reply_is.Down) new h = (h.0, h.1)
  came reply new h = (h.0.1, (h.0.0, h.1))

  of_came : (reply : Option Reply) (new : State) → Came reply new → MeetsPower reply new.stored
      × GoesBy reply no_keys old new
  of_came (Some reply_is.Down) new h = (h.0, h.1)
  of_came reply new h = ((h.1.0, h.0), h.1.1)

  power_may : (c : Choice) → Contains (map (choice_of no_keys old.faults) (powering (summed old.stored))) c
      → Allows Came c
  power_may c h =
      let a = choices_may MeetsPower (powering (summed old.stored)) no_keys old powering_may c h in
      (a.0, came c.reply a.0 a.1, a.2)

  may_power : (reply : Option Reply) (new : State) → Came reply new
      → Contains (map (choice_of no_keys old.faults) (powering (summed old.stored))) (choice reply (summed_state new))
  may_power reply new h = may_choices MeetsPower (powering (summed old.stored)) no_keys old may_powering reply new
      (of_came reply new h)

-- every choice is allowed
pub after_may : (next : List ℕ → ℕ → ℕ) (event : Event) (old : State) (c : Choice)
    → Contains (after next (summed_state old) event) c → Allows (λ reply new. Acts next event reply old new) c
after_may next Power old c h = power_may old c h
after_may next (Make config) old c h = if_may next (Make config) old old.on refl c h
after_may next (Key key) old c h = if_may next (Key key) old old.on refl c h
after_may next (Tick seconds) old c h = if_may next (Tick seconds) old old.on refl c h
after_may next Show old c h = if_may next Show old old.on refl c h
after_may next Raise old c h = if_may next Raise old old.on refl c h

-- and what is allowed is a choice
pub may_after : (next : List ℕ → ℕ → ℕ) (event : Event) (old : State) (reply : Option Reply) (new : State)
    → Acts next event reply old new → Contains (after next (summed_state old) event) (choice reply (summed_state new))
may_after next Power old reply new h = may_power old reply new h
may_after next (Make config) old reply new h = may_if next (Make config) old old.on refl reply new h
may_after next (Key key) old reply new h = may_if next (Key key) old old.on refl reply new h
may_after next (Tick seconds) old reply new h = may_if next (Tick seconds) old old.on refl reply new h
may_after next Show old reply new h = may_if next Show old old.on refl reply new h
may_after next Raise old reply new h = may_if next Raise old old.on refl reply new h
