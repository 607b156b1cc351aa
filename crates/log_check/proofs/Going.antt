-- What the check keeps of the states goes on by an event as the states do.
use Rattle.std.proofs.Common.{◌≡◌, ℕ, Bool, true, false, not, ◌==◌, ◌&&◌, List, [], ◌∷◌, map, Option, Some, refl, sym, ap, ◌∙◌, ⊎_elim}
use Rattle.std.specs.Prelude.{codes, is_none, if◌then◌else◌}
use Rattle.std.specs.List.{flat_map}
use Rattle.std.proofs.lemmas.Bool.{cases_Bool}
use Rattle.std.proofs.lemmas.Slice.Eq.{bytes_eq-Decides}
use Rattle.paygo_spec.specs.declared.Event.{Event}
use Rattle.paygo_spec.specs.declared.Event.TheVariants.{Power, Make, Key, Tick, Show, Raise}
use Rattle.paygo_spec.specs.declared.Reply.{Reply}
use Rattle.paygo_spec.specs.declared.Reply.TheVariants as reply_is
use Rattle.paygo_spec.specs.Faults.{raised}
use Rattle.paygo_spec.specs.Machine.{State, Stored, Blank, Broken, Journal, keys_after}
use Rattle.paygo_spec.specs.Pad.{Keys, no_keys}
use Rattle.paygo_spec.specs.Text.{text_of}
use Rattle.log_check.specs.After.{Outcome, choice_of, state_by, powering, outcomes, after}
use Rattle.log_check.specs.Fits.{says, has_reply, is_silent, going_on}
use Rattle.log_check.specs.Keeping.{put_storeds, is_made, first_of, first_is_made, AllMade, AreAlike, state_as, states_as, outcomes_at, told_by, told_from, is_cut}
use Rattle.log_check.proofs.Alike.{down_text, either}
use Rattle.log_check.proofs.Steps.{says_is}
use Rattle.log_check.proofs.Gathering.{passing, Each, goes_as}
use Rattle.log_check.proofs.MadeKinds.{Like}
use Rattle.log_check.proofs.Replying.{on_after}

-- The state behind an answer: on, with these keys; or off, with a cleared pad and one fault more.
abbrev pub told_as : Bool → Keys → ℕ → Stored → State
told_as on keys faults = state_as on (if on then keys else no_keys) (if on then faults else raised faults 1)

by_reply : (reply : Reply) (stored : Stored) (keys : Keys) (faults : ℕ)
    → state_by (Some reply) stored keys faults ≡ told_as (on_after (Some reply) true) keys faults stored
by_reply reply_is.Down stored keys faults = refl
by_reply _ stored keys faults = refl

cut_is : (reply : Reply) (text : List ℕ) → text_of reply ≡ text → on_after (Some reply) true ≡ not (is_cut text)
cut_is reply text e =
    ⊎_elim
    (λ (t : is_cut text ≡ true). down_text reply true (e ∙ (bytes_eq-Decides text (codes "down")).0 t) ∙ ap not (sym t))
    (λ (t : is_cut text ≡ false).
    ⊎_elim
    (λ (d : text_of reply ≡ codes "down").
    let u : is_cut text ≡ true = (bytes_eq-Decides text (codes "down")).1 (sym e ∙ d) in
    let v : true ≡ false = sym u ∙ t in absurd cc)
    (λ (u : (on : Bool) → on_after (Some reply) on ≡ true). u true ∙ ap not (sym t))
    (either reply))
    (cases_Bool (is_cut text))

state_told : (text : List ℕ) (keys : Keys) (faults : ℕ) (reply : Option Reply) (stored : Stored)
    → says text reply ≡ true
    → state_by reply stored keys faults ≡ told_as (not (is_cut text)) keys faults stored
state_told text keys faults reply stored t =
    let s = says_is text reply t in
    ap (λ (r : Option Reply). state_by r stored keys faults) s.1 ∙ by_reply s.0 stored keys faults
    ∙ ap (λ (on : Bool). told_as on keys faults stored) (cut_is s.0 text s.2)

told_states : (text : List ℕ) (keys : Keys) (faults : ℕ) (list : List Outcome)
    → passing (says text) (map (choice_of keys faults) list) ≡ map (told_as (not (is_cut text)) keys faults)
    (told_by text list)
told_states text keys faults [] = refl
told_states text keys faults (outcome ∷ list) =
    ⊎_elim
    (λ (t : says text outcome.reply ≡ true).
    rw t (ap (λ (s : State). s ∷ passing (says text) (map (choice_of keys faults) list))
    (state_told text keys faults outcome.reply outcome.stored t)
    ∙ ap (λ (l : List State). told_as (not (is_cut text)) keys faults outcome.stored ∷ l)
    (told_states text keys faults list)))
    (λ (t : says text outcome.reply ≡ false). rw t (told_states text keys faults list))
    (cases_Bool (says text outcome.reply))

-- Whether a device that is on, or off, has an answer to the event, if it is not to a key but `#`.
abbrev takes : Event → Bool → Bool
takes Power on = true
takes event on = on

taken_if : (event : Event) (on : Bool) (keys : Keys) (faults : ℕ) (s : Stored)
    → not (has_reply event (state_as on keys faults s)) ≡ false → takes event on ≡ true
taken_if Power on keys faults s h = refl
taken_if (Make config) true keys faults s h = refl
taken_if (Make config) false keys faults s h = absurd cc
taken_if (Key key) true keys faults s h = refl
taken_if (Key key) false keys faults s h = absurd cc
taken_if (Tick seconds) true keys faults s h = refl
taken_if (Tick seconds) false keys faults s h = absurd cc
taken_if Show true keys faults s h = refl
taken_if Show false keys faults s h = absurd cc
taken_if Raise true keys faults s h = refl
taken_if Raise false keys faults s h = absurd cc

module _ (next : List ℕ → ℕ → ℕ) (text : List ℕ) (keys : Keys) (faults : ℕ) (s : Stored) where
  told_after : (event : Event) (on : Bool) → takes event on ≡ true
      → passing (says text) (after next (state_as on keys faults s) event)
      ≡ map (told_as (not (is_cut text)) (keys_after s event keys) faults)
      (told_by text (outcomes_at next event keys s))
  told_after Power on h = told_states text no_keys faults (powering s)
  told_after (Make config) true h = told_states text (keys_after s (Make config) keys) faults
      (outcomes next s keys (Make config))
  told_after (Key key) true h = told_states text (keys_after s (Key key) keys) faults (outcomes next s keys (Key key))
  told_after (Tick seconds) true h = told_states text (keys_after s (Tick seconds) keys) faults
      (outcomes next s keys (Tick seconds))
  told_after Show true h = told_states text (keys_after s Show keys) faults (outcomes next s keys Show)
  told_after Raise true h = told_states text (keys_after s Raise keys) faults (outcomes next s keys Raise)
  told_after (Make config) false h = absurd cc
  told_after (Key key) false h = absurd cc
  told_after (Tick seconds) false h = absurd cc
  told_after Show false h = absurd cc
  told_after Raise false h = absurd cc

key_alike : (a b : Stored) (key : ℕ) (keys : Keys) → is_made a ≡ is_made b
    → keys_after a (Key key) keys ≡ keys_after b (Key key) keys
key_alike Blank Blank key keys h = refl
key_alike Blank (Broken word) key keys h = refl
key_alike (Broken word) Blank key keys h = refl
key_alike (Broken word) (Broken place) key keys h = refl
key_alike (Journal x) (Journal y) key keys h = refl
key_alike Blank (Journal y) key keys h = absurd cc
key_alike (Broken word) (Journal y) key keys h = absurd cc
key_alike (Journal x) Blank key keys h = absurd cc
key_alike (Journal x) (Broken place) key keys h = absurd cc

keys_alike : (event : Event) (a b : Stored) (keys : Keys) → Like event (is_made b) a
    → keys_after a event keys ≡ keys_after b event keys
keys_alike Power a b keys h = refl
keys_alike (Make config) a b keys h = refl
keys_alike (Key key) a b keys h = key_alike a b key keys h
keys_alike (Tick seconds) a b keys h = refl
keys_alike Show a b keys h = refl
keys_alike Raise a b keys h = refl

each_power : (made : Bool) (storeds : List Stored) → Each (Like Power made) storeds
each_power made [] = tt
each_power made (s ∷ storeds) = (tt, each_power made storeds)

each_other : (event : Event) (made : Bool) (storeds : List Stored) → AllMade made storeds
    → Each (Like event made) storeds
each_other Power made storeds h = each_power made storeds
each_other event made [] h = tt
each_other (Make config) made (s ∷ storeds) h = (h.0, each_other (Make config) made storeds h.1)
each_other (Key key) made (s ∷ storeds) h = (h.0, each_other (Key key) made storeds h.1)
each_other (Tick seconds) made (s ∷ storeds) h = (h.0, each_other (Tick seconds) made storeds h.1)
each_other Show made (s ∷ storeds) h = (h.0, each_other Show made storeds h.1)
each_other Raise made (s ∷ storeds) h = (h.0, each_other Raise made storeds h.1)

-- where the event is answered, all are made or none, unless it is Power
like_taken : (event : Event) (on : Bool) (storeds : List Stored) → takes event on ≡ true
    → (on ≡ true → AreAlike storeds) → Each (Like event (first_is_made storeds)) storeds
like_taken Power on storeds h alike = each_power (first_is_made storeds) storeds
like_taken (Make config) on storeds h alike = each_other (Make config) (first_is_made storeds) storeds (alike h)
like_taken (Key key) on storeds h alike = each_other (Key key) (first_is_made storeds) storeds (alike h)
like_taken (Tick seconds) on storeds h alike = each_other (Tick seconds) (first_is_made storeds) storeds (alike h)
like_taken Show on storeds h alike = each_other Show (first_is_made storeds) storeds (alike h)
like_taken Raise on storeds h alike = each_other Raise (first_is_made storeds) storeds (alike h)

pub like_each : (event : Event) (on : Bool) (keys : Keys) (faults : ℕ) (storeds : List Stored)
    → is_silent event (states_as on keys faults storeds) ≡ false
    → (on ≡ true → AreAlike storeds) → Each (Like event (first_is_made storeds)) storeds
like_each event on keys faults [] quiet alike = tt
like_each event on keys faults (s ∷ storeds) quiet alike = like_taken event on (s ∷ storeds)
    (taken_if event on keys faults s quiet) alike

module _ (next : List ℕ → ℕ → ℕ) (text : List ℕ) (event : Event) (on : Bool) (keys : Keys) (faults : ℕ) where
  -- behind an answer with this text
  abbrev pub then_as : List Stored → Stored → State
  then_as storeds = told_as (not (is_cut text)) (keys_after (first_of storeds) event keys) faults

  told_taken : (storeds : List Stored) → takes event on ≡ true → Each (Like event (first_is_made storeds)) storeds
      → going_on next (says text) event (states_as on keys faults storeds) ≡ map (then_as storeds)
      (put_storeds [] (told_from next text event keys storeds))
  told_taken storeds h like =
      let o = not (is_cut text) in
      let k = keys_after (first_of storeds) event keys in
      goes_as next (says text) event (state_as on keys faults) o (if o then k else no_keys)
      (if o then faults else raised faults 1)
      (λ s. told_by text (outcomes_at next event keys s)) (Like event (first_is_made storeds))
      (λ s l. told_after next text keys faults s event on h
      ∙ ap (λ (x : Keys). map (told_as o x faults) (told_by text (outcomes_at next event keys s)))
      (keys_alike event s (first_of storeds) keys l))
      storeds like

  pub told_going : (storeds : List Stored) → is_silent event (states_as on keys faults storeds) ≡ false
      → (on ≡ true → AreAlike storeds)
      → going_on next (says text) event (states_as on keys faults storeds) ≡ map (then_as storeds)
      (put_storeds [] (told_from next text event keys storeds))
  told_going [] quiet alike = refl
  told_going (s ∷ storeds) quiet alike =
      told_taken (s ∷ storeds) (taken_if event on keys faults s quiet)
      (like_taken event on (s ∷ storeds) (taken_if event on keys faults s quiet) alike)

-- one for each
ones : (storeds : List Stored) → flat_map (λ s. s ∷ []) storeds ≡ storeds
ones [] = refl
ones (s ∷ storeds) = ap (λ l. s ∷ l) (ones storeds)

each_any : (storeds : List Stored) → Each (λ s. Unit {0}) storeds
each_any [] = tt
each_any (s ∷ storeds) = (tt, each_any storeds)

each_made : (made : Bool) (storeds : List Stored) → AllMade made storeds → Each (λ s. is_made s ≡ made) storeds
each_made made [] h = tt
each_made made (s ∷ storeds) h = (h.0, each_made made storeds h.1)

-- what stays as it is on the flash
stays : (storeds : List Stored) → put_storeds [] storeds ≡ storeds
    → put_storeds [] (flat_map (λ s. s ∷ []) storeds) ≡ storeds
stays storeds once = ap (put_storeds []) (ones storeds) ∙ once

module _ (next : List ℕ → ℕ → ℕ) (keys : Keys) (faults : ℕ) where
  off_after : (event : Event) (s : Stored) → not (has_reply event (state_as false keys faults s)) ≡ true
      → (x : Stored) → passing is_none (after next (state_as false keys faults x) event) ≡ map
      (state_as false keys faults) (x ∷ [])
  off_after Power s h x = absurd cc
  off_after (Make config) s h x = refl
  off_after (Key key) s h x = refl
  off_after (Tick seconds) s h x = refl
  off_after Show s h x = refl
  off_after Raise s h x = refl

  -- a device that is off stays as it is
  pub off_going : (event : Event) (storeds : List Stored) → is_silent event (states_as false keys faults storeds) ≡ true
      → put_storeds [] storeds ≡ storeds
      → going_on next is_none event (states_as false keys faults storeds) ≡ states_as false keys faults storeds
  off_going event [] silent once = refl
  off_going event (s ∷ storeds) silent once =
      goes_as next is_none event (state_as false keys faults) false keys faults (λ x. x ∷ []) (λ x. Unit {0})
      (λ x l. off_after event s silent x) (s ∷ storeds) (each_any (s ∷ storeds))
      ∙ ap (states_as false keys faults) (stays (s ∷ storeds) once)

  key_after : (key : ℕ) → (key == 35) ≡ false → (x : Stored)
      → passing is_none (after next (state_as true keys faults x) (Key key)) ≡ map
      (state_as true (keys_after x (Key key) keys) faults) (x ∷ [])
  key_after key t Blank = rw t refl
  key_after key t (Broken word) = rw t refl
  key_after key t (Journal history) = rw t refl

  key_going : (key : ℕ) (storeds : List Stored) → (key == 35) ≡ false → AreAlike storeds
      → put_storeds [] storeds ≡ storeds
      → going_on next is_none (Key key) (states_as true keys faults storeds) ≡ states_as true
      (keys_after (first_of storeds) (Key key) keys) faults storeds
  key_going key storeds t alike once =
      let k = keys_after (first_of storeds) (Key key) keys in
      goes_as next is_none (Key key) (state_as true keys faults) true k faults (λ x. x ∷ [])
      (λ x. is_made x ≡ first_is_made storeds)
      (λ x l. key_after key t x ∙ ap (λ (z : Keys). map (state_as true z faults) (x ∷ []))
      (key_alike x (first_of storeds) key keys l))
      storeds (each_made (first_is_made storeds) storeds alike)
      ∙ ap (states_as true k faults) (stays storeds once)

  not_hash : (key : ℕ) → not (true && (key == 35)) ≡ true → (key == 35) ≡ false
  not_hash key h =
      ⊎_elim (λ (t : (key == 35) ≡ true). let u : false ≡ true = (rw t at h) in absurd cc)
      (λ (t : (key == 35) ≡ false). t) (cases_Bool (key == 35))

  on_silent : (event : Event) (s : Stored) (storeds : List Stored)
      → not (has_reply event (state_as true keys faults s)) ≡ true → AreAlike (s ∷ storeds)
      → put_storeds [] (s ∷ storeds) ≡ s ∷ storeds
      → going_on next is_none event (states_as true keys faults (s ∷ storeds)) ≡ states_as true
      (keys_after s event keys) faults (s ∷ storeds)
  on_silent Power s storeds h alike once = absurd cc
  on_silent (Make config) s storeds h alike once = absurd cc
  on_silent (Key key) s storeds h alike once = key_going key (s ∷ storeds) (not_hash key h) alike once
  on_silent (Tick seconds) s storeds h alike once = absurd cc
  on_silent Show s storeds h alike once = absurd cc
  on_silent Raise s storeds h alike once = absurd cc

  -- a device that is on hears the key
  pub on_going : (event : Event) (storeds : List Stored) → is_silent event (states_as true keys faults storeds) ≡ true
      → AreAlike storeds → put_storeds [] storeds ≡ storeds
      → going_on next is_none event (states_as true keys faults storeds) ≡ states_as true
      (keys_after (first_of storeds) event keys) faults storeds
  on_going event [] silent alike once = refl
  on_going event (s ∷ storeds) silent alike once = on_silent event s storeds silent alike once
