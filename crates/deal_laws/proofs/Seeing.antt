-- What was seen of a device holds of it.
use Rattle.std.proofs.Common.{◌≡◌, ℕ, ◌==◌, true, false, Bool, cond, if◌then◌else◌, List, [], ◌∷◌, ◌++◌, Option, Some, None, refl, sym, ap, ◌∙◌, subst, ⊎_elim, arith}
use Rattle.std.specs.Option.{option_map}
use Rattle.std.proofs.lemmas.Bool.{cases_Bool}
use Rattle.std.proofs.lemmas.Bool.Decides.{nat_tests}
use Rattle.paygo_spec.specs.declared.Config.{Config}
use Rattle.paygo_spec.specs.declared.Entry.{Entry}
use Rattle.paygo_spec.specs.declared.Event.{Event}
use Rattle.paygo_spec.specs.declared.Event.TheVariants as event_is
use Rattle.paygo_spec.specs.declared.Reply.{Reply}
use Rattle.paygo_spec.specs.declared.Reply.TheVariants as reply_is
use Rattle.paygo_spec.specs.Layout.{further}
use Rattle.paygo_spec.specs.Machine.{History, Stored, Blank, Broken, Journal, State, Effect, Answers, Adds, Raises, gone_on, effect_of, effect_of_typed, typed_on, reply_to_power, keys_after as pad_after, MayAdd, MayRaise, Meets, Replies, GoesBy, ActsIf, Powers, Acts}
use Rattle.paygo_spec.specs.Pad.{Keys, after_key}
use Rattle.run_spec.specs.Run.{Act, Told}
use Rattle.deal_laws.specs.Meaning.{Answered, Seen, up_after, keys_after, seen_after}

-- A device keeps its configuration.
pub record KeepsConfig (history : History) (stored : Stored) : Type 0 where
  pub later : History
  pub stored_is : stored ≡ Journal later
  pub same : later.config ≡ history.config

added_keeps : (history : History) (entry : Entry) (reply : Option Reply) (new : Stored) → MayAdd history entry reply new → KeepsConfig history new
added_keeps history entry (Some reply_is.Worn) new h = record { later = history; stored_is = h.1; same = refl }
added_keeps history entry (Some reply_is.Down) new h = record { later = gone_on history (if h.1.0 then entry ∷ history.entries else history.entries) h.1.1; stored_is = h.1.3; same = refl }
added_keeps history entry reply new h = record { later = gone_on history (entry ∷ history.entries) (further history.at); stored_is = h.2; same = refl }

raised_keeps : (history : History) (reply : Option Reply) (new : Stored) → MayRaise history reply new → KeepsConfig history new
raised_keeps history (Some reply_is.Worn) new h = record { later = history; stored_is = h.1; same = refl }
raised_keeps history (Some reply_is.Down) new h = ⊎_elim (λ e. record { later = history; stored_is = e; same = refl }) (λ e. record { later = _; stored_is = e; same = refl }) h.1
raised_keeps history reply new h = record { later = _; stored_is = h.2; same = refl }

meets_keeps : (history : History) (effect : Effect) (reply : Option Reply) (new : Stored) → Meets history effect reply new → KeepsConfig history new
meets_keeps history (Answers answer entries) reply new h = record { later = gone_on history entries history.at; stored_is = h.1; same = refl }
meets_keeps history (Adds entry) reply new h = added_keeps history entry reply new h
meets_keeps history Raises reply new h = raised_keeps history reply new h

module _ (next : List ℕ → ℕ → ℕ) where
  acts_if_keeps : (on : Bool) (event : Event) (reply : Option Reply) (old new : State) (history : History) → old.stored ≡ Journal history → ActsIf on next event reply old new → KeepsConfig history new.stored
  acts_if_keeps true event reply old new history is h =
      meets_keeps history (effect_of next history old.keys event) reply new.stored (subst (λ (s : Stored). Replies next s old.keys event reply new.stored) is h.0)
  acts_if_keeps false event reply old new history is h = record { later = history; stored_is = h.1 ∙ is; same = refl }

  pub acts_keeps : (event : Event) (reply : Option Reply) (old new : State) (history : History) → old.stored ≡ Journal history → Acts next event reply old new → KeepsConfig history new.stored
  acts_keeps event_is.Power reply old new history is h = record { later = history; stored_is = h.0 ∙ is; same = refl }
  acts_keeps (event_is.Make made) reply old new history is h = acts_if_keeps old.on (event_is.Make made) reply old new history is h
  acts_keeps (event_is.Key key) reply old new history is h = acts_if_keeps old.on (event_is.Key key) reply old new history is h
  acts_keeps (event_is.Tick seconds) reply old new history is h = acts_if_keeps old.on (event_is.Tick seconds) reply old new history is h
  acts_keeps event_is.Show reply old new history is h = acts_if_keeps old.on event_is.Show reply old new history is h
  acts_keeps event_is.Raise reply old new history is h = acts_if_keeps old.on event_is.Raise reply old new history is h

-- The device is on, and made.
pub record IsUp (device : State) : Type 0 where
  pub on : device.on ≡ true
  pub history : History
  pub made : device.stored ≡ Journal history

-- A device that is seen to be up is on and made, and its pad holds the keys that were seen.
pub record Fits (seen : Seen) (device : State) : Type 0 where
  pub up : seen.up ≡ true → IsUp device
  pub keys : (keys : List ℕ) → seen.up ≡ true → seen.keys ≡ Some keys → device.keys.pressed ≡ keys

no_true : false ≡ true → ⊥
no_true e = cc

no_keys_seen : (keys : List ℕ) → None ≡ Some keys → ⊥
no_keys_seen keys e = cc

-- What is known after a reply that isn't Down.
abbrev IsUpBy : Option Reply → State → Type 0
IsUpBy (Some reply_is.Down) device = Unit {0}
IsUpBy _ device = IsUp device

goes_up : (reply : Option Reply) (keys : Keys) (old new : State) → GoesBy reply keys old new → (history : History) → new.stored ≡ Journal history → IsUpBy reply new
goes_up (Some reply_is.Down) keys old new goes history is = tt
goes_up _ keys old new goes history is = record { on = goes.on_is; history = history; made = is }

-- whether the device is seen to be up after a reply, where none but the power makes it so
abbrev up_by : Option Reply → Bool → Bool
up_by (Some reply_is.Down) up = false
up_by _ up = up

up_then : (reply : Option Reply) (up : Bool) (device : State) → (up ≡ true → IsUpBy reply device) → up_by reply up ≡ true → IsUp device
up_then (Some reply_is.Down) up device by e = absurd (no_true e)
up_then None up device by e = by e
up_then (Some _) up device by e = by e

key_up : (key : ℕ) (reply : Option Reply) (up : Bool) → up_after (Answered (Act (event_is.Key key)) (option_map Told reply)) up ≡ up_by reply up
key_up key None up = refl
key_up key (Some reply_is.Down) up = refl
key_up key (Some _) up = refl

tick_up : (seconds : ℕ) (reply : Option Reply) (up : Bool) → up_after (Answered (Act (event_is.Tick seconds)) (option_map Told reply)) up ≡ up_by reply up
tick_up seconds None up = refl
tick_up seconds (Some reply_is.Down) up = refl
tick_up seconds (Some _) up = refl

show_up : (reply : Option Reply) (up : Bool) → up_after (Answered (Act event_is.Show) (option_map Told reply)) up ≡ up_by reply up
show_up None up = refl
show_up (Some reply_is.Down) up = refl
show_up (Some _) up = refl

raise_up : (reply : Option Reply) (up : Bool) → up_after (Answered (Act event_is.Raise) (option_map Told reply)) up ≡ up_by reply up
raise_up None up = refl
raise_up (Some reply_is.Down) up = refl
raise_up (Some _) up = refl

by_seen : (reply : Option Reply) (up : Bool) → up_by reply up ≡ true → up ≡ true
by_seen (Some reply_is.Down) up e = absurd (no_true e)
by_seen None up e = e
by_seen (Some _) up e = e

module _ (next : List ℕ → ℕ → ℕ) (seen : Seen) (old new : State) (fits : Fits seen old) where
  -- an event but Power, on a device that is seen to be up
  if_up : (event : Event) (reply : Option Reply) → ActsIf old.on next event reply old new → seen.up ≡ true → IsUpBy reply new
  if_up event reply h e =
      let up = fits.up e in
      let acts : ActsIf true next event reply old new = subst (λ on. ActsIf on next event reply old new) up.on h in
      let keeps = acts_if_keeps next true event reply old new up.history up.made acts in
      goes_up reply (pad_after old.stored event old.keys) old new acts.1 keeps.later keeps.stored_is

  no_made : (event : Event) (reply : Option Reply) → old.on ≡ false → ActsIf old.on next event reply old new → (c l : ℕ) (f : Bool) (b : ℕ) → reply ≡ Some (reply_is.Up c l f b) → ⊥
  no_made event reply off h c l f b is = let acts : ActsIf false next event reply old new = subst (λ on. ActsIf on next event reply old new) off h in let bad : None ≡ Some (reply_is.Up c l f b) = sym acts.0 ∙ is in cc

  -- a device that was made, and told so, is up
  made_up : (stored : Stored) (made : Config) (c l : ℕ) (f : Bool) (b : ℕ) → Replies next stored old.keys (event_is.Make made) (Some (reply_is.Up c l f b)) new.stored → new.on ≡ true → IsUp new
  made_up Blank made c l f b h on = record { on = on; history = _; made = h.1 }
  made_up (Broken word) made c l f b h on = absurd (let bad : Some (reply_is.Up c l f b) ≡ Some (reply_is.Damaged word) = h.0 in cc)
  made_up (Journal history) made c l f b h on = record { on = on; history = _; made = h.1 }

  make_up : (made : Config) (c l : ℕ) (f : Bool) (b : ℕ) → ActsIf old.on next (event_is.Make made) (Some (reply_is.Up c l f b)) old new → IsUp new
  make_up made c l f b h = ⊎_elim
      (λ (on : old.on ≡ true).
      let acts : ActsIf true next (event_is.Make made) (Some (reply_is.Up c l f b)) old new = subst (λ o. ActsIf o next (event_is.Make made) (Some (reply_is.Up c l f b)) old new) on h in
      made_up old.stored made c l f b acts.0 acts.1.on_is)
      (λ (off : old.on ≡ false). absurd (no_made (event_is.Make made) (Some (reply_is.Up c l f b)) off h c l f b refl))
      (cases_Bool old.on)

  -- a device that tells that it is up is made
  power_made : (stored : Stored) (c l : ℕ) (f : Bool) (b : ℕ) → Some (reply_is.Up c l f b) ≡ Some (reply_to_power stored) → (history : History) × (stored ≡ Journal history)
  power_made Blank c l f b e = absurd (let bad : Some (reply_is.Up c l f b) ≡ Some reply_is.Unmade = e in cc)
  power_made (Broken word) c l f b e = absurd (let bad : Some (reply_is.Up c l f b) ≡ Some (reply_is.Damaged word) = e in cc)
  power_made (Journal history) c l f b e = (history, refl)

  abbrev Now : Event → Option Reply → Type 0
  Now event reply = Fits (seen_after (Answered (Act event) (option_map Told reply)) seen) new

  -- where no keys are seen any more
  without_keys : (event : Event) (reply : Option Reply) → keys_after (Answered (Act event) (option_map Told reply)) seen.keys ≡ None → (up_after (Answered (Act event) (option_map Told reply)) seen.up ≡ true → IsUp new) → Now event reply
  without_keys event reply none up = record { up = up; keys = λ keys e is. absurd (no_keys_seen keys (sym none ∙ is)) }

  power_fits : (reply : Option Reply) → new.stored ≡ old.stored → Powers reply old new → Now event_is.Power reply
  power_fits (Some reply_is.Down) same h = without_keys event_is.Power (Some reply_is.Down) refl (λ e. absurd (no_true e))
  power_fits (Some (reply_is.Up c l f b)) same h =
      let made = power_made old.stored c l f b h.0 in
      without_keys event_is.Power (Some (reply_is.Up c l f b)) refl (λ e. record { on = h.1.on_is; history = made.0; made = same ∙ made.1 })
  power_fits None same h = without_keys event_is.Power None refl (λ e. let up = fits.up e in record { on = h.1.on_is; history = up.history; made = same ∙ up.made })
  power_fits (Some reply) same h = without_keys event_is.Power (Some reply) refl (λ e. let up = fits.up e in record { on = h.1.on_is; history = up.history; made = same ∙ up.made })

  make_fits : (made : Config) (reply : Option Reply) → ActsIf old.on next (event_is.Make made) reply old new → Now (event_is.Make made) reply
  make_fits made (Some reply_is.Down) h = without_keys (event_is.Make made) (Some reply_is.Down) refl (λ e. absurd (no_true e))
  make_fits made (Some (reply_is.Up c l f b)) h = without_keys (event_is.Make made) (Some (reply_is.Up c l f b)) refl (λ e. make_up made c l f b h)
  make_fits made None h = without_keys (event_is.Make made) None refl (λ e. if_up (event_is.Make made) None h e)
  make_fits made (Some reply) h = without_keys (event_is.Make made) (Some reply) refl (λ e. if_up (event_is.Make made) (Some reply) h e)

  -- keys
  quiet_key : (key : ℕ) (reply : Option Reply) → (key == 35) ≡ false → ActsIf old.on next (event_is.Key key) reply old new → seen.up ≡ true → new.keys ≡ after_key key old.keys
  quiet_key key reply other h e =
      let up = fits.up e in
      let acts : ActsIf true next (event_is.Key key) reply old new = subst (λ on. ActsIf on next (event_is.Key key) reply old new) up.on h in
      let both : Meets up.history (effect_of next up.history old.keys (event_is.Key key)) reply new.stored × GoesBy reply (after_key key old.keys) old new =
      subst (λ (s : Stored). Replies next s old.keys (event_is.Key key) reply new.stored × GoesBy reply (pad_after s (event_is.Key key) old.keys) old new) up.made acts in
      let met = subst (λ b. Meets up.history (cond b (effect_of_typed up.history (typed_on next up.history old.keys.pressed)) (Answers None up.history.entries)) reply new.stored) other both.0 in
      (subst (λ (r : Option Reply). GoesBy r (after_key key old.keys) old new) met.0 both.1).keys_are

  pressed_more : (key : ℕ) (pressed : List ℕ) (keys : Option (List ℕ)) → keys ≡ Some pressed → (found : List ℕ) → option_map (λ k. k ++ key ∷ []) keys ≡ Some found → found ≡ pressed ++ key ∷ []
  pressed_more key pressed None is found e = cc
  pressed_more key pressed (Some k) is found e = let same : k ≡ pressed = cc in let one : k ++ key ∷ [] ≡ found = cc in sym one ∙ ap (λ l. l ++ key ∷ []) same

  some_keys : (key : ℕ) (keys : Option (List ℕ)) (found : List ℕ) → option_map (λ k. k ++ key ∷ []) keys ≡ Some found → (pressed : List ℕ) × (keys ≡ Some pressed)
  some_keys key None found e = cc
  some_keys key (Some k) found e = (k, refl)

  star_pressed : (key : ℕ) → (key == 42) ≡ true → (after_key key old.keys).pressed ≡ []
  star_pressed key is = rw is refl

  more_pressed : (key : ℕ) → (key == 42) ≡ false → (key == 35) ≡ false → (after_key key old.keys).pressed ≡ old.keys.pressed ++ key ∷ []
  more_pressed key one two = rw (one, two) refl

  star_other : (key : ℕ) → (key == 42) ≡ true → (key == 35) ≡ false
  star_other key is = grind (arith, nat_tests)

  some_list : (a b : List ℕ) → Some a ≡ Some b → a ≡ b
  some_list a b e = cc

  key_pressed : (key : ℕ) (reply : Option Reply) → ActsIf old.on next (event_is.Key key) reply old new → seen.up ≡ true → (keys : List ℕ) → keys_after (Answered (Act (event_is.Key key)) (option_map Told reply)) seen.keys ≡ Some keys
      → new.keys.pressed ≡ keys
  key_pressed key reply h e keys is = ⊎_elim
      (λ (star : (key == 42) ≡ true).
      let none : [] ≡ keys = some_list [] keys (rw star at is) in
      ap (λ (k : Keys). k.pressed) (quiet_key key reply (star_other key star) h e) ∙ star_pressed key star ∙ none)
      (λ (other : (key == 42) ≡ false). ⊎_elim
      (λ (hash : (key == 35) ≡ true). absurd (no_keys_seen keys (rw (other, hash) at is)))
      (λ (digit : (key == 35) ≡ false).
      let more : option_map (λ k. k ++ key ∷ []) seen.keys ≡ Some keys = rw (other, digit) at is in
      let before = some_keys key seen.keys keys more in
      ap (λ (k : Keys). k.pressed) (quiet_key key reply digit h e) ∙ more_pressed key other digit ∙ ap (λ l. l ++ key ∷ []) (fits.keys before.0 e before.1) ∙ sym (pressed_more key before.0 seen.keys before.1 keys more))
      (cases_Bool (key == 35)))
      (cases_Bool (key == 42))

  key_fits : (key : ℕ) (reply : Option Reply) → ActsIf old.on next (event_is.Key key) reply old new → Now (event_is.Key key) reply
  key_fits key reply h = record {
    up = λ e. up_then reply seen.up new (if_up (event_is.Key key) reply h) (sym (key_up key reply seen.up) ∙ e);
    keys = λ keys e is. key_pressed key reply h (by_seen reply seen.up (sym (key_up key reply seen.up) ∙ e)) keys is;
  }

  pub event_fits : (event : Event) (reply : Option Reply) → Acts next event reply old new → Now event reply
  event_fits event_is.Power reply h = power_fits reply h.0 h.1
  event_fits (event_is.Make made) reply h = make_fits made reply h
  event_fits (event_is.Key key) reply h = key_fits key reply h
  event_fits (event_is.Tick seconds) reply h = without_keys (event_is.Tick seconds) reply refl (λ e. up_then reply seen.up new (if_up (event_is.Tick seconds) reply h) (sym (tick_up seconds reply seen.up) ∙ e))
  event_fits event_is.Show reply h = without_keys event_is.Show reply refl (λ e. up_then reply seen.up new (if_up event_is.Show reply h) (sym (show_up reply seen.up) ∙ e))
  event_fits event_is.Raise reply h = without_keys event_is.Raise reply refl (λ e. up_then reply seen.up new (if_up event_is.Raise reply h) (sym (raise_up reply seen.up) ∙ e))

pub nothing_fits : (device : State) → Fits record { up = false; keys = None } device
nothing_fits device = record { up = λ e. absurd (no_true e); keys = λ keys e is. absurd (no_true e) }
