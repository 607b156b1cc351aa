-- Whether an event is answered hangs on the event and on whether the device is on, and so does whether it is on then.
use Rattle.std.proofs.Common.{◌≡◌, ℕ, Bool, true, false, ◌==◌, ◌&&◌, List, ◌∷◌, Option, Some, None, refl, sym, ap, ◌∙◌}
use Rattle.std.specs.Prelude.{is_some, if◌then◌else◌}
use Rattle.paygo_spec.specs.declared.Config.{Config}
use Rattle.paygo_spec.specs.declared.Entry.{Entry}
use Rattle.paygo_spec.specs.declared.Entry.TheVariants.{Elapsed}
use Rattle.paygo_spec.specs.declared.Event.{Event}
use Rattle.paygo_spec.specs.declared.Event.TheVariants.{Power, Make, Key, Tick, Show, Raise}
use Rattle.paygo_spec.specs.declared.Reply.{Reply}
use Rattle.paygo_spec.specs.declared.Reply.TheVariants as reply_is
use Rattle.paygo_spec.specs.History.{limit_of, raised_limit}
use Rattle.paygo_spec.specs.Pad.{Keys}
use Rattle.paygo_spec.specs.Typed.{Typed, WrongLength, WrongDigit, Blocked, OldToken, Makes}
use Rattle.paygo_spec.specs.Machine.{State, Stored, Blank, Broken, Journal, History, Effect, Answers, Adds, Raises, only, effect_of, effect_of_typed, typed_on, MayMake, MayAdd, MayRaise, Meets, Replies, GoesBy, ActsIf, Powers, Acts, shows_same, clock_at, keys_after, reply_to_entry}
use Rattle.log_check.specs.Fits.{has_reply}

-- Whether a device is on after a reply: not after `down`, and as before where there was none.
abbrev pub on_after : Option Reply → Bool → Bool
on_after (Some reply_is.Down) on = false
on_after (Some reply) on = true
on_after None on = on

-- a reply that may be given to a made device is one, where its effect is not an answer without one
abbrev Answered : Effect → Bool → Type 0
Answered (Answers answer entries) has = is_some answer ≡ has
Answered effect has = true ≡ has

may_add_some : (history : History) (entry : Entry) (reply : Option Reply) (new : Stored)
    → MayAdd history entry reply new → is_some reply ≡ true
may_add_some history entry None new h = absurd cc
may_add_some history entry (Some reply) new h = refl

may_raise_some : (history : History) (reply : Option Reply) (new : Stored) → MayRaise history reply new
    → is_some reply ≡ true
may_raise_some history None new h = absurd cc
may_raise_some history (Some reply) new h = refl

meets_some : (history : History) (effect : Effect) (has : Bool) (reply : Option Reply) (new : Stored)
    → Answered effect has → Meets history effect reply new → is_some reply ≡ has
meets_some history (Answers answer entries) has reply new a h = ap is_some h.0 ∙ a
meets_some history (Adds entry) has reply new a h = may_add_some history entry reply new h ∙ a
meets_some history Raises has reply new a h = may_raise_some history reply new h ∙ a

typed_answered : (history : History) (t : Typed) → Answered (effect_of_typed history t) true
typed_answered history (WrongLength n) = refl
typed_answered history (WrongDigit place) = refl
typed_answered history (Blocked block) = refl
typed_answered history OldToken = refl
typed_answered history (Makes entry) = refl

key_answered : (history : History) (t : Typed) (hash : Bool)
    → Answered (if hash then effect_of_typed history t else Answers None history.entries) hash
key_answered history t true = typed_answered history t
key_answered history t false = refl

either_answered : (reply : Reply) (entries : List Entry) (effect : Effect) (b : Bool) → Answered effect true
    → Answered (if b then Answers (Some reply) entries else effect) true
either_answered reply entries effect true h = refl
either_answered reply entries effect false h = h

abbrev hands_in : Event → Bool
hands_in Power = false
hands_in (Key key) = key == 35
hands_in event = true

effect_answered : (next : List ℕ → ℕ → ℕ) (history : History) (keys : Keys) (event : Event)
    → Answered (effect_of next history keys event) (hands_in event)
effect_answered next history keys Power = refl
effect_answered next history keys (Make config) = refl
effect_answered next history keys (Key key) = key_answered history (typed_on next history keys.pressed) (key == 35)
effect_answered next history keys (Tick seconds) = either_answered
    (reply_to_entry (Elapsed seconds) (clock_at history (Elapsed seconds ∷ history.entries)))
    (Elapsed seconds ∷ history.entries) (Adds (Elapsed seconds))
    (shows_same (clock_at history (Elapsed seconds ∷ history.entries)) (clock_at history history.entries)) refl
effect_answered next history keys Show = refl
effect_answered next history keys Raise = either_answered reply_is.Raised history.entries Raises
    (limit_of history.start history.entries == raised_limit) refl

may_make_some : (config : Config) (reply : Option Reply) (new : Stored) → MayMake config reply new
    → is_some reply ≡ true
may_make_some config None new h = absurd cc
may_make_some config (Some reply) new h = refl

only_key : (hash : Bool) (reply : Reply) → is_some (if hash then Some reply else None) ≡ hash
only_key true reply = refl
only_key false reply = refl

only_some : (event : Event) (reply : Reply) → (event ≡ Power → ⊥) → is_some (only event reply) ≡ hands_in event
only_some Power reply other = absurd (other refl)
only_some (Make config) reply other = refl
only_some (Key key) reply other = only_key (key == 35) reply
only_some (Tick seconds) reply other = refl
only_some Show reply other = refl
only_some Raise reply other = refl

replies_some : (next : List ℕ → ℕ → ℕ) (stored : Stored) (keys : Keys) (event : Event) (reply : Option Reply)
    (new : Stored) → (event ≡ Power → ⊥) → Replies next stored keys event reply new → is_some reply ≡ hands_in event
replies_some next Blank keys (Make config) reply new other h = may_make_some config reply new h
replies_some next Blank keys event reply new other h = ap is_some h.0 ∙ only_some event reply_is.Unmade other
replies_some next (Broken word) keys event reply new other h = ap is_some h.0
    ∙ only_some event (reply_is.Damaged word) other
replies_some next (Journal history) keys event reply new other h = meets_some history
    (effect_of next history keys event) (hands_in event) reply new (effect_answered next history keys event) h

-- a device that is on, or off
goes_on_after : (reply : Option Reply) (keys : Keys) (old new : State) → old.on ≡ true → GoesBy reply keys old new
    → new.on ≡ on_after reply old.on
goes_on_after (Some reply_is.Down) keys old new on h = h.off
goes_on_after (Some _) keys old new on h = h.on_is
goes_on_after None keys old new on h = h.on_is ∙ sym on

abbrev pub Answering : Event → Option Reply → State → State → Type 0
Answering event reply old new = (is_some reply ≡ has_reply event old) × (new.on ≡ on_after reply old.on)

off_after : (reply : Option Reply) (old new : State) → reply ≡ None → old.on ≡ false → new.on ≡ false
    → new.on ≡ on_after reply old.on
off_after None old new is off still = still ∙ sym off
off_after (Some reply) old new is off still = absurd cc

if_some : (on : Bool) (next : List ℕ → ℕ → ℕ) (event : Event) (reply : Option Reply) (old new : State) → old.on ≡ on
    → (event ≡ Power → ⊥) → ActsIf on next event reply old new
    → (is_some reply ≡ (on && hands_in event)) × (new.on ≡ on_after reply old.on)
if_some true next event reply old new is other h = (
  replies_some next old.stored old.keys event reply new.stored other h.0,
  goes_on_after reply
      (keys_after old.stored event old.keys) old new is h.1,
)
if_some false next event reply old new is other h = (ap is_some h.0, off_after reply old new h.0 is h.2.on_is)

powers_some : (reply : Option Reply) (old new : State) → Powers reply old new → Answering Power reply old new
powers_some (Some reply_is.Down) old new h = (refl, h.off)
powers_some (Some _) old new h = (refl, h.1.on_is)
powers_some None old new h = absurd cc

and_true : (b : Bool) → (b && true) ≡ b
and_true true = refl
and_true false = refl

pub acts_answering : (next : List ℕ → ℕ → ℕ) (event : Event) (reply : Option Reply) (old new : State)
    → Acts next event reply old new → Answering event reply old new
acts_answering next Power reply old new h = powers_some reply old new h.1
acts_answering next (Make config) reply old new h = let r = if_some old.on next (Make config) reply old new refl
    (λ e. absurd cc) h in (r.0 ∙ and_true old.on, r.1)
acts_answering next (Key key) reply old new h = if_some old.on next (Key key) reply old new refl (λ e. absurd cc) h
acts_answering next (Tick seconds) reply old new h = let r = if_some old.on next (Tick seconds) reply old new refl
    (λ e. absurd cc) h in (r.0 ∙ and_true old.on, r.1)
acts_answering next Show reply old new h = let r = if_some old.on next Show reply old new refl (λ e. absurd cc) h in
    (r.0 ∙ and_true old.on, r.1)
acts_answering next Raise reply old new h = let r = if_some old.on next Raise reply old new refl (λ e. absurd cc) h in
    (r.0 ∙ and_true old.on, r.1)
