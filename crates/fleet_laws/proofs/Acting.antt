-- What a device answers where its flash doesn't fail, and how it stands then: its machine leaves no other choice.
use Rattle.std.proofs.Common.{◌≡◌, ◌≢◌, ℕ, Bool, true, false, ◌==◌, if◌then◌else◌, List, ◌∷◌, Option, Some, None, refl, sym, subst, arith}
use Rattle.std.proofs.lemmas.Bool.Decides.{nat_tests}
use Rattle.paygo_spec.specs.declared.Config.{Config}
use Rattle.paygo_spec.specs.declared.Entry.{Entry}
use Rattle.paygo_spec.specs.declared.Entry.TheVariants.{Raised}
use Rattle.paygo_spec.specs.declared.Event.{Event}
use Rattle.paygo_spec.specs.declared.Event.TheVariants.{Power, Make, Key, Tick, Show, Raise}
use Rattle.paygo_spec.specs.declared.Reply.{Reply}
use Rattle.paygo_spec.specs.declared.Reply.TheVariants as reply_is
use Rattle.paygo_spec.specs.Layout.{room, last_bank, further, turned}
use Rattle.paygo_spec.specs.Pad.{Keys, no_keys}
use Rattle.paygo_spec.specs.Machine.{State, Stored, Blank, Broken, Journal, History, Effect, Answers, Adds, Raises, Goes, GoesBy, Powers, Acts, ActsIf, Replies, Meets, MayAdd, MayRaise, MayMake, clock_at, effect_of, gone_on, keys_after, new_device, only, reply_to_entry, reply_to_power}

-- What is seen of a device: its state but for its flash's count of faults.
pub record Seen : Type 0 where
  pub on : Bool
  pub stored : Stored
  pub keys : Keys

abbrev pub seen_of : State → Seen
seen_of state = record { on = state.on; stored = state.stored; keys = state.keys }

-- The flash isn't damaged.
abbrev pub IsWhole : Stored → Type 0
IsWhole (Broken word) = ⊥
IsWhole _ = Unit {0}

-- What comes of an event on a device that is on: its reply, and what its flash stands for then.
pub record Outcome : Type 0 where
  pub reply : Option Reply
  pub stored : Stored

-- What comes of an entry that is added, and of a raise, where the flash is full and where it isn't.
abbrev added : History → Entry → Bool → Outcome
added history entry full = record {
  reply = Some (if full then reply_is.Worn else reply_to_entry entry (clock_at history (entry ∷ history.entries)));
  stored = Journal (if full then history else gone_on history (entry ∷ history.entries) (further history.at));
}

abbrev raised : History → Bool → Outcome
raised history full = record {
  reply = Some (if full then reply_is.Worn else reply_is.Raised);
  stored = Journal (if full then history else gone_on history (Raised ∷ history.entries) (turned history.at));
}

-- What comes of an effect, and of an event.
abbrev met : History → Effect → Outcome
met history (Answers answer entries) = record { reply = answer; stored = Journal (gone_on history entries history.at) }
met history (Adds entry) = added history entry (room history.at == 0)
met history Raises = raised history (history.at.number == last_bank)

abbrev made : Config → Outcome
made config = record { reply = Some (reply_is.Up 0 0 false 0); stored = Journal (new_device config) }

abbrev replied : (List ℕ → ℕ → ℕ) → Stored → Keys → Event → Outcome
replied next Blank keys (Make config) = made config
replied next Blank keys event = record { reply = only event reply_is.Unmade; stored = Blank }
replied next (Broken word) keys event = record { reply = only event (reply_is.Damaged word); stored = Broken word }
replied next (Journal history) keys event = met history (effect_of next history keys event)

-- The answer of a device, and what is seen of it then.
pub record Acted : Type 0 where
  pub reply : Option Reply
  pub seen : Seen

abbrev acted_if : Bool → (List ℕ → ℕ → ℕ) → Event → Stored → Keys → Acted
acted_if true next event stored keys =
    let outcome = replied next stored keys event in
    record { reply = outcome.reply; seen = record { on = true; stored = outcome.stored; keys = keys_after stored event keys } }
acted_if false next event stored keys = record { reply = None; seen = record { on = false; stored = stored; keys = keys } }

-- How a device acts at an event, by what is seen of it.
abbrev pub acted : (List ℕ → ℕ → ℕ) → Event → Seen → Acted
acted next Power seen =
    record { reply = Some (reply_to_power seen.stored); seen = record { on = true; stored = seen.stored; keys = no_keys } }
acted next event seen = acted_if seen.on next event seen.stored seen.keys

-- The reply, and what stands then, are these.
abbrev IsOutcome : Outcome → Option Reply → Stored → Type 0
IsOutcome outcome reply stored = (reply ≡ outcome.reply) × (stored ≡ outcome.stored)

abbrev pub IsActed : Acted → Option Reply → State → Type 0
IsActed acted reply new = (reply ≡ acted.reply) × (seen_of new ≡ acted.seen)

-- The flash didn't fail.
abbrev pub IsUp : Option Reply → Type 0
IsUp reply = reply ≢ Some reply_is.Down

adds : (history : History) (entry : Entry) (reply : Option Reply) (new : Stored) → IsUp reply → MayAdd history entry reply new
    → IsOutcome (added history entry (room history.at == 0)) reply new
adds history entry (Some reply_is.Worn) new up may =
    let full : (room history.at == 0) ≡ true = grind (arith, nat_tests, may.0) in
    subst (λ (b : Bool). IsOutcome (added history entry b) (Some reply_is.Worn) new) (sym full) (refl, may.1)
adds history entry (Some reply_is.Down) new up may = absurd (up refl)
adds history entry reply new up may =
    let free : (room history.at == 0) ≡ false = grind (arith, nat_tests, may.0) in
    subst (λ (b : Bool). IsOutcome (added history entry b) reply new) (sym free) (may.1, may.2)

raises : (history : History) (reply : Option Reply) (new : Stored) → IsUp reply → MayRaise history reply new
    → IsOutcome (raised history (history.at.number == last_bank)) reply new
raises history (Some reply_is.Worn) new up may =
    let full : (history.at.number == last_bank) ≡ true = grind (arith, nat_tests, may.0) in
    subst (λ (b : Bool). IsOutcome (raised history b) (Some reply_is.Worn) new) (sym full) (refl, may.1)
raises history (Some reply_is.Down) new up may = absurd (up refl)
raises history reply new up may =
    let free : (history.at.number == last_bank) ≡ false = grind (arith, nat_tests, may.0) in
    subst (λ (b : Bool). IsOutcome (raised history b) reply new) (sym free) (may.1, may.2)

meets : (history : History) (effect : Effect) (reply : Option Reply) (new : Stored) → IsUp reply → Meets history effect reply new
    → IsOutcome (met history effect) reply new
meets history (Answers answer entries) reply new up h = h
meets history (Adds entry) reply new up h = adds history entry reply new up h
meets history Raises reply new up h = raises history reply new up h

met_whole : (history : History) (effect : Effect) → IsWhole (met history effect).stored
met_whole history (Answers answer entries) = tt
met_whole history (Adds entry) = tt
met_whole history Raises = tt

makes : (config : Config) (reply : Option Reply) (new : Stored) → IsUp reply → MayMake config reply new → IsOutcome (made config) reply new
makes config (Some reply_is.Down) new up may = absurd (up refl)
makes config reply new up may = may

goes_on : (reply : Option Reply) (keys : Keys) (old new : State) → IsUp reply → GoesBy reply keys old new → Goes true keys old new
goes_on (Some reply_is.Down) keys old new up goes = absurd (up refl)
goes_on reply keys old new up goes = goes

powers : (reply : Option Reply) (old new : State) → IsUp reply → Powers reply old new
    → (reply ≡ Some (reply_to_power old.stored)) × Goes true no_keys old new
powers (Some reply_is.Down) old new up h = absurd (up refl)
powers reply old new up h = h

seen_is : (new : State) (on : Bool) (stored : Stored) (keys : Keys) → new.on ≡ on → new.stored ≡ stored → new.keys ≡ keys
    → seen_of new ≡ record { on = on; stored = stored; keys = keys }
seen_is new on stored keys o s k = rw (o, s, k) refl

module _ (next : List ℕ → ℕ → ℕ) where
  replies : (stored : Stored) (keys : Keys) (event : Event) (reply : Option Reply) (new : Stored) → IsUp reply
      → Replies next stored keys event reply new → IsOutcome (replied next stored keys event) reply new
  replies Blank keys (Make config) reply new up h = makes config reply new up h
  replies Blank keys _ reply new up h = h
  replies (Broken word) keys event reply new up h = h
  replies (Journal history) keys event reply new up h = meets history (effect_of next history keys event) reply new up h

  acts_if : (on : Bool) (event : Event) (reply : Option Reply) (old new : State) → IsUp reply → ActsIf on next event reply old new
      → IsActed (acted_if on next event old.stored old.keys) reply new
  acts_if true event reply old new up h =
      let keys = keys_after old.stored event old.keys in
      let outcome = replies old.stored old.keys event reply new.stored up h.0 in
      let goes = goes_on reply keys old new up h.1 in
      (outcome.0, seen_is new true (replied next old.stored old.keys event).stored keys goes.on_is outcome.1 goes.keys_are)
  acts_if false event reply old new up h = (h.0, seen_is new false old.stored old.keys h.2.on_is h.1 h.2.keys_are)

  -- where its flash doesn't fail, a device acts as what is seen of it says
  pub acts : (event : Event) (reply : Option Reply) (old new : State) → IsUp reply → Acts next event reply old new
      → IsActed (acted next event (seen_of old)) reply new
  acts Power reply old new up h =
      let greets = powers reply old new up h.1 in
      (greets.0, seen_is new true old.stored no_keys greets.1.on_is h.0 greets.1.keys_are)
  acts (Make config) reply old new up h = acts_if old.on (Make config) reply old new up h
  acts (Key key) reply old new up h = acts_if old.on (Key key) reply old new up h
  acts (Tick seconds) reply old new up h = acts_if old.on (Tick seconds) reply old new up h
  acts Show reply old new up h = acts_if old.on Show reply old new up h
  acts Raise reply old new up h = acts_if old.on Raise reply old new up h

  replied_whole : (stored : Stored) (keys : Keys) (event : Event) → IsWhole stored → IsWhole (replied next stored keys event).stored
  replied_whole Blank keys (Make config) whole = tt
  replied_whole Blank keys _ whole = tt
  replied_whole (Broken word) keys event whole = absurd whole
  replied_whole (Journal history) keys event whole = met_whole history (effect_of next history keys event)

  whole_if : (on : Bool) (event : Event) (stored : Stored) (keys : Keys) → IsWhole stored
      → IsWhole (acted_if on next event stored keys).seen.stored
  whole_if true event stored keys whole = replied_whole stored keys event whole
  whole_if false event stored keys whole = whole

  -- and no event damages its flash
  pub acted_whole : (event : Event) (seen : Seen) → IsWhole seen.stored → IsWhole (acted next event seen).seen.stored
  acted_whole Power seen whole = whole
  acted_whole (Make config) seen whole = whole_if seen.on (Make config) seen.stored seen.keys whole
  acted_whole (Key key) seen whole = whole_if seen.on (Key key) seen.stored seen.keys whole
  acted_whole (Tick seconds) seen whole = whole_if seen.on (Tick seconds) seen.stored seen.keys whole
  acted_whole Show seen whole = whole_if seen.on Show seen.stored seen.keys whole
  acted_whole Raise seen whole = whole_if seen.on Raise seen.stored seen.keys whole
