-- The effect of an event is decided by the summary, and what only answers leaves the summary as it is.
use Rattle.std.proofs.Common.{◌≡◌, ℕ, Bool, true, false, ◌==◌, ◌&&◌, List, ◌∷◌, if◌then◌else◌, Option, Some, None, refl, ap, ◌∙◌, arith}
use Rattle.std.proofs.lemmas.Bool.Decides.{nat_tests}
use Rattle.paygo_spec.specs.declared.Entry.{Entry}
use Rattle.paygo_spec.specs.declared.Entry.TheVariants.{Elapsed}
use Rattle.paygo_spec.specs.declared.Event.{Event}
use Rattle.paygo_spec.specs.declared.Event.TheVariants.{Power, Make, Key, Tick, Show, Raise}
use Rattle.paygo_spec.specs.declared.Reply.{Reply}
use Rattle.paygo_spec.specs.declared.Reply.TheVariants as reply_is
use Rattle.paygo_spec.specs.History.{Summary, raised_limit, limit_of}
use Rattle.paygo_spec.specs.Pad.{Keys}
use Rattle.paygo_spec.specs.Snapshot.{snapshot}
use Rattle.paygo_spec.specs.Typed.{Typed, Makes}
use Rattle.paygo_spec.specs.Machine.{History, Effect, Answers, Adds, Raises, unit_for, clock_at, shows_same, effect_of_typed, typed_on, effect_of}
use Rattle.token_decode.proofs.Entering.{snapshot_typed}
use Rattle.device_core.specs.Decided.{forgotten}
use Rattle.log_check.specs.After.{by_effect}

module _ (seen : History) where
  typed_same : (some other : History) (t : Typed)
      → by_effect seen (effect_of_typed some t) ≡ by_effect seen (effect_of_typed other t)
  typed_same some other (Makes entry) = refl
  typed_same some other _ = refl

  key_same : (next : List ℕ → ℕ → ℕ) (history : History) (keys : Keys) (hash : Bool)
      → by_effect seen (if hash then effect_of_typed (forgotten history)
      (typed_on next (forgotten history) keys.pressed) else Answers None (forgotten history).entries)
      ≡ by_effect seen (if hash then effect_of_typed history (typed_on next history keys.pressed) else Answers None
      history.entries)
  key_same next history keys true =
      ap (λ (t : Typed). by_effect seen (effect_of_typed (forgotten history) t))
      (snapshot_typed (next history.config.key) (unit_for history) history.config.start history.config.form
      history.start history.entries keys.pressed)
      ∙ typed_same (forgotten history) history (typed_on next history keys.pressed)
  key_same next history keys false = refl

  either_same : (reply : Reply) (some other : List Entry) (effect : Effect) (answered : Bool)
      → by_effect seen (if answered then Answers (Some reply) some else effect) ≡ by_effect seen
      (if answered then Answers (Some reply) other else effect)
  either_same reply some other effect true = refl
  either_same reply some other effect false = refl

  pub effects_same : (next : List ℕ → ℕ → ℕ) (history : History) (keys : Keys) (event : Event)
      → by_effect seen (effect_of next (forgotten history) keys event) ≡ by_effect seen
      (effect_of next history keys event)
  effects_same next history keys Power = refl
  effects_same next history keys (Make config) = refl
  effects_same next history keys (Key key) = key_same next history keys (key == 35)
  effects_same next history keys (Tick seconds) = either_same _ _ _ (Adds (Elapsed seconds))
      (shows_same (clock_at history (Elapsed seconds ∷ history.entries)) (clock_at history history.entries))
  effects_same next history keys Show = refl
  effects_same next history keys Raise = either_same reply_is.Raised _ _ Raises
      (limit_of history.start history.entries == raised_limit)

-- The summary is as before where the effect only answers.
abbrev pub StaysBy : History → Effect → Type 0
StaysBy history (Answers reply entries) = snapshot (unit_for history) history.start entries ≡ snapshot
    (unit_for history) history.start history.entries
StaysBy history _ = Unit {0}

two_numbers : (a b c d : ℕ) → ((a == b) && (c == d)) ≡ true → (a ≡ b) × (c ≡ d)
two_numbers a b c d h = (grind (arith, nat_tests), grind (arith, nat_tests))

-- a summary with another time left and another block
abbrev with_time : Summary → ℕ → ℕ → Summary
with_time s left block = record s { left = left; block = block }

module _ (history : History) where
  abbrev summary : Summary
  summary = snapshot (unit_for history) history.start history.entries

  abbrev later : ℕ → Summary
  later seconds = snapshot (unit_for history) history.start (Elapsed seconds ∷ history.entries)

  same_after : (seconds : ℕ) → shows_same (clock_at history (Elapsed seconds ∷ history.entries))
      (clock_at history history.entries) ≡ true → later seconds ≡ summary
  same_after seconds same =
      let parts = two_numbers (later seconds).left summary.left (later seconds).block summary.block same in
      ap (λ l. with_time summary l (later seconds).block) parts.0 ∙ ap (λ b. with_time summary summary.left b) parts.1

  typed_stays : (t : Typed) → StaysBy history (effect_of_typed history t)
  typed_stays (Makes entry) = tt
  typed_stays _ = refl

  key_stays : (t : Typed) (hash : Bool) → StaysBy history (if hash then effect_of_typed history t else Answers None
      history.entries)
  key_stays t true = typed_stays t
  key_stays t false = refl

  either_stays : (answer : Option Reply) (entries : List Entry) (effect : Effect) (answered : Bool)
      → (answered ≡ true → snapshot (unit_for history) history.start entries ≡ summary) → StaysBy history effect
      → StaysBy history (if answered then Answers answer entries else effect)
  either_stays answer entries effect true stays other = stays refl
  either_stays answer entries effect false stays other = other

  pub stays : (next : List ℕ → ℕ → ℕ) (keys : Keys) (event : Event)
      → StaysBy history (effect_of next history keys event)
  stays next keys (Key key) = key_stays (typed_on next history keys.pressed) (key == 35)
  stays next keys (Tick seconds) = either_stays _ (Elapsed seconds ∷ history.entries) (Adds (Elapsed seconds)) _
      (same_after seconds) tt
  stays next keys Raise = either_stays _ history.entries Raises (limit_of history.start history.entries == raised_limit)
      (λ e. refl) tt
  stays next keys _ = refl
