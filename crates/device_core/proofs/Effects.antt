-- The effect of an event on a history is decided by its snapshot, and a journal that stands for the history stands for what an
-- answer leaves of it.
use Rattle.std.proofs.Common.{◌≡◌, ℕ, ◌-◌, ◌≤◌, Bool, true, false, ◌==◌, List, ◌∷◌, if◌then◌else◌, Option, Some, None, refl, ap, ◌∙◌, arith}
use Rattle.std.proofs.lemmas.Bool.{and_parts}
use Rattle.std.proofs.lemmas.Bool.Decides.{nat_tests}
use Rattle.paygo_spec.specs.declared.Entry.{Entry}
use Rattle.paygo_spec.specs.declared.Entry.TheVariants.{Elapsed}
use Rattle.paygo_spec.specs.declared.Event.{Event}
use Rattle.paygo_spec.specs.declared.Event.TheVariants.{Power, Make, Key, Tick, Show, Raise}
use Rattle.paygo_spec.specs.declared.Reply.{Reply}
use Rattle.paygo_spec.specs.declared.Reply.TheVariants as reply_is
use Rattle.paygo_spec.specs.History.{Summary, raised_limit, limit_of}
use Rattle.paygo_spec.specs.Pad.{Keys}
use Rattle.paygo_spec.specs.Recovery.{JournalView}
use Rattle.paygo_spec.specs.Recovery as recovered
use Rattle.paygo_spec.specs.Typed.{Typed, Makes}
use Rattle.paygo_spec.specs.Machine.{History, Journal, Effect, Answers, Adds, Raises, StandsAs, IsEvent, unit_for, gone_on, clock_at, shows_same, effect_of_typed, typed_on, effect_of}
use Rattle.token_decode.proofs.Entering.{snapshot_typed}
use Rattle.device_core.specs.Decided.{forgotten, decision_of}
use Rattle.device_core.proofs.Stands.{journal_of, IsLawful}

typed_decides : (some other : History) (t : Typed) → decision_of (effect_of_typed some t) ≡ decision_of (effect_of_typed other t)
typed_decides some other (Makes entry) = refl
typed_decides some other _ = refl

key_decides : (next : List ℕ → ℕ → ℕ) (history : History) (keys : Keys) (hash : Bool)
    → decision_of (if hash then effect_of_typed (forgotten history) (typed_on next (forgotten history) keys.pressed) else Answers None (forgotten history).entries)
    ≡ decision_of (if hash then effect_of_typed history (typed_on next history keys.pressed) else Answers None history.entries)
key_decides next history keys true =
    ap (λ (t : Typed). decision_of (effect_of_typed (forgotten history) t))
    (snapshot_typed (next history.config.key) (unit_for history) history.config.start history.config.form history.start history.entries keys.pressed)
    ∙ typed_decides (forgotten history) history (typed_on next history keys.pressed)
key_decides next history keys false = refl

-- an answer, with whatever entries, or something else
either_decides : (reply : Reply) (some other : List Entry) (effect : Effect) (answered : Bool)
    → decision_of (if answered then Answers (Some reply) some else effect) ≡ decision_of (if answered then Answers (Some reply) other else effect)
either_decides reply some other effect true = refl
either_decides reply some other effect false = refl

pub snapshot_decides : (next : List ℕ → ℕ → ℕ) (history : History) (keys : Keys) (event : Event) → decision_of (effect_of next (forgotten history) keys event) ≡ decision_of (effect_of next history keys event)
snapshot_decides next history keys Power = refl
snapshot_decides next history keys (Make config) = refl
snapshot_decides next history keys (Key key) = key_decides next history keys (key == 35)
snapshot_decides next history keys (Tick seconds) = either_decides _ _ _ (Adds (Elapsed seconds)) (shows_same (clock_at history (Elapsed seconds ∷ history.entries)) (clock_at history history.entries))
snapshot_decides next history keys Show = refl
snapshot_decides next history keys Raise = either_decides reply_is.Raised _ _ Raises (limit_of history.start history.entries == raised_limit)

-- The journal stands for the history with these entries.
abbrev pub GoesOn : JournalView → History → List Entry → Type 0
GoesOn journal history entries = StandsAs (recovered.Made journal) (Journal (gone_on history entries history.at))

-- Where an event is only answered, the journal stands for the history with the entries that it goes on with.
abbrev pub Lasts : JournalView → History → Effect → Type 0
Lasts journal history (Answers answer entries) = GoesOn journal history entries
Lasts journal history _ = Unit {0}

-- a summary whose time left and block are the same
same_summary : (summary : Summary) (left block : ℕ) → left ≡ summary.left → block ≡ summary.block → summary ≡ record summary { left = left; block = block }
same_summary summary left block l b = rw (l, b) refl

module _ (history : History) (bank : ℕ) (lawful : IsLawful history) where
  abbrev journal : JournalView
  journal = journal_of history bank

  still : GoesOn journal history history.entries
  still = (refl, refl, refl, lawful)

  typed_lasts : (t : Typed) → Lasts journal history (effect_of_typed history t)
  typed_lasts (Makes entry) = tt
  typed_lasts _ = still

  key_lasts : (t : Typed) (hash : Bool) → Lasts journal history (if hash then effect_of_typed history t else Answers None history.entries)
  key_lasts t true = typed_lasts t
  key_lasts t false = still

  same_after : (seconds : ℕ) → seconds ≤ 999999999 → shows_same (clock_at history (Elapsed seconds ∷ history.entries)) (clock_at history history.entries) ≡ true → GoesOn journal history (Elapsed seconds ∷ history.entries)
  same_after seconds most same =
      let clock = clock_at history history.entries in
      let parts = and_parts (clock.left - seconds == clock.left) (clock.block - seconds == clock.block) same in
      let left_test : (clock.left - seconds == clock.left) ≡ true = parts.0 in
      let block_test : (clock.block - seconds == clock.block) ≡ true = parts.1 in
      let left : clock.left - seconds ≡ clock.left = grind (arith, nat_tests) in
      let block : clock.block - seconds ≡ clock.block = grind (arith, nat_tests) in
      (refl, refl, same_summary journal.summary (clock.left - seconds) (clock.block - seconds) left block, (lawful, most))

  either_lasts : (answer : Option Reply) (entries : List Entry) (effect : Effect) (answered : Bool) → (answered ≡ true → GoesOn journal history entries) → Lasts journal history effect
      → Lasts journal history (if answered then Answers answer entries else effect)
  either_lasts answer entries effect true goes other = goes refl
  either_lasts answer entries effect false goes other = other

  pub lasts : (next : List ℕ → ℕ → ℕ) (keys : Keys) (event : Event) → IsEvent event → Lasts journal history (effect_of next history keys event)
  lasts next keys (Key key) may = key_lasts (typed_on next history keys.pressed) (key == 35)
  lasts next keys (Tick seconds) may = either_lasts _ (Elapsed seconds ∷ history.entries) (Adds (Elapsed seconds)) _ (same_after seconds may) tt
  lasts next keys Raise may = either_lasts _ history.entries Raises (limit_of history.start history.entries == raised_limit) (λ e. still) tt
  lasts next keys _ may = still
