-- A worn device stands still.
use Rattle.std.proofs.Common.{◌≡◌, ◌≢◌, ℕ, ◌+◌, ◌-◌, ◌*◌, ◌≤◌, min, Bool, true, false, cond, not, ◌==◌, List, [], ◌∷◌, Option, Some, None, refl, sym, ap, ◌∙◌, subst, arith}
use Rattle.std.specs.Prelude.{Result, Ok, Err}
use Rattle.std.proofs.lemmas.Bool.{and_parts}
use Rattle.std.proofs.lemmas.Bool.Decides.{nat_tests}
use Rattle.paygo_spec.specs.declared.Entry.{Entry}
use Rattle.paygo_spec.specs.declared.Entry.TheVariants.{Elapsed}
use Rattle.paygo_spec.specs.declared.Event.{Event}
use Rattle.paygo_spec.specs.declared.Event.TheVariants.{Power, Make, Key, Tick, Show, Raise}
use Rattle.paygo_spec.specs.declared.Reply.{Reply}
use Rattle.paygo_spec.specs.declared.Reply.TheVariants as reply_is
use Rattle.paygo_spec.specs.History.{Summary, limit_of, raised_limit}
use Rattle.paygo_spec.specs.Layout.{Position, last_bank, room}
use Rattle.paygo_spec.specs.Machine.{State, Stored, Journal, History, Effect, Answers, Adds, Raises, Goes, GoesBy, Acts, ActsIf, Replies, Meets, MayAdd, MayRaise, Stands, StandsAs, calls_of_effect, clock_at, effect_of, effect_of_typed, gone_on, keys_after, reply_to_entry, shown, shows_same, typed_on, unit_for}
use Rattle.paygo_spec.specs.Pad.{Keys}
use Rattle.paygo_spec.specs.Rail.{is_railed, number_in}
use Rattle.paygo_spec.specs.Recovery.{Recovered, Unmade, Damaged, Made, by_entries, by_head, by_headers, is_header, number_at, recover, word_at}
use Rattle.paygo_spec.specs.Snapshot.{snapshot}
use Rattle.paygo_spec.specs.Typed.{Typed, WrongLength, WrongDigit, Blocked, OldToken, Makes}
use Rattle.history_laws.specs.Worn.{IsWorn, IsWornStep, Lives, StandsStill, worn_answer}
use Rattle.history_laws.proofs.Showing.{same}

-- What an effect keeps where nothing is added: its answer isn't `down`, and its entries change nothing.
abbrev pub EffectKeeps : History → Effect → Type 0
EffectKeeps history (Answers reply entries) =
    (reply ≢ Some reply_is.Down)
    × (snapshot (unit_for history) history.start entries ≡ snapshot (unit_for history) history.start history.entries)
EffectKeeps history _ = Unit {0}

typed_keeps : (history : History) (typed : Typed) → EffectKeeps history (effect_of_typed history typed)
typed_keeps history (WrongLength n) = (λ e. let bad : Some (reply_is.Length (min n 99)) ≡ Some reply_is.Down = e in cc, refl)
typed_keeps history (WrongDigit place) = (λ e. let bad : Some (reply_is.Digits place) ≡ Some reply_is.Down = e in cc, refl)
typed_keeps history (Blocked block) = (λ e. let bad : Some (reply_is.Blocked block) ≡ Some reply_is.Down = e in cc, refl)
typed_keeps history OldToken = (λ e. let bad : Some reply_is.Old ≡ Some reply_is.Down = e in cc, refl)
typed_keeps history (Makes entry) = tt

none_not_down : None ≢ Some reply_is.Down
none_not_down e = cc

key_keeps : (next : List ℕ → ℕ → ℕ) (history : History) (keys : Keys) (b : Bool)
    → EffectKeeps history (cond b (effect_of_typed history (typed_on next history keys.pressed)) (Answers None history.entries))
key_keeps next history keys true = typed_keeps history (typed_on next history keys.pressed)
key_keeps next history keys false = (none_not_down, refl)

seconds_keep : (history : History) (seconds : ℕ) (b : Bool) → shows_same (clock_at history (Elapsed seconds ∷ history.entries)) (clock_at history history.entries) ≡ b
    → EffectKeeps history (cond b (Answers (Some (reply_to_entry (Elapsed seconds) (clock_at history (Elapsed seconds ∷ history.entries)))) (Elapsed seconds ∷ history.entries)) (Adds (Elapsed seconds)))
seconds_keep history seconds true is =
    (λ e. let bad : Some (reply_to_entry (Elapsed seconds) (clock_at history (Elapsed seconds ∷ history.entries))) ≡ Some reply_is.Down = e in cc, (same history history.entries seconds).0 is)
seconds_keep history seconds false is = tt

raise_keeps : (history : History) (b : Bool) → EffectKeeps history (cond b (Answers (Some reply_is.Raised) history.entries) Raises)
raise_keeps history true = (λ e. let bad : Some reply_is.Raised ≡ Some reply_is.Down = e in cc, refl)
raise_keeps history false = tt

effect_keeps : (next : List ℕ → ℕ → ℕ) (history : History) (keys : Keys) (event : Event) → EffectKeeps history (effect_of next history keys event)
effect_keeps next history keys Power = (none_not_down, refl)
effect_keeps next history keys (Make config) = (λ e. let bad : Some (reply_is.Made history.at.number) ≡ Some reply_is.Down = e in cc, refl)
effect_keeps next history keys (Key key) = key_keeps next history keys (key == 35)
effect_keeps next history keys (Tick seconds) = seconds_keep history seconds (shows_same (clock_at history (Elapsed seconds ∷ history.entries)) (clock_at history history.entries)) refl
effect_keeps next history keys Show = (λ e. let bad : Some (shown history keys) ≡ Some reply_is.Down = e in cc, refl)
effect_keeps next history keys Raise = raise_keeps history (limit_of history.start history.entries == raised_limit)

-- where nothing is written, the history stands still
still : (history : History) (stored : Stored) → stored ≡ Journal history → StandsStill history stored
still history stored is = record { entries = history.entries; stored_is = is; same = refl }

-- An event with this effect has this one answer, and the history stands still.
pub record MetWorn (history : History) (effect : Effect) (reply : Option Reply) (stored : Stored) : Type 0 where
  pub answer : reply ≡ worn_answer effect
  pub stands : StandsStill history stored

no_room : (history : History) → IsWorn history.at → 1 ≤ room history.at → ⊥
no_room history worn some = omega (arith, worn.full, some)

added_worn : (history : History) (entry : Entry) (reply : Option Reply) (stored : Stored) → IsWorn history.at → MayAdd history entry reply stored → MetWorn history (Adds entry) reply stored
added_worn history entry (Some reply_is.Worn) stored worn may = record { answer = refl; stands = still history stored may.1 }
added_worn history entry (Some reply_is.Down) stored worn may = absurd (no_room history worn may.0)
added_worn history entry _ stored worn may = absurd (no_room history worn may.0)

in_last : (at : Position) → IsWorn at → at.number ≡ last_bank
in_last at worn = let full : (512 - at.place) + (last_bank - at.number) * 500 ≡ 0 = worn.full in let within : at.number ≤ last_bank = worn.within in omega (arith, full, within)

raised_worn : (history : History) (reply : Option Reply) (stored : Stored) → IsWorn history.at → MayRaise history reply stored → MetWorn history Raises reply stored
raised_worn history (Some reply_is.Worn) stored worn may = record { answer = refl; stands = still history stored may.1 }
raised_worn history (Some reply_is.Down) stored worn may = absurd (may.0 (in_last history.at worn))
raised_worn history _ stored worn may = absurd (may.0 (in_last history.at worn))

met_worn : (history : History) (effect : Effect) (reply : Option Reply) (stored : Stored) → IsWorn history.at → EffectKeeps history effect → Meets history effect reply stored → MetWorn history effect reply stored
met_worn history (Answers answer entries) reply stored worn keeps met = record { answer = met.0; stands = record { entries = entries; stored_is = met.1; same = keeps.1 } }
met_worn history (Adds entry) reply stored worn keeps met = added_worn history entry reply stored worn met
met_worn history Raises reply stored worn keeps met = raised_worn history reply stored worn met

-- the flash isn't asked
no_calls : (history : History) (effect : Effect) → IsWorn history.at → calls_of_effect history.at effect ≡ 0
no_calls history (Answers answer entries) worn = refl
no_calls history (Adds entry) worn = rw worn.full refl
no_calls history Raises worn = rw (in_last history.at worn) refl

-- it isn't `down`, so the device goes on
not_down : (history : History) (effect : Effect) → EffectKeeps history effect → worn_answer effect ≢ Some reply_is.Down
not_down history (Answers answer entries) keeps = keeps.0
not_down history (Adds entry) keeps = λ e. let bad : Some reply_is.Worn ≡ Some reply_is.Down = e in cc
not_down history Raises keeps = λ e. let bad : Some reply_is.Worn ≡ Some reply_is.Down = e in cc

goes_on : (reply : Option Reply) (keys : Keys) (old new : State) → reply ≢ Some reply_is.Down → GoesBy reply keys old new → Goes true keys old new
goes_on (Some reply_is.Down) keys old new other goes = absurd (other refl)
goes_on _ keys old new other goes = goes

module _ (next : List ℕ → ℕ → ℕ) where
  unpowered : (event : Event) (reply : Option Reply) (old new : State) → event ≢ Power → Acts next event reply old new → ActsIf old.on next event reply old new
  unpowered Power reply old new other acts = absurd (other refl)
  unpowered (Make config) reply old new other acts = acts
  unpowered (Key key) reply old new other acts = acts
  unpowered (Tick seconds) reply old new other acts = acts
  unpowered Show reply old new other acts = acts
  unpowered Raise reply old new other acts = acts

  -- What comes of an event but Power on a worn device that is on.
  pub record Acted (history : History) (event : Event) (reply : Option Reply) (old new : State) : Type 0 where
    pub step : IsWornStep next history event reply old new
    pub stands : StandsStill history new.stored

  acted_on : (event : Event) (reply : Option Reply) (old new : State) (history : History) → old.stored ≡ Journal history → IsWorn history.at
      → ActsIf true next event reply old new → Acted history event reply old new
  acted_on event reply old new history is worn acts =
      let effect : Effect = effect_of next history old.keys event in
      let keeps = effect_keeps next history old.keys event in
      let met : Meets history effect reply new.stored = subst (λ (s : Stored). Replies next s old.keys event reply new.stored) is acts.0 in
      let by = met_worn history effect reply new.stored worn keeps met in
      let other : reply ≢ Some reply_is.Down = λ e. not_down history effect keeps (sym by.answer ∙ e) in
      record { step = record { answer = by.answer; calls = no_calls history effect worn; goes = goes_on reply (keys_after old.stored event old.keys) old new other acts.1 }; stands = by.stands }

  pub one_answer : (event : Event) (reply : Option Reply) (old new : State) (history : History) → event ≢ Power → old.on ≡ true → old.stored ≡ Journal history → IsWorn history.at
      → Acts next event reply old new → IsWornStep next history event reply old new
  one_answer event reply old new history other on is worn acts =
      (acted_on event reply old new history is worn (subst (λ (b : Bool). ActsIf b next event reply old new) on (unpowered event reply old new other acts))).step

  still_if : (on : Bool) (event : Event) (reply : Option Reply) (old new : State) (history : History) → old.stored ≡ Journal history → IsWorn history.at
      → ActsIf on next event reply old new → StandsStill history new.stored
  still_if true event reply old new history is worn acts = (acted_on event reply old new history is worn acts).stands
  still_if false event reply old new history is worn acts = still history new.stored (acts.1 ∙ is)

  still_after : (event : Event) (reply : Option Reply) (old new : State) (history : History) → old.stored ≡ Journal history → IsWorn history.at
      → Acts next event reply old new → StandsStill history new.stored
  still_after Power reply old new history is worn acts = still history new.stored (acts.0 ∙ is)
  still_after (Make config) reply old new history is worn acts = still_if old.on (Make config) reply old new history is worn acts
  still_after (Key key) reply old new history is worn acts = still_if old.on (Key key) reply old new history is worn acts
  still_after (Tick seconds) reply old new history is worn acts = still_if old.on (Tick seconds) reply old new history is worn acts
  still_after Show reply old new history is worn acts = still_if old.on Show reply old new history is worn acts
  still_after Raise reply old new history is worn acts = still_if old.on Raise reply old new history is worn acts

  pub still_ever : (events : List Event) (old new : State) (history : History) → old.stored ≡ Journal history → IsWorn history.at → Lives next events old new → StandsStill history new.stored
  still_ever [] old new history is worn lives = still history new.stored (ap (λ (s : State). s.stored) lives ∙ is)
  still_ever (event ∷ events) old new history is worn lives =
      let first = still_after event lives.0 old lives.1 history is worn lives.2 in
      let rest = still_ever events lives.1 new (gone_on history first.entries history.at) first.stored_is worn lives.3 in
      record { entries = rest.entries; stored_is = rest.stored_is; same = rest.same ∙ first.same }

-- The bank in use is none behind the last one.
abbrev pub Within : Recovered → Type 0
Within (Made journal) = journal.at.number ≤ last_bank
Within _ = Unit {0}

entries_within : (words : List ℕ) (bank : ℕ) (summary : Result Summary ℕ) → number_at words bank 0 ≤ last_bank → Within (by_entries words bank summary)
entries_within words bank (Ok summary) within = within
entries_within words bank (Err damaged) within = tt

head_within : (words : List ℕ) (bank : ℕ) (place : Option ℕ) → number_at words bank 0 ≤ last_bank → Within (by_head words bank place)
head_within words bank (Some place) within = tt
head_within words bank None within = entries_within words bank _ within

tests_within : (words : List ℕ) (first second alike ahead railed : Bool) → (first ≡ true → ahead ≡ true → number_at words 0 0 ≤ last_bank) → (second ≡ true → railed ≡ true → number_at words 1 0 ≤ last_bank)
    → Within (by_headers words (cond (not first) (Err 0) (cond (not second) (Err 512) (cond alike (Err 512) (cond ahead (Ok (Some 0)) (cond railed (Ok (Some 1)) (Ok None)))))))
tests_within words false second alike ahead railed a b = tt
tests_within words true false alike ahead railed a b = tt
tests_within words true true true ahead railed a b = tt
tests_within words true true false true railed a b = head_within words 0 _ (a refl refl)
tests_within words true true false false true a b = head_within words 1 _ (b refl refl)
tests_within words true true false false false a b = tt

header_within : (word : ℕ) → is_header word ≡ true → is_railed word ≡ true → number_in word ≤ last_bank
header_within word header railed = grind (arith, nat_tests)

pub recovered_within : (words : List ℕ) → Within (recover words)
unfolding recover
recovered_within words =
    tests_within words (is_header (word_at words 0 0)) (is_header (word_at words 1 0)) _ _ (is_railed (word_at words 1 0))
    (λ header ahead. header_within (word_at words 0 0) header (and_parts _ _ ahead).0)
    (λ header railed. header_within (word_at words 1 0) header railed)

stands_within : (found : Recovered) (history : History) → Within found → StandsAs found (Journal history) → history.at.number ≤ last_bank
stands_within Unmade history within stands = absurd stands
stands_within (Damaged word) history within stands = absurd stands
stands_within (Made journal) history within stands = subst (λ (at : Position). at.number ≤ last_bank) stands.1 within

pub worn_banks : (words : Option (List ℕ)) (history : History) → Stands words (Journal history) → room history.at ≡ 0 → IsWorn history.at
worn_banks None history stands full = absurd stands
worn_banks (Some words) history stands full = record { within = stands_within (recover words) history (recovered_within words) stands; full = full }
