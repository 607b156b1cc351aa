-- What a device does at an event, its machine may do, and a planned cut comes where it falls.
use Rattle.std.proofs.Common.{◌≡◌, ◌≢◌, inl, ℕ, zero, suc, ◌+◌, ◌-◌, ◌/◌, ◌%◌, ◌<◌, ◌≤◌, true, false, nat_lt, List, [], ◌∷◌, ◌++◌, length, get_or, take, map, All, Option, Some, None, refl, sym, ap, ◌∙◌, arith, subst}
use Rattle.std.specs.Prelude.{IsSomeAnd}
use Rattle.std.proofs.lemmas.Bool.Decides.{nat_tests}
use Rattle.std.proofs.lemmas.List.{take_more, map-append}
use Rattle.std.proofs.lemmas.List.Elements.{All-nil, All-push, All-same}
use Rattle.std.proofs.lemmas.Nat.{mod_below}
use Rattle.paygo_spec.specs.declared.Event.{Event}
use Rattle.paygo_spec.specs.declared.Event.TheVariants.{Key}
use Rattle.paygo_spec.specs.declared.Event.TheVariants as event_is
use Rattle.paygo_spec.specs.declared.Form.{Form}
use Rattle.paygo_spec.specs.declared.Form.TheVariants.{Nine, Fifteen}
use Rattle.paygo_spec.specs.declared.Reply.{Reply}
use Rattle.paygo_spec.specs.declared.Reply.TheVariants.{Down}
use Rattle.paygo_spec.specs.Flash.{DueAfter, DueWithin, FlashView, AreErased, erased_word}
use Rattle.paygo_spec.specs.Digits.{numeral, digits_of}
use Rattle.paygo_spec.specs.Pad.{IsKey, kept_of, no_keys}
use Rattle.paygo_spec.specs.Recovery.{Recovered, Unmade, word_at, newest_bank, by_headers, recover}
use Rattle.paygo_spec.specs.Machine.{Stands, StandsAs, Blank, IsEvent, calls_of}
use Rattle.paygo_spec.specs.declared.Cut.{Cut}
use Rattle.device_core.specs.declared.device.Device.{Device}
use Rattle.device_core.specs.Memory.{Does, Costs, CostsAsSaid, is_on}
use Rattle.fleet_spec.specs.Fleet.{Site, Happens, Happen, falls_in, planned_after, CutsByPlan, new_site, config_of, typed}
use Rattle.ledger_spec.specs.declared.Enrol.{Enrol}
use Rattle.fleet_sim.specs.declared.tally.Tally.{Tally}
use Rattle.fleet_sim.specs.Tallies.{counted}
use Rattle.fleet_sim.specs.Sites.{SiteView, StandsFor, Follows, Counts, IsMade}
use Rattle.fleet_sim.proofs.Counting.{counted-append}

-- an erased flash stands for no device
blank : (found : Recovered) → found ≡ Unmade → StandsAs found Blank
blank found is = subst (λ (r : Recovered). StandsAs r Blank) (sym is) tt

erased_unmade : (words : List ℕ) → AreErased words → recover words ≡ Unmade
unfolding recover
erased_unmade words are =
    let first : word_at words 0 0 ≡ erased_word = are.each 0 (omega arith) in
    let second : word_at words 1 0 ≡ erased_word = are.each 512 (omega arith) in
    ap (λ n. by_headers words (newest_bank n (word_at words 1 0))) first
    ∙ ap (λ n. by_headers words (newest_bank erased_word n)) second

erased_stands : (words : Option (List ℕ)) → IsSomeAnd words AreErased → Stands words Blank
erased_stands None are = are
erased_stands (Some words) are = blank (recover words) (erased_unmade words are)

-- a device before its first event
pub starts : (device : Device) (flash : FlashView) (cut : Option Cut) → is_on device ≡ false → device.pad ≡ kept_of no_keys
    → IsSomeAnd flash.words AreErased → flash.due ≡ Some None → flash.faults ≡ 0
    → StandsFor (record { device = device; flash = flash; cut = cut }) (new_site 0)
starts device flash cut off pad words due faults = record {
  agrees = record { on_is = sym off; pad_is = pad; stand = record { words = erased_stands flash.words words; faults = sym faults } };
  due = due;
}

-- the planned cut came
within : (calls : ℕ) (old new : Option ℕ) → DueWithin calls (Some old) (Some new)
    → (falls_in calls old ≡ true) × (new ≡ planned_after calls old)
within calls None new came = absurd came
within calls (Some due) new (less, is) =
    let test : nat_lt due calls ≡ true = grind (arith, nat_tests) in
    (test, rw test (let none : new ≡ None = cc in none))

-- no planned cut came
passed : (calls : ℕ) (old new : Option ℕ) → DueAfter calls (Some old) (Some new)
    → (falls_in calls old ≡ false) × (new ≡ planned_after calls old)
passed calls None new is = (refl, let none : new ≡ None = cc in none)
passed calls (Some due) new (most, is) =
    let test : nat_lt due calls ≡ false = grind (arith, nat_tests) in
    (test, rw test (let less : new ≡ Some (due - calls) = cc in less))

down_cuts : (calls : ℕ) (old new : Option ℕ) → DueWithin calls (Some old) (Some new)
    → CutsByPlan (Some calls) (Some Down) old new
down_cuts calls old new came = let both = within calls old new came in ((λ e. both.0, λ e. refl), both.1)

other_passes : (calls : ℕ) (answer : Option Reply) (old new : Option ℕ) → answer ≢ Some Down
    → DueAfter calls (Some old) (Some new) → CutsByPlan (Some calls) answer old new
other_passes calls answer old new other is =
    let both = passed calls old new is in
    ((λ e. absurd (other e), λ e. absurd (let bad : false ≡ true = sym both.0 ∙ e in cc)), both.1)

-- by the calls that an event makes
cuts_of : (calls : Option ℕ) (answer : Option Reply) (was now : FlashView) (old new : Option ℕ) → was.due ≡ Some old
    → now.due ≡ Some new → Costs calls answer was now → CutsByPlan calls answer old new
cuts_of None answer was now old new told told_now costs = tt
cuts_of (Some calls) (Some Down) was now old new told told_now costs =
    down_cuts calls old new
    (subst (λ due. DueWithin calls due (Some new)) told (subst (λ due. DueWithin calls was.due due) told_now costs))
cuts_of (Some calls) answer was now old new told told_now costs =
    other_passes calls answer old new (λ e. cc)
    (subst (λ due. DueAfter calls due (Some new)) told (subst (λ due. DueAfter calls was.due due) told_now costs))

module _ (next : List ℕ → ℕ → ℕ) where
  -- an event that a device did
  pub follows : (event : Event) (answer : Option Reply) (old new : Device) (was now : FlashView) (due : Option ℕ) (planned left : Option Cut)
      → IsEvent event → now.due ≡ Some due
      → Does next event old was answer new now → CostsAsSaid next event old was answer now
      → Follows next (event ∷ []) (answer ∷ []) (record { device = old; flash = was; cut = planned }) (record { device = new; flash = now; cut = left })
  follows event answer old new was now due planned left is told does costs site stands =
      let did = does site.device stands.agrees in
      let after : Site = record { device = did.0; due = due } in
      let happens : Happens next event answer site after =
      record {
        is_event = is;
        acts = did.1;
        cuts = cuts_of (calls_of next site.device event) answer was now site.due due
            stands.due told (costs site.device stands.agrees);
      } in
      (after, (after, happens, refl), record { agrees = did.2; due = told })

  -- more events behind others
  pub happen-append : (events more : List Event) (answers others : List (Option Reply)) (old mid new : Site)
      → Happen next events answers old mid → Happen next more others mid new
      → Happen next (events ++ more) (answers ++ others) old new
  happen-append [] more [] others old mid new first second = subst (λ (s : Site). Happen next more others s new) first second
  happen-append (event ∷ events) more (answer ∷ answers) others old mid new first second =
      (first.0, first.1, happen-append events more answers others first.0 mid new first.2 second)
  happen-append [] more (answer ∷ answers) others old mid new first second = absurd first
  happen-append (event ∷ events) more [] others old mid new first second = absurd first

  -- no event yet
  pub counts_none : (view : SiteView) (tally : Tally) → Counts next [] view tally view tally
  counts_none view tally = record { answers = []; tally_is = refl; follows = λ site stands. (site, refl, stands) }

  -- an event whose answer was counted
  pub counts_more : (events more : List Event) (first old new : SiteView) (none before after : Tally)
      → Counts next events first none old before → Counts next more old before new after
      → Counts next (events ++ more) first none new after
  counts_more events more first old new none before after done later = record {
    answers = done.answers ++ later.answers;
    tally_is = later.tally_is ∙ ap (counted later.answers) done.tally_is ∙ sym (counted-append done.answers later.answers none);
    follows = λ site stands.
        let mid = done.follows site stands in
        let end = later.follows mid.0 mid.2 in
        (end.0, happen-append events more done.answers later.answers site mid.0 end.0 mid.1 end.1, end.2);
  }

  -- a device that was powered and made
  pub made : (enrol : Enrol) (first second : Option Reply) (start mid end : SiteView) → StandsFor start (new_site 0)
      → Follows next (event_is.Power ∷ []) (first ∷ []) start mid
      → Follows next (event_is.Make (config_of enrol) ∷ []) (second ∷ []) mid end → IsMade next enrol end
  made enrol first second start mid end stands powers makes =
      let on = powers (new_site 0) stands in
      let up = makes on.0 on.2 in
      record {
        answers = first ∷ second ∷ [];
        site = up.0;
        happen = happen-append (event_is.Power ∷ []) (event_is.Make (config_of enrol) ∷ []) (first ∷ []) (second ∷ [])
            (new_site 0) on.0 up.0 on.1 up.1;
        stands = up.2;
      }

  -- one key more
  pub press_more : (keys : List ℕ) (i : ℕ) (first old new : SiteView) (none before after : Tally) → i < length keys
      → Counts next (map Key (take i keys)) first none old before
      → Counts next (Key (get_or keys i 0) ∷ []) old before new after
      → Counts next (map Key (take (i + 1) keys)) first none new after
  press_more keys i first old new none before after within done one =
      let is : map Key (take (i + 1) keys) ≡ map Key (take i keys) ++ Key (get_or keys i 0) ∷ [] =
      ap (map Key) (take_more keys i 0 within) ∙ map-append Key (take i keys) (get_or keys i 0 ∷ []) in
      subst (λ (events : List Event). Counts next events first none new after) (sym is)
      (counts_more (map Key (take i keys)) (Key (get_or keys i 0) ∷ []) first old new none before after done one)

  -- digits, and `#`
  pub typed_all : (digits pressed : List ℕ) (first old new : SiteView) (none before after : Tally) → pressed ≡ digits
      → Counts next (map Key pressed) first none old before → Counts next (Key 35 ∷ []) old before new after
      → Counts next (typed digits) first none new after
  typed_all digits pressed first old new none before after is done hash =
      let keys : map Key pressed ++ Key 35 ∷ [] ≡ typed digits =
      ap (λ l. map Key l ++ Key 35 ∷ []) is ∙ sym (map-append Key digits (35 ∷ [])) in
      subst (λ (events : List Event). Counts next events first none new after) keys
      (counts_more (map Key pressed) (Key 35 ∷ []) first old new none before after done hash)

-- digits are keys
numeral_keys : (radix key n number : ℕ) → 0 < radix → 48 ≤ key → key + radix ≤ 58
    → All IsKey (numeral radix key n number)
unfolding numeral
numeral_keys radix key zero number some low high = All-nil IsKey
numeral_keys radix key (suc n) number some low high =
    let below : number % radix < radix = mod_below number radix some in
    All-push IsKey (numeral radix key n (number / radix)) (key + number % radix)
    (numeral_keys radix key n (number / radix) some low high) (inl (omega arith, omega arith))

digits_keys : (form : Form) (token : ℕ) → All IsKey (digits_of form token)
digits_keys Nine token = numeral_keys 10 48 9 token (omega arith) (omega arith) (omega arith)
digits_keys Fifteen token = numeral_keys 4 49 15 token (omega arith) (omega arith) (omega arith)

pub written_keys : (form : Form) (token : ℕ) (written : List ℕ) → written ≡ digits_of form token → All IsKey written
written_keys form token written is = All-same IsKey written (digits_of form token) is (digits_keys form token)
