-- What comes of typing a token that may be used.
use Rattle.std.proofs.Common.{◌≡◌, ◌≢◌, ℕ, ◌+◌, ◌*◌, ◌^◌, ◌<◌, ◌≤◌, min, Bool, true, false, cond, not, ◌==◌, List, [], ◌∷◌, ◌++◌, length, map, Option, Some, None, refl, sym, ap, ◌∙◌, subst, arith, append_assoc, append-nil}
use Rattle.std.specs.Prelude.{nat_lt, unwrap_or, IsSome}
use Rattle.std.specs.List.{position_from}
use Rattle.std.specs.Option.{option_map}
use Rattle.std.proofs.lemmas.Bool.Decides.{nat_tests}
use Rattle.paygo_spec.specs.declared.Entry.{Entry}
use Rattle.paygo_spec.specs.declared.Entry.TheVariants.{Accept}
use Rattle.paygo_spec.specs.declared.Event.TheVariants.{Key}
use Rattle.paygo_spec.specs.declared.Form.{Form}
use Rattle.paygo_spec.specs.declared.Form.TheVariants.{Nine, Fifteen}
use Rattle.paygo_spec.specs.declared.Found.{Found}
use Rattle.paygo_spec.specs.declared.Found.TheVariants as found_is
use Rattle.paygo_spec.specs.declared.Reply.{Reply}
use Rattle.paygo_spec.specs.declared.Reply.TheVariants as reply_is
use Rattle.paygo_spec.specs.declared.TokenKind.{TokenKind}
use Rattle.paygo_spec.specs.declared.TokenKind.TheVariants.{Add, Set, Free, Sync}
use Rattle.paygo_spec.specs.Clock.{ClockView, HasEffect, clock_of, most_left, taken_by}
use Rattle.paygo_spec.specs.Digits.{digit_count, digits_of, first_fault, is_digit, token_limit}
use Rattle.paygo_spec.specs.Found.{found}
use Rattle.paygo_spec.specs.History.{Summary, kind_of}
use Rattle.paygo_spec.specs.Machine.{State, Stored, History, Answers, Acts, ActsIf, Replies, Meets, MayAdd, GoesBy, clock_at, unit_for, effect_of, effect_of_typed, typed_on, reply_to_entry, reply_to_token, keys_after}
use Rattle.paygo_spec.specs.Pad.{Keys, after_key}
use Rattle.paygo_spec.specs.Typed.{Typed, WrongLength, Blocked, Makes, by_found, by_digits, by_length, token_in, typed}
use Rattle.digit_set.proofs.Tokens.{length-digits_of, first_fault-digits_of, value_of-digits_of}
use Rattle.ledger_spec.specs.declared.Order.{Order}
use Rattle.ledger_spec.specs.Sound.{Sound}
use Rattle.run_spec.specs.Run.{Step, Act, Answer, Said, Did, Told, World, Run, MayAnswer}
use Rattle.run_spec.specs.Headline.{IsUp, IsUsable, IsTaken, IsTakenLast, typing}
use Rattle.run_laws.proofs.Once.{in_range, order_found}

same_count : (form : Form) → (digit_count form == digit_count form) ≡ true
same_count Nine = refl
same_count Fifteen = refl

fits_form : (form : Form) (token : ℕ) → token < 10 ^ 9 → token < token_limit form
fits_form Nine token small = small
fits_form Fifteen token small = omega arith

-- the digits of such a token make its entry
typed_valid : (next : ℕ → ℕ) (start unit : ℕ) (form : Form) (origin : Summary) (entries : List Entry) (token n v : ℕ) → token < 10 ^ 9 → (clock_of unit origin entries).block ≡ 0
    → found_is.Valid n v ≡ found next start origin entries token
    → typed next start unit form origin entries (digits_of form token) ≡ Makes (Accept n v)
typed_valid next start unit form origin entries token n v small free is =
    let clock : ClockView = clock_of unit origin entries in
    let long : (length (digits_of form token) == digit_count form) ≡ true = ap (λ (k : ℕ). k == digit_count form) (length-digits_of form token) ∙ same_count form in
    let read : token_in form (digits_of form token) ≡ token = ap (λ (o : Option ℕ). unwrap_or o 0) (value_of-digits_of form token (fits_form form token small)) in
    let open' : nat_lt 0 clock.block ≡ false = ap (nat_lt 0) free in
    ap (λ (t : ℕ). by_length form (digits_of form token) clock (found next start origin entries t)) read
    ∙ ap (λ (f : Found). by_length form (digits_of form token) clock f) (sym is)
    ∙ ap (λ (b : Bool). if_long b) long
    ∙ ap (λ (o : Option ℕ). by_digits clock (found_is.Valid n v) o) (first_fault-digits_of form token)
    ∙ ap (λ (b : Bool). if_open b) open'
  where
    if_long : Bool → Typed
    if_long b = cond b (by_digits (clock_of unit origin entries) (found_is.Valid n v) (first_fault form (digits_of form token))) (WrongLength (length (digits_of form token)))

    if_open : Bool → Typed
    if_open b = cond b (Blocked (clock_of unit origin entries).block) (by_found (found_is.Valid n v))

-- what a device that is up answers to a key
key_acts : (next : List ℕ → ℕ → ℕ) (key : ℕ) (reply : Option Reply) (old new : State) (history : History) → IsUp old history → Acts next (Key key) reply old new
    → Meets history (effect_of next history old.keys (Key key)) reply new.stored × GoesBy reply (after_key key old.keys) old new
key_acts next key reply old new history up acts =
    subst (λ (stored : Stored). Replies next stored old.keys (Key key) reply new.stored × GoesBy reply (keys_after stored (Key key) old.keys) old new) up.stored
    (subst (λ (on : Bool). ActsIf on next (Key key) reply old new) up.on acts)

-- The device is up with this history, and these digits were typed.
pub record HasTyped (history : History) (digits : List ℕ) (state : State) : Type 0 where
  pub up : IsUp state history
  pub typed_is : state.keys.pressed ≡ digits

-- a key but `#` isn't answered
quiet : (next : List ℕ → ℕ → ℕ) (key : ℕ) (reply : Option Reply) (old new : State) (history : History) → key ≢ 35 → IsUp old history → Acts next (Key key) reply old new
    → (reply ≡ None) × IsUp new history × (new.keys ≡ after_key key old.keys)
quiet next key reply old new history other up acts =
    let acted = key_acts next key reply old new history up acts in
    let test : (key == 35) ≡ false = grind (arith, nat_tests) in
    let met = subst (λ (b : Bool). Meets history (cond b (effect_of_typed history (typed_on next history old.keys.pressed)) (Answers None history.entries)) reply new.stored) test acted.0 in
    let goes = subst (λ (r : Option Reply). GoesBy r (after_key key old.keys) old new) met.0 acted.1 in
    (met.0, record { on = goes.on_is; stored = met.1 }, goes.keys_are)

-- a byte of the first places is a digit of the form, where none is wrong
first_clear : (form : Form) (i key : ℕ) (keys : List ℕ) → position_from (λ byte. not (is_digit form byte)) i (key ∷ keys) ≡ None
    → (is_digit form key ≡ true) × (position_from (λ byte. not (is_digit form byte)) (i + 1) keys ≡ None)
first_clear form i key keys none = by (is_digit form key) refl none
  where
    by : (b : Bool) → is_digit form key ≡ b → cond (not b) (Some i) (position_from (λ byte. not (is_digit form byte)) (i + 1) keys) ≡ None
        → (is_digit form key ≡ true) × (position_from (λ byte. not (is_digit form byte)) (i + 1) keys ≡ None)
    by true is none = (is, none)
    by false is none = absurd (let bad : Some i ≡ None = none in cc)

digit_key : (form : Form) (key : ℕ) → is_digit form key ≡ true → 48 ≤ key
digit_key Nine key is = grind (arith, nat_tests)
digit_key Fifteen key is = grind (arith, nat_tests)

-- another key than `*` and `#` is a digit more
digit_more : (key : ℕ) (keys : Keys) → 48 ≤ key → (after_key key keys).pressed ≡ keys.pressed ++ key ∷ []
digit_more key keys up = let test : (key == 42) ≡ false = grind (arith, nat_tests) in let other : (key == 35) ≡ false = grind (arith, nat_tests) in rw (test, other) refl

-- The keys of some bytes.
abbrev pub keys_of : List ℕ → List Step
keys_of bytes = map (λ key. Act (Key key)) bytes

-- one answer more that is none
one_before : (history : History) (n v : ℕ) (answers : List (Option Answer)) → IsTakenLast history n v answers → IsTakenLast history n v (None ∷ answers)
one_before history n v [] last = absurd last
one_before history n v (answer ∷ answers) last = last

-- a key is an event, and its answer a reply
key_taken : (next : List ℕ → ℕ → ℕ) (key : ℕ) (answer : Option Answer) (old new : World) → MayAnswer next (Act (Key key)) answer old new
    → (reply : Option Reply) × (answer ≡ option_map Told reply) × Acts next (Key key) reply old.device new.device
key_taken next key None old new may = (None, refl, may.0.1)
key_taken next key (Some (Said text)) old new may = absurd may
key_taken next key (Some (Did answer)) old new may = absurd may
key_taken next key (Some (Told reply)) old new may = (Some reply, refl, may.0.1)

-- The clock after an add token, by whether the device is free.
abbrev pub added_if : ℕ → ℕ → ClockView → Bool → ClockView
added_if unit v clock b = cond b (record clock { fails = 0 }) (record clock { left = min (clock.left + v * unit) most_left; fails = 0 })

true_not_false : (b : Bool) → b ≡ true → b ≡ false → ⊥
true_not_false true is other = let bad : true ≡ false = other in cc
true_not_false false is other = let bad : false ≡ true = is in cc

-- the reply to an add token, by whether the device is free
added_as : (history : History) (n v : ℕ) (b : Bool) → kind_of n v ≡ Some Add → (clock_at history history.entries).free ≡ b
    → IsTaken history n v (Some (Told (reply_to_token (Some Add) n v (added_if (unit_for history) v (clock_at history history.entries) b))))
added_as history n v true kind is =
    record { kind = kind; count_is = refl; value_is = refl; free_is = refl; added = λ other. absurd (true_not_false (clock_at history history.entries).free is other); stays = λ _. refl }
added_as history n v false kind is =
    record { kind = kind; count_is = refl; value_is = refl; free_is = refl; added = λ _. refl; stays = λ other. absurd (true_not_false (clock_at history history.entries).free other is) }

-- the reply to an accepted token has its count and value, and the time left is what the value makes of the time before
accepted_as : (history : History) (n v : ℕ) (kind : Option TokenKind) → kind_of n v ≡ kind → IsSome kind
    → IsTaken history n v (Some (Told (reply_to_token kind n v (taken_by (unit_for history) kind v (clock_at history history.entries)))))
accepted_as history n v (Some Add) kind some = added_as history n v (clock_at history history.entries).free kind refl
accepted_as history n v (Some Set) kind some = record { kind = kind; count_is = refl; value_is = refl; left_is = refl }
accepted_as history n v (Some Free) kind some = (kind, refl)
accepted_as history n v (Some Sync) kind some = (kind, refl)
accepted_as history n v None kind some = absurd (let bad : false ≡ true = some in cc)

accepted : (history : History) (n v : ℕ) → HasEffect n v → IsTaken history n v (Some (Told (reply_to_entry (Accept n v) (clock_at history (Accept n v ∷ history.entries)))))
accepted history n v effect = accepted_as history n v (kind_of n v) refl effect

-- what is answered to an accepted token
taken : (history : History) (n v : ℕ) (reply : Option Reply) (new : Stored) → HasEffect n v → MayAdd history (Accept n v) reply new → IsTaken history n v (option_map Told reply)
taken history n v (Some reply_is.Worn) new effect may = may.0
taken history n v (Some reply_is.Down) new effect may = tt
taken history n v _ new effect may = subst (λ (r : Option Reply). IsTaken history n v (option_map Told r)) (sym may.1) (accepted history n v effect)

star_other : (key : ℕ) → key ≡ 42 → key ≢ 35
star_other key star = λ e. omega (arith, star, e)

-- `*` clears the pad
starred : (next : List ℕ → ℕ → ℕ) (answer : Option Answer) (old new : World) (history : History) → IsUp old.device history → MayAnswer next (Act (Key 42)) answer old new → (answer ≡ None) × HasTyped history [] new.device
starred next answer old new history up may =
    let by = key_taken next 42 answer old new may in
    let still = quiet next 42 by.0 old.device new.device history (star_other 42 refl) up by.2 in
    (by.1 ∙ ap (option_map Told) still.0, record { up = still.1; typed_is = ap (λ (k : Keys). k.pressed) still.2 })

module _ (next : List ℕ → ℕ → ℕ) (history : History) (token n v : ℕ) (below : token < 10 ^ 9) (free : (clock_at history history.entries).block ≡ 0) (effect : HasEffect n v)
    (is : found (next history.config.key) history.config.start history.start history.entries token ≡ found_is.Valid n v) where
  -- `#` behind the digits
  entered : (answer : Option Answer) (old new : World) → HasTyped history (digits_of history.config.form token) old.device → MayAnswer next (Act (Key 35)) answer old new → IsTaken history n v answer
  entered answer old new typed may =
      let by = key_taken next 35 answer old new may in
      let acted = key_acts next 35 by.0 old.device new.device history typed.up by.2 in
      let makes = ap (typed_on next history) typed.typed_is ∙ typed_valid (next history.config.key) history.config.start (unit_for history) history.config.form history.start history.entries token n v below free (sym is) in
      let met = subst (λ (t : Typed). Meets history (effect_of_typed history t) by.0 new.device.stored) makes acted.0 in
      subst (λ (a : Option Answer). IsTaken history n v a) (sym by.1) (taken history n v by.0 new.device.stored effect met)

  -- the digits that are left, and `#`
  digits_left : (i : ℕ) (left typed : List ℕ) (answers : List (Option Answer)) (old new : World) → typed ++ left ≡ digits_of history.config.form token
      → position_from (λ byte. not (is_digit history.config.form byte)) i left ≡ None → HasTyped history typed old.device → Run next old (keys_of (left ++ 35 ∷ [])) answers new → IsTakenLast history n v answers
  digits_left i [] typed [] old new all clear has run = absurd run
  digits_left i [] typed (answer ∷ []) old new all clear has run =
      entered answer old run.0 (record { up = has.up; typed_is = has.typed_is ∙ sym (append-nil typed) ∙ all }) run.1
  digits_left i [] typed (answer ∷ other ∷ answers) old new all clear has run = absurd run.2
  digits_left i (key ∷ keys) typed [] old new all clear has run = absurd run
  digits_left i (key ∷ keys) typed (answer ∷ answers) old new all clear has run =
      let first = first_clear history.config.form i key keys clear in
      let up : 48 ≤ key = digit_key history.config.form key first.0 in
      let by = key_taken next key answer old run.0 run.1 in
      let still = quiet next key by.0 old.device run.0.device history (λ e. omega (arith, e, up)) has.up by.2 in
      let pressed = ap (λ (k : Keys). k.pressed) still.2 ∙ digit_more key old.device.keys up ∙ ap (λ l. l ++ key ∷ []) has.typed_is in
      let last = digits_left (i + 1) keys (typed ++ key ∷ []) answers run.0 new (append_assoc typed (key ∷ []) keys ∙ all) first.1 (record { up = still.1; typed_is = pressed }) run.2 in
      subst (λ (a : Option Answer). IsTakenLast history n v (a ∷ answers)) (sym (by.1 ∙ ap (option_map Told) still.0)) (one_before history n v answers last)

  pub typed_taken : (answers : List (Option Answer)) (old new : World) → IsUp old.device history → Run next old (typing history.config.form token) answers new → IsTakenLast history n v answers
  typed_taken [] old new up run = absurd run
  typed_taken (answer ∷ answers) old new up run =
      let star = starred next answer old run.0 history up run.1 in
      let last = digits_left 1 (digits_of history.config.form token) [] answers run.0 new refl (first_fault-digits_of history.config.form token) star.1 run.2 in
      subst (λ (a : Option Answer). IsTakenLast history n v (a ∷ answers)) (sym star.0) (one_before history n v answers last)

pub usable_taken : (next : List ℕ → ℕ → ℕ) (start now : World) (answers : List (Option Answer)) (history : History) (order : Order)
    → Sound next start.tables → IsUp start.device history → IsUsable start.tables history order → Run next start (typing history.config.form order.token) answers now → IsTakenLast history order.count order.value answers
usable_taken next start now answers history order sound up usable run =
    typed_taken next history order.token order.count order.value (in_range next start.tables usable.row order sound usable.has).token usable.unblocked usable.valid.2
    (order_found next start.tables usable.row order history sound usable.has usable.matched usable.valid) answers start now up run
