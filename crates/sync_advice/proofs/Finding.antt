-- What a device makes of the token of an order that the shop issued.
use Rattle.std.proofs.Common.{◌≡◌, ◌≢◌, ℕ, ◌+◌, ◌^◌, ◌<◌, ◌≤◌, ◌==◌, max, Bool, true, false, cond, Option, None, List, length, refl, sym, ap, ◌∙◌, subst, ⊎_elim, arith}
use Rattle.std.specs.Prelude.{nat_lt, unwrap_or}
use Rattle.std.proofs.lemmas.Bool.{cases_Bool}
use Rattle.std.proofs.lemmas.Bool.Decides.{nat_tests}
use Rattle.paygo_spec.specs.declared.Entry.{Entry}
use Rattle.paygo_spec.specs.declared.Form.{Form}
use Rattle.paygo_spec.specs.declared.Form.TheVariants.{Nine, Fifteen}
use Rattle.paygo_spec.specs.declared.Found.{Found}
use Rattle.paygo_spec.specs.declared.Found.TheVariants.{Old, Invalid}
use Rattle.paygo_spec.specs.Chain.{token_at}
use Rattle.paygo_spec.specs.Clock.{ClockView, clock_of}
use Rattle.paygo_spec.specs.Digits.{digit_count, digits_of, first_fault, token_limit}
use Rattle.paygo_spec.specs.Found.{is_match, both, is_raised, answer, takes, found}
use Rattle.paygo_spec.specs.History.{Summary, IsLimit, first_limit, raised_limit, limit_of, reach}
use Rattle.paygo_spec.specs.Least.{least, IsLeast}
use Rattle.paygo_spec.specs.Searched.{IsClean}
use Rattle.paygo_spec.specs.Typed.{Typed, WrongLength, Blocked, by_found, by_digits, by_length, token_in, typed}
use Rattle.paygo_spec.proofs.CleanTokens.{value_back}
use Rattle.paygo_spec.proofs.Leasts.{least_of_some, least_of_none}
use Rattle.digit_set.proofs.Tokens.{length-digits_of, first_fault-digits_of, value_of-digits_of}

same_count : (form : Form) → (digit_count form == digit_count form) ≡ true
same_count Nine = refl
same_count Fifteen = refl

fits_form : (form : Form) (token : ℕ) → token < 10 ^ 9 → token < token_limit form
fits_form Nine token small = small
fits_form Fifteen token small = omega arith

-- the digits of a token make what its search finds, where no entry is blocked
pub typed_found : (next : ℕ → ℕ) (start unit : ℕ) (form : Form) (origin : Summary) (entries : List Entry) (token : ℕ) (is : Found) → token < 10 ^ 9 → (clock_of unit origin entries).block ≡ 0
    → is ≡ found next start origin entries token → typed next start unit form origin entries (digits_of form token) ≡ by_found is
typed_found next start unit form origin entries token answer small free is =
    let clock : ClockView = clock_of unit origin entries in
    let long : (length (digits_of form token) == digit_count form) ≡ true = ap (λ (k : ℕ). k == digit_count form) (length-digits_of form token) ∙ same_count form in
    let read : token_in form (digits_of form token) ≡ token = ap (λ (o : Option ℕ). unwrap_or o 0) (value_of-digits_of form token (fits_form form token small)) in
    let open' : nat_lt 0 clock.block ≡ false = ap (nat_lt 0) free in
    ap (λ (t : ℕ). by_length form (digits_of form token) clock (found next start origin entries t)) read
    ∙ ap (λ (f : Found). by_length form (digits_of form token) clock f) (sym is)
    ∙ ap (λ (b : Bool). if_long b) long
    ∙ ap (λ (o : Option ℕ). by_digits clock answer o) (first_fault-digits_of form token)
    ∙ ap (λ (b : Bool). if_open b) open'
  where
    if_long : Bool → Typed
    if_long b = cond b (by_digits (clock_of unit origin entries) answer (first_fault form (digits_of form token))) (WrongLength (length (digits_of form token)))

    if_open : Bool → Typed
    if_open b = cond b (Blocked (clock_of unit origin entries).block) (by_found answer)

-- where the first match isn't valid, and no later one counts, the answer is that it is old
answer_old : (raised : Bool) (matches valid : ℕ → Bool) (value bound n : ℕ) → IsLeast matches (bound + 1) n → valid n ≡ false
    → (raised ≡ false → (m : ℕ) → m < bound + 1 → matches m ≡ true → m ≡ n) → answer raised matches valid value bound ≡ Old n
answer_old true matches valid value bound n first is alone = rw (least_of_some matches (bound + 1) n first, is) refl
answer_old false matches valid value bound n first is alone =
    let none : least (both matches valid) (bound + 1) ≡ None = least_of_none (both matches valid) (bound + 1) (λ m l. ⊎_elim
    (λ (t : matches m ≡ true). let e = alone refl m l t in let v : valid m ≡ false = subst (λ (k : ℕ). valid k ≡ false) (sym e) is in rw (t, v) refl)
    (λ (f : matches m ≡ false). rw f refl)
    (cases_Bool (matches m))) in
    rw (none, least_of_some matches (bound + 1) n first) refl

-- where no count matches, it is none of the chain's
answer_invalid : (raised : Bool) (matches valid : ℕ → Bool) (value bound : ℕ) → ((m : ℕ) → m < bound + 1 → matches m ≡ false) → answer raised matches valid value bound ≡ Invalid
answer_invalid true matches valid value bound none = rw (least_of_none matches (bound + 1) none) refl
answer_invalid false matches valid value bound none =
    let b : least (both matches valid) (bound + 1) ≡ None = least_of_none (both matches valid) (bound + 1) (λ m l. rw (none m l) refl) in
    rw (b, least_of_none matches (bound + 1) none) refl

module _ (next : ℕ → ℕ) (start : ℕ) (origin : Summary) (entries : List Entry) (n v : ℕ) (few : v < 1000) (clean : IsClean next start n v) (limited : IsLimit (limit_of origin entries)) where
  matches : ℕ → Bool
  matches m = is_match next start (token_at next start v n) v m

  by_value : (is : Found) → answer (is_raised (limit_of origin entries)) matches (takes origin entries v) v (reach origin entries v) ≡ is → found next start origin entries (token_at next start v n) ≡ is
  unfolding matches
  by_value is h =
      subst (λ (x : ℕ). answer (is_raised (limit_of origin entries)) (is_match next start (token_at next start v n) x) (takes origin entries x) x (reach origin entries x) ≡ is) (sym (value_back next start v n few)) h

  only : (m : ℕ) → m ≤ max first_limit n → matches m ≡ true → m ≡ n
  unfolding matches
  only m l t = clean m l (let e : token_at next start v m ≡ token_at next start v n = grind (arith, nat_tests) in e)

  not_below : (m : ℕ) → m ≤ max first_limit n → m ≢ n → matches m ≡ false
  not_below m l ne = ⊎_elim (λ (t : matches m ≡ true). absurd (ne (only m l t))) (λ (f : matches m ≡ false). f) (cases_Bool (matches m))

  own : matches n ≡ true
  unfolding matches
  own = grind (arith, nat_tests)

  -- on a device that isn't raised the reach is at most the first limit
  low_reach : is_raised (limit_of origin entries) ≡ false → reach origin entries v ≤ first_limit
  low_reach f =
      ⊎_elim
      (λ (l : limit_of origin entries ≡ first_limit). omega arith)
      (λ (l : limit_of origin entries ≡ raised_limit). let t : is_raised (limit_of origin entries) ≡ true = grind (arith, nat_tests) in absurd (let q : true ≡ false = sym t ∙ f in cc))
      limited

  -- the token of a count in reach that the device doesn't take is old
  pub clean_old : n ≤ reach origin entries v → takes origin entries v n ≡ false → found next start origin entries (token_at next start v n) ≡ Old n
  clean_old up not_taken =
      by_value (Old n) (answer_old (is_raised (limit_of origin entries)) matches (takes origin entries v) v (reach origin entries v) n
      (record { below = omega arith; passes = own; first = λ m l. not_below m (omega arith) (λ e. omega arith) })
      not_taken
      (λ f m l t. only m (let r = low_reach f in omega arith) t))

  -- and that of a count out of reach is none of the chain's
  pub clean_invalid : reach origin entries v < n → found next start origin entries (token_at next start v n) ≡ Invalid
  clean_invalid far =
      by_value Invalid (answer_invalid (is_raised (limit_of origin entries)) matches (takes origin entries v) v (reach origin entries v) (λ m l. not_below m (omega arith) (λ e. omega arith)))
