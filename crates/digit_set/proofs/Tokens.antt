-- The digits of tokens, in both forms.
use Rattle.std.proofs.Common.{◌≡◌, ◌≢◌, ℕ, Bool, true, false, not, ◌&&◌, ◌==◌, ◌+◌, ◌-◌, ◌<◌, ◌≤◌, List, length, slice_index, refl, arith, sym, ◌∙◌, ap, subst, Some, None, lit<, if◌then◌else◌}
use Rattle.std.specs.declared.option.Option.{Option}
use Rattle.std.specs.Option.{is_none}
use Rattle.std.proofs.lemmas.Bool.{eq-eqb, eqb-true}
use Rattle.paygo_spec.specs.declared.Form.{Form}
use Rattle.paygo_spec.specs.declared.Form.TheVariants.{Nine, Fifteen}
use Rattle.paygo_spec.specs.Digits.{number_after, digit_count, radix_of, zero_key, token_limit, digits_of, is_digit, first_fault, value_of, IsFirstFault}
use Rattle.digit_set.proofs.Numerals.{length-numeral, number_after-numeral, numeral_is_clear, numeral_of, IsOffset, offset_of, position_at}

-- there are keys
pub some_key : (form : Form) → 0 < radix_of form
some_key Nine = lit< tt
some_key Fifteen = lit< tt

-- the digits of a token are as many as the form has, and digits
pub length-digits_of : (form : Form) (token : ℕ) → length (digits_of form token) ≡ digit_count form
length-digits_of form token = length-numeral (radix_of form) (zero_key form) (digit_count form) token

pub first_fault-digits_of : (form : Form) (token : ℕ) → first_fault form (digits_of form token) ≡ None
first_fault-digits_of form token =
    numeral_is_clear (radix_of form) (zero_key form) (digit_count form) token 1 (some_key form)

-- the value, where the count is right and no fault is there
pub value_of-clear : (form : Form) (digits : List ℕ) → length digits ≡ digit_count form → first_fault form digits ≡ None → value_of form digits ≡ Some (number_after (radix_of form) (zero_key form) 0 digits)
value_of-clear form digits l f = rw (eq-eqb (length digits) (digit_count form) l, f) refl

pub value_of-digits_of : (form : Form) (token : ℕ) → token < token_limit form → value_of form (digits_of form token) ≡ Some token
value_of-digits_of form token h =
    value_of-clear form (digits_of form token) (length-digits_of form token) (first_fault-digits_of form token)
    ∙ ap (λ x. Some x) (number_after-numeral (radix_of form) (zero_key form) (digit_count form) token (some_key form) h)

-- what a value tells
some_if : (a b : Bool) (x t : ℕ) → (if a && b then Some x else None) ≡ Some t → (a ≡ true) × (b ≡ true) × (x ≡ t)
some_if true true x t h = (refl, refl, cc)
some_if true false x t h = absurd (cc)
some_if false b x t h = absurd (cc)

none_is : (o : Option ℕ) → is_none o ≡ true → o ≡ None
none_is None h = refl
none_is (Some x) h = absurd (cc)

pub value_tells : (form : Form) (digits : List ℕ) (token : ℕ) → value_of form digits ≡ Some token → (length digits ≡ digit_count form) × (first_fault form digits ≡ None) × (number_after (radix_of form) (zero_key form) 0 digits ≡ token)
value_tells form digits token h =
    let k : ((length digits == digit_count form) ≡ true) × (is_none (first_fault form digits) ≡ true) × (number_after (radix_of form) (zero_key form) 0 digits ≡ token) =
    some_if (length digits == digit_count form) (is_none (first_fault form digits)) _ token h in
    (eqb-true _ _ k.0, none_is _ k.1, k.2)

pub digits_of-value_of : (form : Form) (digits : List ℕ) (token : ℕ) → value_of form digits ≡ Some token → (token < token_limit form) × (digits ≡ digits_of form token)
digits_of-value_of form digits token h =
    let k : (length digits ≡ digit_count form) × (first_fault form digits ≡ None) × (number_after (radix_of form) (zero_key form) 0 digits ≡ token) = value_tells form digits token h in
    subst (λ x. (x < token_limit form) × (digits ≡ digits_of form x)) k.2
    (numeral_of (radix_of form) (zero_key form) (digit_count form) 1 digits k.0 k.1)

pub no_token : (form : Form) (digits : List ℕ) → value_of form digits ≡ None → (token : ℕ) → token < token_limit form → digits ≢ digits_of form token
no_token form digits n token h e =
    let v : value_of form digits ≡ Some token = subst (λ l. value_of form l ≡ Some token) (sym e) (value_of-digits_of form token h) in
    absurd (cc)

-- the first fault
not_true : (b : Bool) → not b ≡ true → b ≡ false
not_true true h = absurd (cc)
not_true false h = refl

not_false : (b : Bool) → not b ≡ false → b ≡ true
not_false true h = refl
not_false false h = absurd (cc)

pub is_first_fault : (form : Form) (digits : List ℕ) (place : ℕ) → first_fault form digits ≡ Some place → IsFirstFault form digits place
is_first_fault form digits place h =
    let k : (j : ℕ) × IsOffset (λ byte. not (is_digit form byte)) 1 digits place j =
    offset_of (λ byte. not (is_digit form byte)) 1 digits place h in
    let sum : place ≡ 1 + k.0 = k.1.0 in
    let within : k.0 < length digits = k.1.1 in
    let back : k.0 ≡ place - 1 = omega arith in
    record {
      counted = omega arith;
      inside = omega arith;
      fault = subst (λ j. is_digit form (slice_index digits j) ≡ false) back (not_true _ k.1.2);
      before = λ i a b. not_false _ (k.1.3 (i - 1) (omega arith));
    }

pub first_fault_at : (form : Form) (digits : List ℕ) (place : ℕ) → IsFirstFault form digits place → first_fault form digits ≡ Some place
first_fault_at form digits place k =
    let one : 1 ≤ place = k.counted in
    let most : place ≤ length digits = k.inside in
    let e : 1 + (place - 1) ≡ place = omega arith in
    position_at (λ byte. not (is_digit form byte)) 1 digits (place - 1) (omega arith)
    (rw k.fault refl)
    (λ m h. (let i : is_digit form (slice_index digits (m + 1 - 1)) ≡ true = k.before (m + 1) (omega arith) (omega arith) in
    let same : m + 1 - 1 ≡ m = omega arith in
    let here : is_digit form (slice_index digits m) ≡ true = subst (λ n. is_digit form (slice_index digits n) ≡ true) same i in
    ap not here))
    ∙ ap (λ n. Some n) e
