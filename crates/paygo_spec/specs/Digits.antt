-- Digits: how a customer types a token. Nine digits from 0 to 9 are the token as a decimal number, and fifteen digits
-- from 1 to 4 are its 30 bits in pairs, for keypads that have four keys.
use Rattle.std.specs.Prelude.{◌≡◌, ℕ, zero, suc, ◌+◌, ◌-◌, ◌*◌, ◌/◌, ◌%◌, ◌^◌, ◌<◌, ◌≤◌, Bool, true, false, ◌&&◌, ◌==◌, nat_le, nat_lt, not, List, [], ◌∷◌, ◌++◌, length, slice_index, is_none, if◌then◌else◌}
use Rattle.std.specs.List.{position_from}
use Rattle.std.specs.declared.option.Option.{Option}
use Rattle.std.specs.declared.option.Option.TheVariants.{None, Some}
use Rattle.paygo_spec.specs.declared.Form.{Form}
use Rattle.paygo_spec.specs.declared.Form.TheVariants.{Nine, Fifteen}

-- How many digits a token has.
abbrev pub digit_count : Form → ℕ
digit_count Nine = 9
digit_count Fifteen = 15

-- How many keys there are for a digit.
abbrev pub radix_of : Form → ℕ
radix_of Nine = 10
radix_of Fifteen = 4

-- The byte of the key that stands for 0: the others follow it. It is the key `0` where there are ten, and the key
-- `1` where there are four, so that each pair of bits is typed as its number plus one.
abbrev pub zero_key : Form → ℕ
zero_key Nine = 48
zero_key Fifteen = 49

-- The form with this number of digits, if there is one.
abbrev pub form_of : ℕ → Option Form
form_of number = if number == 9 then Some Nine else if number == 15 then Some Fifteen else None

-- The numbers that can be typed are those below this: each number that so many digits can say.
abbrev pub token_limit : Form → ℕ
token_limit form = radix_of form ^ digit_count form

-- The last n digits of a number, the most significant one first, in keys that begin at this byte.
unfoldable pub numeral : ℕ → ℕ → ℕ → ℕ → List ℕ
numeral radix key zero number = []
numeral radix key (suc n) number = numeral radix key n (number / radix) ++ (key + number % radix) ∷ []

-- The digits of a token: what the customer types. In the form Fifteen these are its 30 bits in pairs, from the most
-- significant pair on, each printed as its number plus one.
abbrev pub digits_of : Form → ℕ → List ℕ
digits_of form token = numeral (radix_of form) (zero_key form) (digit_count form) token

-- The byte is a key of the form.
abbrev pub is_digit : Form → ℕ → Bool
is_digit form byte = nat_le (zero_key form) byte && nat_lt byte (zero_key form + radix_of form)

-- The first place whose byte isn't a digit of the form, where the first byte is at place 1; or none.
abbrev pub first_fault : Form → List ℕ → Option ℕ
first_fault form digits = position_from (λ byte. not (is_digit form byte)) 1 digits

-- The number that these digits say, behind the digits of another number.
abbrev pub number_after : ℕ → ℕ → ℕ → List ℕ → ℕ
number_after radix key number [] = number
number_after radix key number (digit ∷ digits) = number_after radix key (number * radix + (digit - key)) digits

-- The one token whose digits these are; or none, where the count is wrong or a byte is no digit of the form.
abbrev pub value_of : Form → List ℕ → Option ℕ
value_of form digits =
    if length digits == digit_count form && is_none (first_fault form digits)
    then Some (number_after (radix_of form) (zero_key form) 0 digits)
    else None

-- At this place, counted from 1, stands the first byte that isn't a digit of the form.
pub record IsFirstFault (form : Form) (digits : List ℕ) (place : ℕ) : Type 0 where
  pub counted : 1 ≤ place
  pub inside : place ≤ length digits
  pub fault : is_digit form (slice_index digits (place - 1)) ≡ false
  pub before : (i : ℕ) → 1 ≤ i → i < place → is_digit form (slice_index digits (i - 1)) ≡ true
