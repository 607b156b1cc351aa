-- How far `read` has come: no fault before this place, and the number of the digits before it.
use Rattle.std.proofs.Common.{◌≡◌, ℕ, suc, Bool, true, false, not, ◌&&◌, ◌==◌, ◌+◌, ◌-◌, ◌*◌, ◌^◌, ◌<◌, ◌≤◌, List, [], ◌∷◌, length, drop, slice_index, refl, arith, sym, ◌∙◌, ap, subst, Some, None, lit<, lit≤}
use Rattle.std.specs.List.{position_from}
use Rattle.std.proofs.lemmas.Bool.{eqb-true}
use Rattle.std.proofs.lemmas.List.{drop_all}
use Rattle.std.proofs.lemmas.Nat.{mul-add-lt}
use Rattle.std.proofs.Math.Nat.{pow-succ', pow-zero, pow-le-pow_right}
use Rattle.std.proofs.Math.Seq.{drop-cons}
use Rattle.paygo_spec.specs.declared.Form.{Form}
use Rattle.paygo_spec.specs.declared.Form.TheVariants.{Nine, Fifteen}
use Rattle.paygo_spec.specs.Digits.{number_after, digit_count, radix_of, zero_key, token_limit, is_digit, first_fault, value_of}
use Rattle.digit_set.proofs.Numerals.{is_key}
use Rattle.digit_set.proofs.Tokens.{some_key, value_of-clear}

pub record IsRead (form : Form) (digits : List ℕ) (place token : ℕ) : Type 0 where
  pub clear : first_fault form digits ≡ position_from (λ byte. not (is_digit form byte)) (1 + place) (drop place digits)
  pub number : number_after (radix_of form) (zero_key form) 0 digits ≡ number_after (radix_of form) (zero_key form) token (drop place digits)
  pub below : token < radix_of form ^ place

pub read_none : (form : Form) (digits : List ℕ) → IsRead form digits 0 0
read_none form digits = record { clear = refl; number = refl; below = rw (pow-zero (radix_of form)) (lit< tt) }

pub limit_fits : (form : Form) → token_limit form ≤ 2 ^ 32
limit_fits Nine = lit≤ tt
limit_fits Fifteen = lit≤ tt

-- one digit more
next_below : (form : Form) (place token d : ℕ) → token < radix_of form ^ place → d < radix_of form → token * radix_of form + d < radix_of form ^ suc place
next_below form place token d h l =
    subst (λ y. token * radix_of form + d < y) (sym (pow-succ' (radix_of form) place))
    (mul-add-lt token (radix_of form) d (radix_of form ^ place) h l)

pub fits : (form : Form) (place token d : ℕ) → place < digit_count form → token < radix_of form ^ place → d < radix_of form → token * radix_of form + d < 2 ^ 32
fits form place token d p h l =
    let a : token * radix_of form + d < radix_of form ^ suc place = next_below form place token d h l in
    let b : radix_of form ^ suc place ≤ radix_of form ^ digit_count form = pow-le-pow_right {n = radix_of form} (some_key form) {i = suc place} {j = digit_count form} (omega arith) in
    let m : radix_of form ^ digit_count form ≤ 2 ^ 32 = limit_fits form in
    omega arith

pub key_within : (form : Form) (byte : ℕ) → is_digit form byte ≡ true → (zero_key form ≤ byte) × (byte < zero_key form + radix_of form)
key_within form byte h = is_key (zero_key form) (radix_of form) byte (ap not h)

pub read_more : (form : Form) (digits : List ℕ) (place token : ℕ) → place < length digits → is_digit form (slice_index digits place) ≡ true → IsRead form digits place token → IsRead form digits (place + 1) (token * radix_of form + (slice_index digits place - zero_key form))
read_more form digits place token h d k =
    let one : suc place ≡ place + 1 = omega arith in
    let e : drop place digits ≡ slice_index digits place ∷ drop (place + 1) digits =
    drop-cons digits place 0 h ∙ ap (λ n. slice_index digits place ∷ drop n digits) one in
    let next : 1 + place + 1 ≡ 1 + (place + 1) = omega arith in
    let w : (zero_key form ≤ slice_index digits place) × (slice_index digits place < zero_key form + radix_of form) = key_within form (slice_index digits place) d in
    record {
      clear = k.clear ∙ rw (e, d) (ap (λ n. position_from (λ byte. not (is_digit form byte)) n (drop (place + 1) digits)) next);
      number = k.number ∙ rw e refl;
      below = subst (λ n. token * radix_of form + (slice_index digits place - zero_key form) < radix_of form ^ n) one
          (next_below form place token (slice_index digits place - zero_key form) k.below (omega arith));
    }

pub read_fault : (form : Form) (digits : List ℕ) (place token : ℕ) → place < length digits → is_digit form (slice_index digits place) ≡ false → IsRead form digits place token → first_fault form digits ≡ Some (place + 1)
read_fault form digits place token h d k =
    let e : drop place digits ≡ slice_index digits place ∷ drop (suc place) digits = drop-cons digits place 0 h in
    let one : 1 + place ≡ place + 1 = omega arith in
    k.clear ∙ rw (e, d) (ap (λ n. Some n) one)

pub read_all : (form : Form) (digits : List ℕ) (place token : ℕ) → length digits ≤ place → length digits ≡ digit_count form → IsRead form digits place token → (first_fault form digits ≡ None) × (value_of form digits ≡ Some token)
read_all form digits place token h l k =
    let e : drop place digits ≡ [] = drop_all place digits h in
    let f : first_fault form digits ≡ None = k.clear ∙ rw e refl in
    let n : number_after (radix_of form) (zero_key form) 0 digits ≡ token = k.number ∙ rw e refl in
    (f, value_of-clear form digits l f ∙ ap (λ x. Some x) n)

-- what isn't read has no value
and_false : (b : Bool) → (b && false) ≡ false
and_false true = refl
and_false false = refl

pub value_of-fault : (form : Form) (digits : List ℕ) (place : ℕ) → first_fault form digits ≡ Some place → value_of form digits ≡ None
value_of-fault form digits place f = rw (f, and_false (length digits == digit_count form)) refl

not_equal : (a b : ℕ) → (a ≡ b → ⊥) → (a == b) ≡ false
not_equal a b h = grind (arith, eqb-true)

pub value_of-length : (form : Form) (digits : List ℕ) → (length digits ≡ digit_count form → ⊥) → value_of form digits ≡ None
value_of-length form digits h = rw (not_equal (length digits) (digit_count form) h) refl
