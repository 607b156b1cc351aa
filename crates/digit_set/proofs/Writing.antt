-- How far `write` has come: the digits from this place on stand in `out`.
use Rattle.std.proofs.Common.{◌≡◌, ℕ, zero, suc, ◌+◌, ◌-◌, ◌/◌, ◌%◌, ◌<◌, ◌≤◌, List, ◌∷◌, ◌++◌, length, take, drop, slice_set, refl, arith, sym, ◌∙◌, ap, append_assoc}
use Rattle.std.proofs.lemmas.List.{append-nil, drop-set, drop-set-lt, drop_all, length-take, length-set}
use Rattle.std.proofs.Math.Seq.{take-set-lt}
use Rattle.paygo_spec.specs.declared.Form.{Form}
use Rattle.paygo_spec.specs.declared.Form.TheVariants.{Nine, Fifteen}
use Rattle.paygo_spec.specs.Digits.{numeral, digit_count, radix_of, zero_key, digits_of}
use Rattle.digit_set.proofs.Numerals.{numeral-suc, numeral-zero}

pub record IsWritten (form : Form) (token place rest : ℕ) (before out : List ℕ) : Type 0 where
  pub within : place ≤ digit_count form
  pub room : length out ≡ 15
  pub digits : digits_of form token ≡ numeral (radix_of form) (zero_key form) place rest ++ drop place (take (digit_count form) out)
  pub behind : drop (digit_count form) out ≡ drop (digit_count form) before

pub at_most_fifteen : (form : Form) → digit_count form ≤ 15
at_most_fifteen Nine = omega arith
at_most_fifteen Fifteen = omega arith

length_front : (n : ℕ) (xs : List ℕ) → n ≤ length xs → length (take n xs) ≡ n
length_front n xs h = rw (length-take n xs) (omega arith)

pub written_none : (form : Form) (token : ℕ) (out : List ℕ) → length out ≡ 15 → IsWritten form token (digit_count form) token out out
written_none form token out l =
    let m : digit_count form ≤ 15 = at_most_fifteen form in
    let f : length (take (digit_count form) out) ≡ digit_count form = length_front (digit_count form) out (omega arith) in
    record {
      within = omega arith;
      room = l;
      digits = sym (ap (λ xs. digits_of form token ++ xs) (drop_all (digit_count form) (take (digit_count form) out) (omega arith)) ∙ append-nil (digits_of form token));
      behind = refl;
    }

-- the digit before those that are written
digit_before : (n m d : ℕ) (out : List ℕ) → m < n → n ≤ length out → drop m (take n (slice_set out m d)) ≡ d ∷ drop (m + 1) (take n out)
digit_before n m d out h l =
    let f : length (take n out) ≡ n = length_front n out l in
    ap (λ xs. drop m xs) (take-set-lt n out m d h) ∙ drop-set (take n out) m d (omega arith)

written_one : (form : Form) (token m rest : ℕ) (before out : List ℕ) → IsWritten form token (suc m) rest before out → IsWritten form token m (rest / radix_of form) before (slice_set out m (zero_key form + rest % radix_of form))
written_one form token m rest before out k =
    let n : suc m ≤ digit_count form = k.within in
    let l : length out ≡ 15 = k.room in
    let most : digit_count form ≤ 15 = at_most_fifteen form in
    let d : drop m (take (digit_count form) (slice_set out m (zero_key form + rest % radix_of form))) ≡ (zero_key form + rest % radix_of form) ∷ drop (m + 1) (take (digit_count form) out) =
    digit_before (digit_count form) m (zero_key form + rest % radix_of form) out (omega arith) (omega arith) in
    let one : m + 1 ≡ suc m = omega arith in
    record {
      within = omega arith;
      room = length-set out m (zero_key form + rest % radix_of form) ∙ l;
      digits =
          k.digits
          ∙ (rw (numeral-suc (radix_of form) (zero_key form) m rest, append_assoc)
          (ap (λ xs. numeral (radix_of form) (zero_key form) m (rest / radix_of form) ++ xs)
          (sym (d ∙ ap (λ j. (zero_key form + rest % radix_of form) ∷ drop j (take (digit_count form) out)) one))));
      behind = drop-set-lt (digit_count form) out m (zero_key form + rest % radix_of form) (omega arith) ∙ k.behind;
    }

pub written_more : (form : Form) (token place rest divisor radix key : ℕ) (before out : List ℕ) → 0 < place → divisor ≡ radix_of form → radix ≡ radix_of form → key ≡ zero_key form → IsWritten form token place rest before out → IsWritten form token (place - 1) (rest / divisor) before (slice_set out (place - 1) (key + rest % radix))
written_more form token zero rest divisor radix key before out h d r z k = absurd (omega arith)
written_more form token (suc m) rest divisor radix key before out h d r z k =
    let e : suc m - 1 ≡ m = omega arith in
    rw (d, r, z, e) (written_one form token m rest before out k)

pub written_all : (form : Form) (token place rest count : ℕ) (before out : List ℕ) → place ≡ 0 → count ≡ digit_count form → IsWritten form token place rest before out → (take count out ≡ digits_of form token) × (drop count out ≡ drop count before)
written_all form token place rest count before out e n k =
    rw n
    (sym (k.digits ∙ (rw e (ap (λ xs. xs ++ take (digit_count form) out) (numeral-zero (radix_of form) (zero_key form) rest)))), k.behind)
