-- The head of a bank that is read: each of its numbers is the one that is written for what they say together.
use Rattle.std.proofs.Common.{◌≡◌, ℕ, zero, suc, true, false, ◌+◌, ◌*◌, ◌/◌, ◌%◌, ◌^◌, ◌<◌, ◌≤◌, ◌==◌, ◌||◌, nat_le, nat_lt, if◌then◌else◌, is_some, ◌++◌, List, [], ◌∷◌, slice_index, refl, arith, ⊎_elim, ◌⊎◌, inl, inr}
use Rattle.std.specs.Int.{w32, to_be_bytes}
use Rattle.std.proofs.lemmas.Bool.{and_parts, and_from, or_cases, cases_Bool, cases_eq, cases_lt}
use Rattle.std.proofs.lemmas.Bool.Decides.{nat_tests}
use Rattle.std.proofs.lemmas.Nat.{from_be_bytes-to_be_bytes_4}
use Rattle.paygo_spec.specs.declared.Form.TheVariants.{Nine, Fifteen}
use Rattle.paygo_spec.specs.Digits.{digit_count, form_of}
use Rattle.paygo_spec.specs.History.{IsLimit}
use Rattle.paygo_spec.specs.Clock.{clock_at_start, most_left, longest_block}
use Rattle.paygo_spec.specs.Lawful.{IsSummary}
use Rattle.paygo_spec.specs.Layout.{key_number, format_of, head_number}
use Rattle.paygo_spec.specs.Machine.{IsConfig}
use Rattle.paygo_spec.specs.Clock.{divides_day}
use Rattle.paygo_spec.specs.Recovery.{is_format, limit_in, is_state, left_in, config_in_head, summary_in_head}
use Rattle.paygo_spec.proofs.Clocks.{clock_test}
use Rattle.paygo_spec.proofs.WindowTests.{window_test}
use Rattle.journal_laws.specs.Banks.{IsKeyBytes, KeepsRules}
use Rattle.journal_laws.proofs.HeadPlaces.{at_each_place}

-- each number keeps the rule of its place and has 32 bits
pub record IsHead (numbers : ℕ → ℕ) : Type 0 where
  pub fits : (place : ℕ) → numbers place < 2 ^ 32
  pub rule : KeepsRules numbers

-- four numbers as sixteen bytes
abbrev bytes_of : ℕ → ℕ → ℕ → ℕ → List ℕ
bytes_of a b c d = to_be_bytes w32 a ++ (to_be_bytes w32 b ++ (to_be_bytes w32 c ++ to_be_bytes w32 d))

key_0 : (a b c d : ℕ) → a < 2 ^ 32 → key_number (bytes_of a b c d) 0 ≡ a
key_0 a b c d h = from_be_bytes-to_be_bytes_4 a h

key_1 : (a b c d : ℕ) → b < 2 ^ 32 → key_number (bytes_of a b c d) 1 ≡ b
key_1 a b c d h = from_be_bytes-to_be_bytes_4 b h

key_2 : (a b c d : ℕ) → c < 2 ^ 32 → key_number (bytes_of a b c d) 2 ≡ c
key_2 a b c d h = from_be_bytes-to_be_bytes_4 c h

key_3 : (a b c d : ℕ) → d < 2 ^ 32 → key_number (bytes_of a b c d) 3 ≡ d
key_3 a b c d h = from_be_bytes-to_be_bytes_4 d h

-- the form that a number of digits says
form_says : (n : ℕ) → is_some (form_of n) ≡ true → digit_count (if n == 15 then Fifteen else Nine) ≡ n
form_says n h =
    ⊎_elim
    (λ (e : n ≡ 15). rw e refl)
    (λ (ne : n ≡ 15 → ⊥). ⊎_elim
    (λ (e : n ≡ 9). rw e refl)
    (λ (other : n ≡ 9 → ⊥).
    let a : (n == 15) ≡ false = grind (arith, nat_tests) in
    let b : (n == 9) ≡ false = grind (arith, nat_tests) in
    let none = rw (b, a) at h in cc)
    (cases_eq n 9))
    (cases_eq n 15)

-- the parts of place 6
pub format_parts : (x : ℕ) → is_format x ≡ true → ((x / 2 ^ 16 ≡ 2 ^ 8) ⊎ (x / 2 ^ 16 ≡ 2 * 2 ^ 8)) × (is_some (form_of (x / 2 ^ 8 % 2 ^ 8)) ≡ true) × (divides_day (x % 2 ^ 8) ≡ true)
format_parts x h =
    let a = and_parts _ _ h in
    let b = and_parts _ _ a.0 in (
      ⊎_elim (λ (e : (x / 2 ^ 16 == 2 ^ 8) ≡ true). inl (grind (arith, nat_tests))) (λ (e : (x / 2 ^ 16 == 2 * 2 ^ 8) ≡ true). inr (grind (arith, nat_tests)))
          (or_cases (x / 2 ^ 16 == 2 ^ 8) (x / 2 ^ 16 == 2 * 2 ^ 8) b.0),
      b.1,
      a.1,
    )

-- its format is that of the limit that it says
format_of_limit : (x : ℕ) → (x / 2 ^ 16 ≡ 2 ^ 8) ⊎ (x / 2 ^ 16 ≡ 2 * 2 ^ 8) → format_of (limit_in x) ≡ x / 2 ^ 24
format_of_limit x (inl e) = let v : x / 2 ^ 24 ≡ 1 = omega arith in rw v refl
format_of_limit x (inr e) = let v : x / 2 ^ 24 ≡ 2 = omega arith in rw v refl

limit_says : (x : ℕ) → IsLimit (limit_in x)
limit_says x = ⊎_elim (λ (e : (x / 2 ^ 24 == 2) ≡ true). rw e (inr refl)) (λ (e : (x / 2 ^ 24 == 2) ≡ false). rw e (inl refl)) (cases_Bool (x / 2 ^ 24 == 2))

format_says : (x : ℕ) → is_format x ≡ true → format_of (limit_in x) * 2 ^ 24 + digit_count (if x / 2 ^ 8 % 2 ^ 8 == 15 then Fifteen else Nine) * 2 ^ 8 + x % 2 ^ 8 ≡ x
format_says x h =
    let p = format_parts x h in
    let version : format_of (limit_in x) ≡ x / 2 ^ 24 = format_of_limit x p.0 in
    let clear : x / 2 ^ 16 ≡ x / 2 ^ 24 * 2 ^ 8 = ⊎_elim (λ (e : x / 2 ^ 16 ≡ 2 ^ 8). omega arith) (λ (e : x / 2 ^ 16 ≡ 2 * 2 ^ 8). omega arith) p.0 in
    rw (version, form_says (x / 2 ^ 8 % 2 ^ 8) p.1) (omega arith)

-- the parts of place 10
pub state_parts : (left x : ℕ) → is_state left x ≡ true → (x < 2 ^ 9) × (x % 2 ^ 8 ≤ 10) × ((nat_lt x (2 ^ 8) || left == 0) ≡ true)
state_parts left x h =
    let a = and_parts _ _ h in
    let b = and_parts _ _ a.0 in
    let e : nat_lt x (2 ^ 9) ≡ true = b.0 in
    let f : nat_le (x % 2 ^ 8) 10 ≡ true = b.1 in
    (grind (arith, nat_tests), grind (arith, nat_tests), a.1)

state_says : (x : ℕ) → x < 2 ^ 9 → (if nat_le (2 ^ 8) x then 2 ^ 8 else 0) + x % 2 ^ 8 ≡ x
state_says x h =
    ⊎_elim
    (λ (l : x < 2 ^ 8). let t : nat_le (2 ^ 8) x ≡ false = grind (arith, nat_tests) in rw t (omega arith))
    (λ (g : 2 ^ 8 ≤ x). let t : nat_le (2 ^ 8) x ≡ true = grind (arith, nat_tests) in rw t (omega arith))
    (cases_lt x (2 ^ 8))

-- what is written for what the numbers say is the numbers
pub head_says : (numbers : ℕ → ℕ) → IsHead numbers → (place : ℕ) → place < 12 → head_number (numbers 0) (config_in_head numbers) (summary_in_head numbers) place ≡ numbers place
head_says numbers h =
    let fits_9 : numbers 9 < 2 ^ 32 = h.fits 9 in
    let state = state_parts (left_in numbers) (numbers 10) (h.rule.each 10 (omega arith) (omega arith)) in
    at_each_place (λ place. head_number (numbers 0) (config_in_head numbers) (summary_in_head numbers) place ≡ numbers place) (record {
      at_0 = refl;
      at_1 = key_0 (numbers 1) (numbers 2) (numbers 3) (numbers 4) (h.fits 1);
      at_2 = key_1 (numbers 1) (numbers 2) (numbers 3) (numbers 4) (h.fits 2);
      at_3 = key_2 (numbers 1) (numbers 2) (numbers 3) (numbers 4) (h.fits 3);
      at_4 = key_3 (numbers 1) (numbers 2) (numbers 3) (numbers 4) (h.fits 4);
      at_5 = refl;
      at_6 = format_says (numbers 6) (h.rule.each 6 (omega arith) (omega arith));
      at_7 = omega arith;
      at_8 = omega arith;
      at_9 = omega arith;
      at_10 = state_says (numbers 10) state.0;
      at_11 = refl;
    })

-- and what they say is in range
record AreBytes (bytes : List ℕ) : Type 0 where
  each : (i : ℕ) → slice_index bytes i < 2 ^ 8

no_bytes : AreBytes []
no_bytes = record { each = λ i. omega arith }

byte_at : (byte : ℕ) (bytes : List ℕ) → byte < 2 ^ 8 → AreBytes bytes → (i : ℕ) → slice_index (byte ∷ bytes) i < 2 ^ 8
byte_at byte bytes h k zero = h
byte_at byte bytes h k (suc i) = k.each i

byte_more : (byte : ℕ) (bytes : List ℕ) → byte < 2 ^ 8 → AreBytes bytes → AreBytes (byte ∷ bytes)
byte_more byte bytes h k = record { each = byte_at byte bytes h k }

bytes_more : (xs ys : List ℕ) → AreBytes xs → AreBytes ys → AreBytes (xs ++ ys)
bytes_more [] ys h k = k
bytes_more (x ∷ xs) ys h k = byte_more x (xs ++ ys) (h.each 0) (bytes_more xs ys (record { each = λ i. h.each (suc i) }) k)

number_bytes : (x : ℕ) → AreBytes (to_be_bytes w32 x)
number_bytes x = byte_more _ _ (omega arith) (byte_more _ _ (omega arith) (byte_more _ _ (omega arith) (byte_more _ _ (omega arith) no_bytes)))

key_bytes : (numbers : ℕ → ℕ) → AreBytes (config_in_head numbers).key
key_bytes numbers = bytes_more _ _ (number_bytes (numbers 1)) (bytes_more _ _ (number_bytes (numbers 2)) (bytes_more _ _ (number_bytes (numbers 3)) (number_bytes (numbers 4))))

pub head_key : (numbers : ℕ → ℕ) → IsKeyBytes (config_in_head numbers).key
head_key numbers = let bytes = key_bytes numbers in record { count = refl; each = bytes.each }

pub head_config : (numbers : ℕ → ℕ) → KeepsRules numbers → IsConfig (config_in_head numbers)
head_config numbers rule =
    let start : nat_lt (numbers 5) (10 ^ 9) ≡ true = rule.each 5 (omega arith) (omega arith) in
    record {
      start = grind (arith, nat_tests);
      divider = (format_parts (numbers 6) (rule.each 6 (omega arith) (omega arith))).2;
    }

not_free : (left x : ℕ) → (nat_lt x (2 ^ 8) || left == 0) ≡ true → (if nat_le (2 ^ 8) x then left == 0 else true) ≡ true
not_free left x h =
    ⊎_elim
    (λ (l : x < 2 ^ 8). let t : nat_le (2 ^ 8) x ≡ false = grind (arith, nat_tests) in rw t refl)
    (λ (g : 2 ^ 8 ≤ x).
    let t : nat_le (2 ^ 8) x ≡ true = grind (arith, nat_tests) in
    let f : nat_lt x (2 ^ 8) ≡ false = grind (arith, nat_tests) in
    rw t (rw f at h))
    (cases_lt x (2 ^ 8))

pub head_summary : (numbers : ℕ → ℕ) → KeepsRules numbers → IsSummary (summary_in_head numbers)
head_summary numbers rule =
    let state = state_parts (left_in numbers) (numbers 10) (rule.each 10 (omega arith) (omega arith)) in
    let within : nat_le (left_in numbers) most_left ≡ true = rule.each 9 (omega arith) (omega arith) in
    let fails : numbers 10 % 2 ^ 8 ≤ 10 = state.1 in
    let few : nat_le (numbers 10 % 2 ^ 8) 10 ≡ true = grind (arith, nat_tests) in
    let free = not_free (left_in numbers) (numbers 10) state.2 in
    let block : nat_le (numbers 11) (longest_block (numbers 10 % 2 ^ 8)) ≡ true = rule.each 11 (omega arith) (omega arith) in
    record {
      limited = limit_says (numbers 6);
      window = (window_test (limit_in (numbers 6)) (numbers 7 / 2 ^ 16) (numbers 7 % 2 ^ 16)).0 (rule.each 7 (omega arith) (omega arith));
      clock = (clock_test (clock_at_start (summary_in_head numbers))).0 (and_from _ _ (and_from _ _ (and_from _ _ within few) free) block);
    }
