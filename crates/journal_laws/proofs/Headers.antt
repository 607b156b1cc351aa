-- What two headers say.
use Rattle.std.proofs.Common.{◌≡◌, ℕ, true, false, ◌<◌, ◌≤◌, ◌==◌, nat_lt, Option, Some, None, Result, Ok, Err, refl, arith, ⊎_elim}
use Rattle.std.proofs.lemmas.Bool.{cases_lt, cases_eq, cases_Bool}
use Rattle.std.proofs.lemmas.Bool.Decides.{nat_tests}
use Rattle.paygo_spec.specs.Rail.{is_railed, number_in}
use Rattle.paygo_spec.specs.Layout.{last_bank}
use Rattle.paygo_spec.specs.Recovery.{is_header, newest_bank}
use Rattle.journal_laws.specs.Banks.{IsBehind, IsQuiet}

-- this header is in use, and the other one counts for less
pub record IsAhead (word other : ℕ) : Type 0 where
  pub sound : is_header word ≡ true
  pub railed : is_railed word ≡ true
  pub behind : IsBehind other (number_in word)

pub newest_first : (first second : ℕ) → IsAhead first second → newest_bank first second ≡ Ok (Some 0)
newest_first first second h =
    ⊎_elim
    (λ (q : is_railed second ≡ true).
    let l : number_in second < number_in first = h.behind.older q in
    let same : (number_in first == number_in second) ≡ false = grind (arith, nat_tests) in
    let less : nat_lt (number_in second) (number_in first) ≡ true = grind (arith, nat_tests) in
    rw (h.sound, h.behind.sound, h.railed, q, same, less) refl)
    (λ (q : is_railed second ≡ false). rw (h.sound, h.behind.sound, h.railed, q) refl)
    (cases_Bool (is_railed second))

pub newest_second : (first second : ℕ) → IsAhead second first → newest_bank first second ≡ Ok (Some 1)
newest_second first second h =
    ⊎_elim
    (λ (q : is_railed first ≡ true).
    let l : number_in first < number_in second = h.behind.older q in
    let same : (number_in first == number_in second) ≡ false = grind (arith, nat_tests) in
    let less : nat_lt (number_in second) (number_in first) ≡ false = grind (arith, nat_tests) in
    rw (h.sound, h.behind.sound, h.railed, q, same, less) refl)
    (λ (q : is_railed first ≡ false). rw (h.sound, h.behind.sound, h.railed, q) refl)
    (cases_Bool (is_railed first))

pub newest_none : (first second : ℕ) → IsQuiet first → IsQuiet second → newest_bank first second ≡ Ok None
newest_none first second a b = rw (a.sound, b.sound, a.unrailed, b.unrailed) refl

-- what the answer of two headers means
pub data Chosen (first second : ℕ) : Result (Option ℕ) ℕ → Type 0 where
  ByFirst : IsAhead first second → Chosen first second (Ok (Some 0))
  BySecond : IsAhead second first → Chosen first second (Ok (Some 1))
  ByNone : IsQuiet first → IsQuiet second → Chosen first second (Ok None)
  ByDamage : (place : ℕ) → Chosen first second (Err place)

both_railed : (first second : ℕ) → is_header first ≡ true → is_header second ≡ true → is_railed first ≡ true → is_railed second ≡ true → Chosen first second (newest_bank first second)
both_railed first second a b r s =
    ⊎_elim
    (λ (e : number_in first ≡ number_in second).
    let same : (number_in first == number_in second) ≡ true = grind (arith, nat_tests) in
    rw (a, b, r, s, same) (ByDamage 512))
    (λ (ne : number_in first ≡ number_in second → ⊥).
    let same : (number_in first == number_in second) ≡ false = grind (arith, nat_tests) in
    ⊎_elim
    (λ (l : number_in second < number_in first).
    let less : nat_lt (number_in second) (number_in first) ≡ true = grind (arith, nat_tests) in
    rw (a, b, r, s, same, less) (ByFirst (record { sound = a; railed = r; behind = record { sound = b; older = λ q. l } })))
    (λ (l : number_in first ≤ number_in second).
    let less : nat_lt (number_in second) (number_in first) ≡ false = grind (arith, nat_tests) in
    rw (a, b, r, s, same, less) (BySecond (record { sound = b; railed = s; behind = record { sound = a; older = λ q. omega arith } })))
    (cases_lt (number_in second) (number_in first)))
    (cases_eq (number_in first) (number_in second))

sound_headers : (first second : ℕ) → is_header first ≡ true → is_header second ≡ true → Chosen first second (newest_bank first second)
sound_headers first second a b =
    ⊎_elim
    (λ (r : is_railed first ≡ true). ⊎_elim
    (λ (s : is_railed second ≡ true). both_railed first second a b r s)
    (λ (s : is_railed second ≡ false). rw (a, b, r, s) (ByFirst (record { sound = a; railed = r; behind = record { sound = b; older = λ q. cc } })))
    (cases_Bool (is_railed second)))
    (λ (r : is_railed first ≡ false). ⊎_elim
    (λ (s : is_railed second ≡ true). rw (a, b, r, s) (BySecond (record { sound = b; railed = s; behind = record { sound = a; older = λ q. cc } })))
    (λ (s : is_railed second ≡ false). rw (a, b, r, s) (ByNone (record { sound = a; unrailed = r }) (record { sound = b; unrailed = s })))
    (cases_Bool (is_railed second)))
    (cases_Bool (is_railed first))

pub chosen : (first second : ℕ) → Chosen first second (newest_bank first second)
chosen first second =
    ⊎_elim
    (λ (a : is_header first ≡ true). ⊎_elim
    (λ (b : is_header second ≡ true). sound_headers first second a b)
    (λ (b : is_header second ≡ false). rw (a, b) (ByDamage 512))
    (cases_Bool (is_header second)))
    (λ (a : is_header first ≡ false). rw a (ByDamage 0))
    (cases_Bool (is_header first))

-- the number of a header
pub header_number : (word : ℕ) → is_header word ≡ true → is_railed word ≡ true → (1 ≤ number_in word) × (number_in word ≤ last_bank)
header_number word sound railed = grind (arith, nat_tests)
