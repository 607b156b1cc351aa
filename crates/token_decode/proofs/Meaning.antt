-- What an answer means.
use Rattle.std.proofs.Common.{◌≡◌, ℕ, ◌+◌, ◌<◌, ◌≤◌, Bool, true, false, Option, Some, None, List, if◌then◌else◌, refl, sym, subst, arith}
use Rattle.std.proofs.lemmas.Bool.{and_parts, and_from}
use Rattle.std.proofs.lemmas.Bool.Decides.{nat_tests}
use Rattle.paygo_spec.specs.declared.Entry.{Entry}
use Rattle.paygo_spec.specs.declared.Found.{Found}
use Rattle.paygo_spec.specs.declared.Found.TheVariants.{Valid, Old, Invalid}
use Rattle.paygo_spec.specs.Chain.{value_in, token_at}
use Rattle.paygo_spec.specs.Least.{least, IsLeast}
use Rattle.paygo_spec.specs.History.{Summary, limit_of, reach, is_valid, Valid as IsValid}
use Rattle.paygo_spec.specs.Found.{is_match, both, found_at, least_at, is_raised, answer, takes, found, IfValid, IsFirst, IsAnswerBy, IsAnswer}
use Rattle.paygo_spec.proofs.Entries.{valid_is}
use Rattle.paygo_spec.proofs.Leasts.{least_says_some, least_says_none, least_of_some, least_of_none}

-- a valid answer has the value of the token, and its count is valid
if_valid : (matches valid : ℕ → Bool) (value bound : ℕ) (best any : Option ℕ) → least (both matches valid) bound ≡ best → IfValid (found_at value best any) (λ count v. (v ≡ value) × (valid count ≡ true))
if_valid matches valid value bound (Some count) any is = (refl, (and_parts _ _ (least_says_some (both matches valid) bound count is).passes).1)
if_valid matches valid value bound None (Some count) is = tt
if_valid matches valid value bound None None is = tt

if_may : (valid : ℕ → Bool) (value count : ℕ) (may : Bool) → valid count ≡ may → IfValid (if may then Valid count value else Old count) (λ count v. (v ≡ value) × (valid count ≡ true))
if_may valid value count true is = (refl, is)
if_may valid value count false is = tt

if_first : (valid : ℕ → Bool) (value : ℕ) (first : Option ℕ) → IfValid (least_at valid value first) (λ count v. (v ≡ value) × (valid count ≡ true))
if_first valid value (Some count) = if_may valid value count (valid count) refl
if_first valid value None = tt

if_answer : (raised : Bool) (matches valid : ℕ → Bool) (value reach : ℕ) → IfValid (answer raised matches valid value reach) (λ count v. (v ≡ value) × (valid count ≡ true))
if_answer true matches valid value reach = if_first valid value (least matches (reach + 1))
if_answer false matches valid value reach = if_valid matches valid value (reach + 1) (least (both matches valid) (reach + 1)) (least matches (reach + 1)) refl

more_than : (answer : Found) (P Q : ℕ → ℕ → Type 0) → ((count value : ℕ) → P count value → Q count value) → IfValid answer P → IfValid answer Q
more_than (Valid count value) P Q more is = more count value is
more_than (Old count) P Q more is = tt
more_than Invalid P Q more is = tt

-- the device may take the count and the value of a valid answer
pub may_take : (next : ℕ → ℕ) (start : ℕ) (origin : Summary) (entries : List Entry) (token : ℕ) (answer : Found) → answer ≡ found next start origin entries token
    → IfValid answer (λ count value. is_valid origin entries count value ≡ true)
may_take next start origin entries token answer is =
    let value : ℕ = value_in start token in
    let matches : ℕ → Bool = is_match next start token value in
    let valid : ℕ → Bool = takes origin entries value in
    subst (λ (a : Found). IfValid a (λ count value. is_valid origin entries count value ≡ true)) (sym is)
    (more_than (found next start origin entries token) (λ count v. (v ≡ value) × (valid count ≡ true)) (λ count v. is_valid origin entries count v ≡ true)
    (λ count v both. rw both.0 both.1)
    (if_answer (is_raised (limit_of origin entries)) matches valid value (reach origin entries value)))

-- a test that decides a fact fails where the fact doesn't hold
fails : (b : Bool) (P : Type 0) → (b ≡ true → P) → (P → ⊥) → b ≡ false
fails true P means never = absurd (never (means refl))
fails false P means never = refl

module _ (next : ℕ → ℕ) (start : ℕ) (origin : Summary) (entries : List Entry) (token : ℕ) where
  abbrev value : ℕ
  value = value_in start token

  abbrev last : ℕ
  last = reach origin entries value

  abbrev matches : ℕ → Bool
  matches = is_match next start token value

  abbrev best : ℕ → Bool
  best = both matches (takes origin entries value)

  abbrev Matches : ℕ → Type 0
  Matches m = token_at next start value m ≡ token

  match_is : (m : ℕ) → (matches m ≡ true → Matches m) × (Matches m → matches m ≡ true)
  match_is m = (λ h. grind (arith, nat_tests), λ h. grind (arith, nat_tests))

  best_is : (m : ℕ) → (best m ≡ true → Matches m × IsValid origin entries m value) × (Matches m × IsValid origin entries m value → best m ≡ true)
  best_is m = (
    λ h. let parts = and_parts _ _ h in ((match_is m).0 parts.0, (valid_is origin entries m value).0 parts.1),
    λ h. and_from _ _ ((match_is m).1 h.0) ((valid_is origin entries m value).1 h.1),
  )

  within : (m : ℕ) → IsValid origin entries m value → m < last + 1
  within m valid = let low : m ≤ last = valid.1 in omega arith

  -- the least number that passes a test is the first of which the fact holds
  first_is : (test : ℕ → Bool) (P : ℕ → Type 0) → ((m : ℕ) → (test m ≡ true → P m) × (P m → test m ≡ true)) → (bound n : ℕ) → IsLeast test bound n → IsFirst P n
  first_is test P is bound n least = record {
    holds = (is n).0 least.passes;
    first = λ m below holds. let fails_here : test m ≡ false = least.first m below in let passes_here : test m ≡ true = (is m).1 holds in cc;
  }

  least_is : (test : ℕ → Bool) (P : ℕ → Type 0) → ((m : ℕ) → (test m ≡ true → P m) × (P m → test m ≡ true)) → (bound n : ℕ) → n < bound → IsFirst P n → least test bound ≡ Some n
  least_is test P is bound n below first = least_of_some test bound n record {
    below = below;
    passes = (is n).1 first.holds;
    first = λ m less. fails (test m) (P m) (is m).0 (first.first m less);
  }

  abbrev Takes : ℕ → Type 0
  Takes m = IsValid origin entries m value

  abbrev said : Bool → Option ℕ → Option ℕ → Found
  said raised valid any = if raised then least_at (takes origin entries value) value any else found_at value valid any

  -- the least match alone decides
  first_at : (count : ℕ) → IsLeast matches (last + 1) count → (may : Bool) → is_valid origin entries count value ≡ may → IsAnswerBy true Matches Takes value last (if may then Valid count value else Old count)
  first_at count least true is = (refl, first_is matches Matches match_is (last + 1) count least, (valid_is origin entries count value).0 is)
  first_at count least false is =
      let below : count < last + 1 = least.below in (
        omega arith,
        first_is matches Matches match_is (last + 1) count least,
        λ takes. let passes_here : is_valid origin entries count value ≡ true = (valid_is origin entries count value).1 takes in cc,
      )

  none_at : least matches (last + 1) ≡ None → (m : ℕ) → m ≤ last → Matches m → ⊥
  none_at none m up match = let fails_here : matches m ≡ false = least_says_none matches (last + 1) none m (omega arith) in let passes_here : matches m ≡ true = (match_is m).1 match in cc

  answer_at : (raised : Bool) (valid any : Option ℕ) → least best (last + 1) ≡ valid → least matches (last + 1) ≡ any → IsAnswerBy raised Matches Takes value last (said raised valid any)
  answer_at true valid (Some count) is any_is = first_at count (least_says_some matches (last + 1) count any_is) (is_valid origin entries count value) refl
  answer_at true valid None is any_is = none_at any_is
  answer_at false (Some count) any is any_is = (refl, first_is best (λ m. Matches m × IsValid origin entries m value) best_is (last + 1) count (least_says_some best (last + 1) count is))
  answer_at false None (Some count) is any_is =
      let least = least_says_some matches (last + 1) count any_is in
      let below : count < last + 1 = least.below in (
        omega arith,
        first_is matches Matches match_is (last + 1) count least,
        λ m match valid. let fails_here : best m ≡ false = least_says_none best (last + 1) is m (within m valid) in let passes_here : best m ≡ true = (best_is m).1 (match, valid) in cc,
      )
  answer_at false None None is any_is = none_at any_is

  pub is_answer : (answer : Found) → answer ≡ found next start origin entries token → IsAnswer next start origin entries token answer
  is_answer answer is = subst (IsAnswer next start origin entries token) (sym is) (answer_at (is_raised (limit_of origin entries)) (least best (last + 1)) (least matches (last + 1)) refl refl)

  first_of_all : (count : ℕ) → count ≤ last → IsFirst Matches count → least matches (last + 1) ≡ Some count
  first_of_all count up first = least_is matches Matches match_is (last + 1) count (omega arith) first

  none_of_all : ((m : ℕ) → m ≤ last → Matches m → ⊥) → least matches (last + 1) ≡ None
  none_of_all none = least_of_none matches (last + 1) (λ m below. fails (matches m) (Matches m) (match_is m).0 (none m (omega arith)))

  answer_by : (raised : Bool) (answer : Found) → IsAnswerBy raised Matches Takes value last answer → answer ≡ said raised (least best (last + 1)) (least matches (last + 1))
  answer_by true (Valid count v) (value_is, first, may) =
      let up : count ≤ last = may.1 in
      rw (value_is, first_of_all count up first, (valid_is origin entries count value).1 may) refl
  answer_by true (Old count) (up, first, refuses) =
      let refused : is_valid origin entries count value ≡ false = fails (is_valid origin entries count value) (IsValid origin entries count value) (valid_is origin entries count value).0 refuses in
      rw (first_of_all count up first, refused) refl
  answer_by true Invalid none = rw (none_of_all none) refl
  answer_by false (Valid count v) (value_is, first) =
      let it : least best (last + 1) ≡ Some count = least_is best (λ m. Matches m × IsValid origin entries m value) best_is (last + 1) count (within count first.holds.1) first in
      rw (value_is, it) refl
  answer_by false (Old count) (up, first, none) =
      let never : least best (last + 1) ≡ None = least_of_none best (last + 1) (λ m below. fails (best m) (Matches m × IsValid origin entries m value) (best_is m).0 (λ h. none m h.0 h.1)) in
      rw (never, first_of_all count up first) refl
  answer_by false Invalid none =
      let never : least best (last + 1) ≡ None = least_of_none best (last + 1) (λ m below. fails (best m) (Matches m × IsValid origin entries m value) (best_is m).0 (λ h. none m (omega arith) h.0)) in
      rw (never, none_of_all none) refl

  pub answer_is : (answer : Found) → IsAnswer next start origin entries token answer → answer ≡ found next start origin entries token
  answer_is answer is = answer_by (is_raised (limit_of origin entries)) answer is
