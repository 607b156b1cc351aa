-- What a device makes of a token that is typed in. A customer who types a token twice, or types an old one again, is told
-- so and loses nothing; only digits that are the token of no count up to the reach count as a failure. On a raised device
-- a token says the least count whose token it is, and no other.
use Rattle.std.specs.Prelude.{◌≡◌, ℕ, ◌+◌, ◌<◌, ◌≤◌, Bool, true, false, ◌&&◌, ◌==◌, Option, Some, None, List, if◌then◌else◌}
use Rattle.paygo_spec.specs.declared.Entry.{Entry}
use Rattle.paygo_spec.specs.declared.Found.{Found}
use Rattle.paygo_spec.specs.declared.Found.TheVariants.{Valid, Old, Invalid}
use Rattle.paygo_spec.specs.Chain.{token_at, value_in}
use Rattle.paygo_spec.specs.Least.{least}
use Rattle.paygo_spec.specs.History.{Summary, raised_limit, limit_of, reach, is_valid, Valid as IsValid}

-- Whether this is the token of a count, with a value.
abbrev pub is_match : (ℕ → ℕ) → ℕ → ℕ → ℕ → ℕ → Bool
is_match next start token value count = token_at next start value count == token

-- Whether a count passes both tests.
abbrev pub both : (ℕ → Bool) → (ℕ → Bool) → ℕ → Bool
both matches valid count = matches count && valid count

-- The answer where no match is valid, by the least match.
abbrev pub old_at : Option ℕ → Found
old_at (Some count) = Old count
old_at None = Invalid

-- The answer by the least valid match and by the least match.
abbrev pub found_at : ℕ → Option ℕ → Option ℕ → Found
found_at value (Some count) any = Valid count value
found_at value None any = old_at any

-- The answer by the least match alone: whether it is valid.
abbrev pub least_at : (ℕ → Bool) → ℕ → Option ℕ → Found
least_at valid value (Some count) = if valid count then Valid count value else Old count
least_at valid value None = Invalid

-- Whether the least match alone decides: on a device with the raised limit.
abbrev pub is_raised : ℕ → Bool
is_raised limit = limit == raised_limit

-- The answer over all counts from 0 to the reach: the least match that is valid, else the least match, else none. Where
-- the least match alone decides, it is valid or old.
abbrev pub answer : Bool → (ℕ → Bool) → (ℕ → Bool) → ℕ → ℕ → Found
answer raised matches valid value reach =
    if raised then least_at valid value (least matches (reach + 1))
    else found_at value (least (both matches valid) (reach + 1)) (least matches (reach + 1))

-- The counts at which a device with this history takes a value, as a test.
abbrev pub takes : Summary → List Entry → ℕ → ℕ → Bool
takes origin entries value count = is_valid origin entries count value

-- What a device makes of a token, by the step of its chain, its starting code, and its history, which is an origin and the
-- entries since then. The token's last three digits say its value.
abbrev pub found : (ℕ → ℕ) → ℕ → Summary → List Entry → ℕ → Found
found next start origin entries token =
    let value = value_in start token in
    let alone = is_raised (limit_of origin entries) in
    answer alone (is_match next start token value) (takes origin entries value) value (reach origin entries value)

-- A fact on the count and the value of an answer that is valid.
abbrev pub IfValid : Found → (ℕ → ℕ → Type 0) → Type 0
IfValid (Valid count value) P = P count value
IfValid _ P = Unit {0}

-- This is the least number of which P holds.
pub record IsFirst (P : ℕ → Type 0) (n : ℕ) : Type 0 where
  pub holds : P n
  pub first : (m : ℕ) → m < n → P m → ⊥

-- What is meant by an answer to a typed token, by the counts whose token it is and those at which the device takes it.
-- Valid: it is the token of a count at which the device takes it, and of no such count before. Old: it is that of a
-- count up to the reach, and of none before, but the device takes it at none. Invalid: it is that of no count up to the
-- reach. On a raised device: it is the token of this count and of none before, and the device takes it there, or doesn't.
abbrev pub IsAnswerBy : Bool → (ℕ → Type 0) → (ℕ → Type 0) → ℕ → ℕ → Found → Type 0
IsAnswerBy false Matches Takes value reach (Valid count v) = (v ≡ value) × IsFirst (λ m. Matches m × Takes m) count
IsAnswerBy false Matches Takes value reach (Old count) =
    (count ≤ reach) × IsFirst Matches count × ((m : ℕ) → Matches m → Takes m → ⊥)
IsAnswerBy true Matches Takes value reach (Valid count v) = (v ≡ value) × IsFirst Matches count × Takes count
IsAnswerBy true Matches Takes value reach (Old count) = (count ≤ reach) × IsFirst Matches count × (Takes count → ⊥)
IsAnswerBy raised Matches Takes value reach Invalid = (m : ℕ) → m ≤ reach → Matches m → ⊥

-- The same for a device with this history.
abbrev pub IsAnswer : (ℕ → ℕ) → ℕ → Summary → List Entry → ℕ → Found → Type 0
IsAnswer next start origin entries token answer =
    let value = value_in start token in
    let alone = is_raised (limit_of origin entries) in
    IsAnswerBy alone (λ m. token_at next start value m ≡ token) (λ m. IsValid origin entries m value) value
    (reach origin entries value) answer
