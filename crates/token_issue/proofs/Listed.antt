-- What the list of all tokens says of a count is what the definitions say of it.
use Rattle.std.proofs.Common.{◌≡◌, ℕ, zero, suc, ◌+◌, ◌*◌, ◌/◌, ◌%◌, ◌^◌, ◌<◌, ◌≤◌, Bool, ◌&&◌, ◌==◌, nat_lt, max, List, [], ◌∷◌, ◌++◌, length, take, get_or, refl, ap, ◌∙◌, arith}
use Rattle.std.specs.List.{count_by}
use Rattle.std.proofs.lemmas.List.FromFn.{map-range_with_len_more, take-map-range_with_len, length-map-range_with_len, get_or-map-range_with_len}
use Rattle.paygo_spec.specs.Chain.{with_base, token_base_of, code_from, first_code, token_from, token_at}
use Rattle.paygo_spec.specs.Least.{least}
use Rattle.paygo_spec.proofs.Leasts.{least_same}
use Rattle.ledger_spec.specs.declared.Kind.{Kind}
use Rattle.ledger_spec.specs.Issuing.{stands_alone, is_clean, may_issue, pick, parity_of}
use Rattle.token_issue.specs.Lists.{values_below, tokens_from, is_once, may_take}
use Rattle.token_issue.proofs.Once.{once_is_alone}

-- the list grows by one value at its end
pub values_none : (f : ℕ → ℕ) → values_below f 0 ≡ []
unfolding values_below
values_none f = refl

pub values_more : (f : ℕ → ℕ) (m : ℕ) → values_below f (m + 1) ≡ values_below f m ++ f m ∷ []
unfolding values_below
values_more f m = map-range_with_len_more f 0 m m (omega arith)

pub values_length : (f : ℕ → ℕ) (bound : ℕ) → length (values_below f bound) ≡ bound
unfolding values_below
values_length f bound = length-map-range_with_len f 0 bound

value_at : (f : ℕ → ℕ) (n bound : ℕ) → n < bound → get_or (values_below f bound) n 0 ≡ f n
unfolding values_below
value_at f n bound below = get_or-map-range_with_len f 0 bound n n 0 below (omega arith)

first_values : (f : ℕ → ℕ) (few bound : ℕ) → few ≤ bound → take few (values_below f bound) ≡ values_below f few
unfolding values_below
first_values f few bound within = take-map-range_with_len f 0 bound few within

-- a token that stands once among those of the counts up to 4,095 and up to its own is that of no other of these counts
once_is_clean : (f : ℕ → ℕ) (bound n : ℕ) → n < bound → 4095 < bound → is_once (values_below f bound) n ≡ stands_alone f n (max 4095 n + 1)
once_is_clean f bound n below long =
    let within : max 4095 n + 1 ≤ bound = omega arith in
    let inside : n < max 4095 n + 1 = omega arith in
    let token : get_or (values_below f bound) n 0 ≡ f n = value_at f n bound below in
    let members : take (max 4095 n + 1) (values_below f bound) ≡ values_below f (max 4095 n + 1) = first_values f (max 4095 n + 1) bound within in
    ap (λ (x : ℕ). count_by (λ y. y == x) (take (max 4095 n + 1) (values_below f bound)) == 1) token
    ∙ ap (λ (xs : List ℕ). count_by (λ y. y == f n) xs == 1) members
    ∙ once_is_alone f n (max 4095 n + 1) inside

-- The tokens of a value and a starting code are those of the code of count 0 that they lead to.
pub token_by_code : (next : ℕ → ℕ) (start value : ℕ) → token_at next (first_code start value) 0 ≡ token_at next start value
token_by_code next start value =
    let code : first_code (first_code start value) 0 ≡ first_code start value = omega arith in
    let digits : token_base_of (first_code start value) 0 ≡ token_base_of start value = omega arith in
    ap (λ (first : ℕ). token_from next first (token_base_of (first_code start value) 0)) code
    ∙ ap (λ (b : ℕ). token_from next (first_code start value) b) digits

-- by the list of a call, a count is clean exactly where it is
pub listed_clean : (next : ℕ → ℕ) (start value length n : ℕ) → n < length → 4095 < length → is_once (tokens_from next (first_code start value) length) n ≡ is_clean next start value n
listed_clean next start value length n below long =
    once_is_clean (token_at next (first_code start value) 0) length n below long
    ∙ ap (λ (f : ℕ → ℕ). stands_alone f n (max 4095 n + 1)) (token_by_code next start value)

-- the list of a call has the token of each of its counts
pub listed_token : (next : ℕ → ℕ) (start value length n : ℕ) → n < length → get_or (tokens_from next (first_code start value) length) n 0 ≡ token_at next start value n
listed_token next start value length n below =
    value_at (token_at next (first_code start value) 0) n length below ∙ ap (λ (f : ℕ → ℕ). f n) (token_by_code next start value)

code_below : (next : ℕ → ℕ) → ((code : ℕ) → next code < 10 ^ 9) → (first n : ℕ) → first < 10 ^ 9 → code_from next first n < 10 ^ 9
unfolding code_from
code_below next below first zero small = small
code_below next below first (suc n) small = below (code_from next first n)

with_base_small : (code b : ℕ) → code < 10 ^ 9 → b < 1000 → with_base code b < 10 ^ 9
with_base_small code b small low = let parts : 1000 * (code / 1000) + code % 1000 ≡ code = omega arith in omega arith

-- each token is below 10^9
pub token_small : (next : ℕ → ℕ) → ((code : ℕ) → next code < 10 ^ 9) → (start value n : ℕ) → start < 10 ^ 9 → token_at next start value n < 10 ^ 9
token_small next below start value n small =
    let base : (start % 1000 + value) % 1000 < 1000 = omega arith in
    let first : first_code start value < 10 ^ 9 = with_base_small start ((start % 1000 + value) % 1000) small base in
    with_base_small (code_from next (first_code start value) n) ((start % 1000 + value) % 1000) (code_below next below (first_code start value) n first) base

-- and a search by the list finds the count that is issued
pub listed_pick : (next : ℕ → ℕ) (start limit last : ℕ) (kind : Kind) (value : ℕ) → 4095 ≤ limit
    → least (may_take (tokens_from next (first_code start value) (limit + 1)) last kind) (limit + 1) ≡ pick next start limit last kind value
listed_pick next start limit last kind value long =
    least_same (may_take (tokens_from next (first_code start value) (limit + 1)) last kind) (may_issue next start last kind value) (limit + 1)
    (λ n below. ap (λ (b : Bool). nat_lt last n && ((n % 2 == parity_of kind) && b)) (listed_clean next start value (limit + 1) n below (omega arith)))
