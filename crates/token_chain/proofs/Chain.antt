-- Codes and tokens by their count.
use Rattle.std.proofs.Common.{◌≡◌, ℕ, zero, suc, ◌+◌, ◌^◌, ◌<◌, List, [], ◌∷◌, slice_index, refl, ap, add-one, lit<, arith}
use Rattle.std.specs.Simd.Lanes.{zip2}
use Rattle.paygo_spec.specs.Chain.{base_of, token_base_of, code_from, first_code, token_from, token_at}

-- the code of count 0 is the first one
pub code_from_none : (next : ℕ → ℕ) (first : ℕ) → code_from next first 0 ≡ first
unfolding code_from
code_from_none next first = refl

-- the code of the next count is one step on
pub code_from_more : (next : ℕ → ℕ) (first n : ℕ) → code_from next first (n + 1) ≡ next (code_from next first n)
unfolding code_from
code_from_more next first n = rw add-one refl

-- A token hangs on its first code alone, since that ends in the digits of all tokens of its value. So
-- the tokens of a first code are the same for each starting code and value that lead to it.
pub token_by_first : (next : ℕ → ℕ) (start value : ℕ) → token_at next start value ≡ token_from next (first_code start value) (base_of (first_code start value))
token_by_first next start value =
    let digits : token_base_of start value ≡ base_of (first_code start value) = omega arith in
    ap (λ (b : ℕ). token_from next (first_code start value) b) digits

-- The codes that several steps side by side give are codes again, by the law of the mixer.
pub steps_below : (next : List ℕ → ℕ → ℕ) → ((key : List ℕ) (code : ℕ) → next key code < 10 ^ 9) → (keys : List (List ℕ)) (codes : List ℕ) (i : ℕ) → slice_index (zip2 next keys codes) i < 10 ^ 9
steps_below next below [] codes i = lit< tt
steps_below next below (key ∷ keys) [] i = lit< tt
steps_below next below (key ∷ keys) (code ∷ codes) zero = below key code
steps_below next below (key ∷ keys) (code ∷ codes) (suc i) = steps_below next below keys codes i
