-- What the operations on vectors of four lanes are, lane by lane.
use Rattle.std.proofs.Common.{◌≡◌, ℕ, ◌+◌, ◌-◌, ◌*◌, ◌/◌, ◌%◌, ◌<◌, ◌^◌, List, [], ◌∷◌, length, map, bit_or, bit_xor, refl, arith}
use Rattle.std.specs.Int.{w64, rotate_left}
use Rattle.std.specs.Simd.Lanes.{zip2}
use Rattle.paygo_spec.specs.Sip.{sum64}
use Rattle.sip_lanes.specs.Side.{lanes, pairs}

-- what holds of each list of four elements
four_lanes : (P : List ℕ → Type 0) → ((a b c d : ℕ) → P (a ∷ b ∷ c ∷ d ∷ [])) → (xs : List ℕ) → length xs ≡ 4 → P xs
four_lanes P p (a ∷ b ∷ c ∷ d ∷ []) h = p a b c d
four_lanes P p [] h = absurd (omega arith)
four_lanes P p (a ∷ []) h = absurd (omega arith)
four_lanes P p (a ∷ b ∷ []) h = absurd (omega arith)
four_lanes P p (a ∷ b ∷ c ∷ []) h = absurd (omega arith)
four_lanes P p (a ∷ b ∷ c ∷ d ∷ e ∷ xs) h = absurd (omega arith)

pairs_are : (f : ℕ → ℕ → ℕ) (xs : List ℕ) → length xs ≡ 4 → (ys : List ℕ) → length ys ≡ 4 → zip2 f xs ys ≡ pairs f xs ys
pairs_are f =
    four_lanes (λ xs. (ys : List ℕ) → length ys ≡ 4 → zip2 f xs ys ≡ pairs f xs ys) (λ a b c d.
    four_lanes (λ ys. zip2 f (a ∷ b ∷ c ∷ d ∷ []) ys ≡ pairs f (a ∷ b ∷ c ∷ d ∷ []) ys) (λ e f g h. refl))

pub sums_are : (xs ys : List ℕ) → length xs ≡ 4 → length ys ≡ 4 → zip2 (λ x y. (x + y) % 2 ^ 64) xs ys ≡ pairs sum64 xs ys
sums_are xs ys four_x four_y = pairs_are sum64 xs four_x ys four_y

pub xors_are : (xs ys : List ℕ) → length xs ≡ 4 → length ys ≡ 4 → zip2 bit_xor xs ys ≡ pairs bit_xor xs ys
xors_are xs ys four_x four_y = pairs_are bit_xor xs four_x ys four_y

-- two shifts of each lane and an or are a rotation
abbrev Rotates : ℕ → List ℕ → Type 0
Rotates k xs =
    zip2 bit_or
    (zip2 (λ x n. x * 2 ^ n % 2 ^ 64) xs (k ∷ k ∷ k ∷ k ∷ []))
    (zip2 (λ x n. x / 2 ^ n) xs ((64 - k) ∷ (64 - k) ∷ (64 - k) ∷ (64 - k) ∷ []))
    ≡ map (λ x. rotate_left w64 x k) (lanes xs)

pub shifts_rotate : (k : ℕ) → 0 < k → k < 64 → (xs : List ℕ) → length xs ≡ 4 → Rotates k xs
shifts_rotate k low high =
    let left : k % 64 ≡ k = omega arith in
    let right : (64 - k) % 64 ≡ 64 - k = omega arith in
    four_lanes (Rotates k) (λ a b c d. rw (left, right) refl)
