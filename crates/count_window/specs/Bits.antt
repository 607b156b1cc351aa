-- Numbers of sixteen bits, bit by bit.
use Rattle.std.specs.Prelude.{◌≡◌, ℕ, ◌^◌, ◌<◌}
use Rattle.std.specs.Int.{bit_at}

-- The sixteen bits of a number are those that f gives.
abbrev pub HasBits : ℕ → (ℕ → ℕ) → Type 0
HasBits n f = (n < 2 ^ 16) × ((i : ℕ) → i < 16 → bit_at n i ≡ f i)
