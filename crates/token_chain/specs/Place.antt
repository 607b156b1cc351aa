-- What holds all along a walk up a chain.
use Rattle.std.specs.Prelude.{◌≡◌, ℕ, ◌^◌, ◌<◌}
use Rattle.paygo_spec.specs.Chain.{code_at}

-- The starting code and the value are in their ranges, and the code is that of the count.
pub record IsOnChain (next : ℕ → ℕ) (start value count code : ℕ) : Type 0 where
  pub start_below : start < 10 ^ 9
  pub value_below : value < 1000
  pub code_below : code < 10 ^ 9
  pub code_is : code ≡ code_at next start value count
