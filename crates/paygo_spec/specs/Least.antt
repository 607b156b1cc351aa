-- The least number that passes a test.
use Rattle.std.specs.Prelude.{◌≡◌, ℕ, ◌<◌, Bool, true, false, filter, List, slice_get}
use Rattle.std.specs.declared.option.Option.{Option}
use Rattle.std.specs.List.{range_with_len}

-- All numbers below n that pass, in their order.
abbrev pub passing : (ℕ → Bool) → ℕ → List ℕ
passing p n = filter p (range_with_len 0 n)

-- The least number below n that passes, if one does.
unfoldable pub least : (ℕ → Bool) → ℕ → Option ℕ
least p n = slice_get (passing p n) 0

-- What is meant by the least number that passes.
pub record IsLeast (p : ℕ → Bool) (bound n : ℕ) : Type 0 where
  pub below : n < bound
  pub passes : p n ≡ true
  pub first : (m : ℕ) → m < n → p m ≡ false
