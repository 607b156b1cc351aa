-- The tokens of one device, by their values.
use Rattle.std.specs.Prelude.{◌≡◌, ℕ, ◌^◌, ◌<◌, List, length, slice_index_or, Option, None, IfSome, Vec}
use Rattle.std.specs.declared.alloc.Global.{Global}
use Rattle.paygo_spec.specs.declared.TheConstants.{LAST}
use Rattle.paygo_spec.specs.Chain.{first_code}
use Rattle.token_issue.specs.Lists.{tokens_from}

-- What the tokens of a device are seen as: the key and the starting code of its chains, and how many counts are
-- looked at.
pub record DeviceChain : Type 0 where
  pub key : List ℕ
  pub start : ℕ
  pub counts : ℕ

-- A place for each of the values 0 to 999, which has the tokens of so many counts with that value, or nothing yet. The
-- counts are more than 4,095, so that each list tells whether a count is clean.
pub record AreLists (next : ℕ → ℕ) (start counts : ℕ) (lists : List (Option (Vec ℕ Global))) : Type 0 where
  pub start_below : start < 10 ^ 9
  pub whole : LAST < counts
  pub values : length lists ≡ 1000
  pub lists_are : (value : ℕ) → value < 1000
      → IfSome (slice_index_or lists value None) (λ list. list.items ≡ tokens_from next (first_code start value) counts)
