-- Values that can't be sold to a device, for a maker who chooses its starting code, and for a shop whose quote is far. The
-- codes of a value may fall into a short loop, in which no count has a token of its own: then the next count that is sold is
-- beyond the device's reach, or there is none.
use Rattle.std.specs.Prelude.{ℕ, ◌+◌, Bool, false, not, ◌==◌, nat_le, List, [], ◌∷◌, Option, None, Some, if◌then◌else◌}
use Rattle.std.specs.List.{flat_map, range_with_len}
use Rattle.paygo_spec.specs.declared.TheConstants.{LAST}
use Rattle.paygo_spec.specs.Least.{least}
use Rattle.ledger_spec.specs.declared.Kind.{Kind}
use Rattle.ledger_spec.specs.declared.Kind.TheVariants.{Add, Set, Disable, Sync}
use Rattle.ledger_spec.specs.Issuing.{pick, is_near}

-- Whether the count that is picked for a value, if one is, is in the reach of a device with this last count.
abbrev pub is_sold_near : ℕ → ℕ → Option ℕ → Bool
is_sold_near last value None = false
is_sold_near last value (Some count) = is_near LAST last value count

-- Whether a device with this last count can't be sold a token of this kind and value.
abbrev pub is_stuck : (ℕ → ℕ) → ℕ → Kind → ℕ → ℕ → Bool
is_stuck next start kind value last = not (is_sold_near last value (pick next start LAST last kind value))

-- The least last count, up to the limit, with which a device can't be sold it, if there is one.
abbrev pub stuck_at : (ℕ → ℕ) → ℕ → ℕ → Kind → ℕ → Option ℕ
stuck_at next start limit kind value = least (is_stuck next start kind value) (limit + 1)

-- The kinds of tokens that may have a value.
abbrev pub kinds_for : ℕ → List Kind
kinds_for value =
    if nat_le value 995 then Add ∷ Set ∷ []
    else if value == 998 then Disable ∷ []
    else if value == 999 then Sync ∷ []
    else []

-- What is listed: a kind and a value, and the least last count with which a device can't be sold them.
pub record Stuck : Type 0 where
  pub kind : Kind
  pub value : ℕ
  pub last : ℕ

abbrev pub listed : Kind → ℕ → Option ℕ → List Stuck
listed kind value None = []
listed kind value (Some last) = record { kind = kind; value = value; last = last } ∷ []

-- What is stuck of a value.
abbrev pub stuck_of : (ℕ → ℕ) → ℕ → ℕ → ℕ → List Stuck
stuck_of next start limit value =
    flat_map (λ kind. listed kind value (stuck_at next start limit kind value)) (kinds_for value)

-- What is stuck of the values below this bound, by value. A device has the values below 1,000.
unfoldable pub stuck_below : (ℕ → ℕ) → ℕ → ℕ → ℕ → List Stuck
stuck_below next start limit bound = flat_map (stuck_of next start limit) (range_with_len 0 bound)
