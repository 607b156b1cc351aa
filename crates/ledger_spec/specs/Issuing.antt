-- Which count the shop issues next. The customer types no count, only the token's digits: so a token is issued only at a
-- count whose digits no other count has, of those up to 4,095 and up to its own. A greater count may have them too.
use Rattle.std.specs.Prelude.{ℕ, ◌+◌, ◌%◌, Bool, ◌&&◌, ◌||◌, ◌==◌, not, nat_le, nat_lt, min, max, Option, if◌then◌else◌}
use Rattle.std.specs.List.{list_all, range_with_len}
use Rattle.paygo_spec.specs.declared.TheConstants.{LAST}
use Rattle.paygo_spec.specs.Chain.{token_at}
use Rattle.paygo_spec.specs.Least.{least}
use Rattle.ledger_spec.specs.declared.Kind.{Kind}
use Rattle.ledger_spec.specs.declared.Kind.TheVariants.{Add}

-- Whether a number is n itself, or has another value under f than n has.
abbrev pub differs : (ℕ → ℕ) → ℕ → ℕ → Bool
differs f n m = m == n || not (f m == f n)

-- Whether no other number below the bound has the value that f has at n.
unfoldable pub stands_alone : (ℕ → ℕ) → ℕ → ℕ → Bool
stands_alone f n bound = list_all (differs f n) (range_with_len 0 bound)

-- Whether no other count, from 0 to the greater of 4,095 and this one, has its token, for this value. It is the test of
-- what `IsClean` of the device's definitions says as a fact.
abbrev pub is_clean : (ℕ → ℕ) → ℕ → ℕ → ℕ → Bool
is_clean next start value count = stands_alone (token_at next start value) count (max LAST count + 1)

-- The rest by two of the counts of a kind: those of add tokens are even.
abbrev pub parity_of : Kind → ℕ
parity_of Add = 0
parity_of _ = 1

-- Whether a token of this kind and value may be issued at a count, where `last` was the last count.
abbrev pub may_issue : (ℕ → ℕ) → ℕ → ℕ → Kind → ℕ → ℕ → Bool
may_issue next start last kind value count =
    nat_lt last count && ((count % 2 == parity_of kind) && is_clean next start value count)

-- The count that is issued: the least of them up to the row's limit, if there is one.
abbrev pub pick : (ℕ → ℕ) → ℕ → ℕ → ℕ → Kind → ℕ → Option ℕ
pick next start limit last kind value = least (may_issue next start last kind value) (limit + 1)

-- The greatest count that a device takes next with a value, where this is its last count: that is `reach` of the device's
-- definitions.
abbrev pub reach_from : ℕ → ℕ → ℕ → ℕ
reach_from limit last value = min limit (last + (if value == 999 then 100 else 64))

-- Whether such a device has a count in reach.
abbrev pub is_near : ℕ → ℕ → ℕ → ℕ → Bool
is_near limit last value count = nat_le count (reach_from limit last value)
