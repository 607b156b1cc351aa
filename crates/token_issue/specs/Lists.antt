-- The tokens of a chain as a list, in which the token of a count stands at the count's place.
use Rattle.std.specs.Prelude.{ℕ, ◌+◌, ◌%◌, Bool, ◌&&◌, ◌==◌, nat_lt, max, List, map, take, slice_index, if◌then◌else◌}
use Rattle.std.specs.List.{range_with_len, count_by}
use Rattle.paygo_spec.specs.declared.TheConstants.{LAST, GREAT}
use Rattle.paygo_spec.specs.Chain.{token_at}
use Rattle.ledger_spec.specs.declared.Kind.{Kind}
use Rattle.ledger_spec.specs.Issuing.{parity_of}

-- The values of f at the numbers from 0 to below the bound.
unfoldable pub values_below : (ℕ → ℕ) → ℕ → List ℕ
values_below f bound = map f (range_with_len 0 bound)

-- The tokens of so many counts, from count 0 on, of the chain whose code of count 0 is this one. A starting code and a
-- value lead to one code of count 0, and all that lead to the same one have the same tokens.
abbrev pub tokens_from : (ℕ → ℕ) → ℕ → ℕ → List ℕ
tokens_from next code length = values_below (token_at next code 0) length

-- Whether the token of a count stands once among those of the counts from 0 to the greater of 4,095 and this one.
abbrev pub is_once : List ℕ → ℕ → Bool
is_once tokens count = count_by (λ token. token == slice_index tokens count) (take (max LAST count + 1) tokens) == 1

-- Whether a token of this kind may be issued at a count, by the list of tokens, where `last` was the last count.
abbrev pub may_take : List ℕ → ℕ → Kind → ℕ → Bool
may_take tokens last kind count = nat_lt last count && ((count % 2 == parity_of kind) && is_once tokens count)

-- How many counts the list has that is asked whether a count is clean: 4,096 where that is enough, else 16,384.
abbrev pub counts_for : ℕ → ℕ
counts_for count = if nat_lt LAST count then GREAT + 1 else LAST + 1
