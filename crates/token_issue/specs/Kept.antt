-- The lists of tokens that are kept from call to call, by their keys, the most recently used first.
use Rattle.std.specs.Prelude.{◌≡◌, ℕ, Bool, false, ◌&&◌, ◌||◌, ◌==◌, cond, nat_eq, List, [], ◌∷◌, take, Contains, Vec}
use Rattle.std.specs.Cmp.Lexicographic.{pointwise}
use Rattle.std.specs.declared.alloc.Global.{Global}
use Rattle.paygo_spec.specs.Chain.{first_code}
use Rattle.token_issue.specs.declared.table_key.TableKey.{TableKey}
use Rattle.token_issue.specs.Lists.{tokens_from}

-- The key of the list that a call asks: that of a device's tokens for a value, of so many counts.
abbrev pub key_of : List ℕ → ℕ → ℕ → ℕ → TableKey
key_of key start value counts = record { key = key; code = first_code start value; counts = counts }

-- Whether two keys are those of one list.
abbrev pub same_table : TableKey → TableKey → Bool
same_table a b = pointwise nat_eq a.key b.key && ((a.code == b.code) && (a.counts == b.counts))

-- Whether the list of a key is among those that are kept.
abbrev pub is_kept : TableKey → List TableKey → Bool
is_kept table [] = false
is_kept table (kept ∷ others) = same_table table kept || is_kept table others

-- The keys of the other lists.
abbrev pub without : TableKey → List TableKey → List TableKey
without table [] = []
without table (kept ∷ others) = cond (same_table table kept) others (kept ∷ without table others)

-- The keys after a use of a list that is kept: it comes to the front.
abbrev pub front : TableKey → List TableKey → List TableKey
front table kept = table ∷ without table kept

-- The keys after a new list: it is kept in front, and the last of eight others goes.
abbrev pub new_front : TableKey → List TableKey → List TableKey
new_front table kept = table ∷ take 7 kept

-- Each list that is kept has the tokens of its key.
abbrev pub AreTables : (List ℕ → ℕ → ℕ) → List (TableKey × Vec ℕ Global) → Type 0
AreTables next entries =
    (entry : TableKey × Vec ℕ Global) → Contains entries entry
    → entry.1.items ≡ tokens_from (next entry.0.key) entry.0.code entry.0.counts
