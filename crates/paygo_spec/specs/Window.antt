-- The window: all that a device keeps of its accepted tokens. It is the greatest count, the last count, and sixteen bits: bit i is whether
-- the count i below the last one is spent.
use Rattle.std.specs.Prelude.{◌≡◌, ℕ, zero, suc, ◌+◌, ◌-◌, ◌^◌, ◌<◌, ◌≤◌, Bool, true, false, not, ◌&&◌, ◌||◌, ◌==◌, nat_lt, nat_le, List}
use Rattle.std.specs.Int.{bit_at}
use Rattle.paygo_spec.specs.declared.Entry.{Entry}
use Rattle.paygo_spec.specs.History.{Summary, limit_of, top, spent, is_odd}

-- The three numbers of a window: the greatest count that is ever taken, the last one, and the bits.
pub record WindowView : Type 0 where
  pub limit : ℕ
  pub last : ℕ
  pub bits : ℕ

-- A fact as a bit.
abbrev pub bit : Bool → ℕ
bit true = 1
bit false = 0

-- A window stands for a history: its limit is that of the history, its last count is the greatest accepted one, and its
-- bits say which of the counts near it are spent.
pub record StandsFor (limit last bits : ℕ) (start : Summary) (entries : List Entry) : Type 0 where
  pub limit_is : limit ≡ limit_of start entries
  pub top_is : last ≡ top start entries
  pub fits : bits < 2 ^ 16
  -- bit i is set exactly where the count i below the last one is spent
  pub spent_is : (i count : ℕ) → i < 16 → i + count ≡ last → 1 ≤ count → bit_at bits i ≡ bit (spent start entries count)
  -- and clear where there is no such count
  pub no_count : (i : ℕ) → last ≤ i → bit_at bits i ≡ 0

-- The start that a window alone makes, with no time and no failures.
abbrev pub alone : ℕ → ℕ → ℕ → Summary
alone limit last bits = record { limit = limit; last = last; bits = bits; left = 0; free = false; fails = 0; block = 0 }

-- The rule on windows: what a last count and its bits must be like under a limit, so that they are the window of some
-- history.
pub record IsWindow (limit last bits : ℕ) : Type 0 where
  pub in_range : last ≤ limit
  pub fits : bits < 2 ^ 16
  -- the last count is spent, if there is one
  pub last_spent : bit_at bits 0 ≡ bit (nat_lt 0 last)
  -- there is no count below 1
  pub no_count : (i : ℕ) → i < 16 → last ≤ i → bit_at bits i ≡ 0
  -- below a spent odd count, whose set token overtook them, all counts are spent
  pub overtaken : (i j count : ℕ) → i < j → j < 16 → j < last → i + count ≡ last → is_odd count ≡ true
      → bit_at bits i ≡ 1 → bit_at bits j ≡ 1

-- A test of each number below n.
unfoldable pub all_below : (ℕ → Bool) → ℕ → Bool
all_below f zero = true
all_below f (suc n) = f n && all_below f n

-- The rule on windows as a test.
abbrev pub is_window : ℕ → ℕ → ℕ → Bool
is_window limit last bits =
    nat_le last limit && nat_lt bits (2 ^ 16) && (bit_at bits 0 == bit (nat_lt 0 last)) &&
    all_below (λ i. nat_lt i last || bit_at bits i == 0) 16 &&
    all_below (λ j.
    all_below (λ i. not (nat_lt j last && is_odd (last - i) && bit_at bits i == 1) || bit_at bits j == 1) j) 16
