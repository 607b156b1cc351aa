-- Railed words: how a number of 32 bits stands in a word of 64 bits, so that a torn word shows. A word that was cut
-- while it was written, or while its bank was erased, has more 1 bits than it should have, and then it is no railed
-- word, or it is the very word that stood there or was being written. So a device never reads a number that nobody wrote.
use Rattle.std.specs.Prelude.{◌≡◌, ℕ, ◌+◌, ◌-◌, ◌*◌, ◌/◌, ◌%◌, ◌^◌, ◌<◌, ◌⊎◌, Bool, ◌==◌, bit_or}
use Rattle.std.specs.Int.{bit_at}

-- The number in the high half, and its complement in the low half.
abbrev pub railed : ℕ → ℕ
railed x = x * 2 ^ 32 + (2 ^ 32 - 1 - x)

-- The low half of the word is the complement of its high half: the two of them add up to 32 bits that are all 1.
abbrev pub IsRailed : ℕ → Type 0
IsRailed word = word % 2 ^ 32 + word / 2 ^ 32 ≡ 2 ^ 32 - 1

-- Of each bit of the low half and the bit above it in the high half, at least one is 1. A railed word is paired, and
-- whatever a cut makes of it is paired too: a header that isn't was damaged in another way.
abbrev pub IsPaired : ℕ → Type 0
IsPaired word = (i : ℕ) → i < 32 → (bit_at word i ≡ 1) ⊎ (bit_at word (i + 32) ≡ 1)

-- Each 1 bit of the word is 1 in the torn word: what it means, bit by bit, that the torn word has every 1 bit of it.
abbrev pub HasEachOneOf : ℕ → ℕ → Type 0
HasEachOneOf word torn = (i : ℕ) → i < 64 → bit_at word i ≡ 1 → bit_at torn i ≡ 1

-- The test of a railed word.
abbrev pub is_railed : ℕ → Bool
is_railed word = word % 4294967296 + word / 4294967296 == 4294967295

-- The test of a paired word.
abbrev pub is_paired : ℕ → Bool
is_paired word = bit_or (word / 4294967296) (word % 4294967296) == 4294967295

-- The number of a railed word: its high half.
abbrev pub number_in : ℕ → ℕ
number_in word = word / 4294967296
