-- The words that a number draws: those of the generator PCG32 (O'Neill), started from the number in stream 54.
use Rattle.std.specs.Prelude.{ℕ, zero, suc, ◌+◌, ◌*◌}
use Rattle.rand_pcg.specs.Lcg.{Lcg, started, increment_of}
use Rattle.rand_pcg.specs.Pcg.{multiplier_64, pcg32}

-- The generator after n words.
unfoldable pub after : ℕ → ℕ → Lcg
after seed zero = started 64 multiplier_64 seed (increment_of 64 54)
after seed (suc n) = (pcg32 (after seed n)).1

-- The word n, counted from 0: a number below 2^32.
unfoldable pub word : ℕ → ℕ → ℕ
word seed n = (pcg32 (after seed n)).0

-- The word of a device on a day. One word for each device comes first, and then, day by day, one for each.
abbrev pub word_on : ℕ → ℕ → ℕ → ℕ → ℕ
word_on seed devices day device = word seed (devices * (day + 1) + device)
