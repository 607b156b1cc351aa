-- A chain for tests that comes back to codes that it had before, so that two of its counts have one token.
use Rattle.std.specs.Prelude.{ℕ, ◌+◌, ◌%◌, ◌^◌, ◌<◌, ◌==◌, List, if◌then◌else◌}
use Rattle.std.proofs.Common.{arith}
use Rattle.std.proofs.lemmas.Nat.{mod_below}

-- It steps by seven thousands, but at two codes.
abbrev pub knot_next : List ℕ → ℕ → ℕ
knot_next key code =
    if code == 128349796 then 123470000 else (if code == 123470000 then 128363796 else (code + 7000) % 10 ^ 9)

-- Its next codes are codes.
pub knot_below : (key : List ℕ) (code : ℕ) → knot_next key code < 10 ^ 9
knot_below key code = let onward = mod_below (code + 7000) (10 ^ 9) (omega arith) in grind arith
