-- A chain for tests, in which a count isn't clean.
use Rattle.std.specs.Prelude.{ℕ, ◌+◌, ◌%◌, ◌^◌, ◌<◌, ◌==◌, Bool, true, false, List, if◌then◌else◌}
use Rattle.std.proofs.Common.{arith, lit<}
use Rattle.std.proofs.lemmas.Nat.{mod_below}

-- The next code: two codes lead to where the other one would have led, and each other code steps by 7 thousands.
abbrev pub knot_next : List ℕ → ℕ → ℕ
knot_next key code =
    if code == 128349796 then 123470000 else if code == 123470000 then 128363796 else (code + 7000) % 10 ^ 9

choice_below : (first : Bool) (a b : ℕ) → a < 10 ^ 9 → b < 10 ^ 9 → (if first then a else b) < 10 ^ 9
choice_below true a b low high = low
choice_below false a b low high = high

-- It is a code.
pub knot_below : (key : List ℕ) (code : ℕ) → knot_next key code < 10 ^ 9
knot_below key code =
    choice_below (code == 128349796) 123470000 (if code == 123470000 then 128363796 else (code + 7000) % 10 ^ 9) (lit< tt)
    (choice_below (code == 123470000) 128363796 ((code + 7000) % 10 ^ 9) (lit< tt) (mod_below (code + 7000) (10 ^ 9) (omega arith)))
