-- Counts of faults. Each fault is counted once, and nothing else is: so whoever is blamed for an answer shows it by a count
-- that is one higher, and a count that stays shows that no fault was passed over.
use Rattle.std.specs.Prelude.{◌≡◌, ℕ, ◌+◌, ◌-◌, ◌^◌, min, max, Result, Ok, Err}

-- A counter that stands still at the end of its type, n higher.
abbrev pub raised : ℕ → ℕ → ℕ
raised count n = max count (min (count + n) (2 ^ 64 - 1))

-- One fault was counted.
abbrev pub Rose : ℕ → ℕ → Type 0
Rose before now = now ≡ raised before 1

-- A call that answers its fault took one, and any other took none.
abbrev pub Counted : {T E : Type 0} → Result T E → ℕ → ℕ → Type 0
Counted (Ok value) before now = now ≡ before
Counted (Err fault) before now = Rose before now
