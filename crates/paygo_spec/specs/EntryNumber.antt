-- The number of 32 bits by which an entry of the history stands in the flash, and how it is read back.
use Rattle.std.specs.Prelude.{ℕ, ◌+◌, ◌*◌, ◌/◌, ◌%◌, ◌^◌, ◌<◌, ◌==◌, nat_lt, [], ◌∷◌, Option, Some, None, if◌then◌else◌}
use Rattle.paygo_spec.specs.declared.Entry.{Entry}
use Rattle.paygo_spec.specs.declared.Entry.TheVariants.{Accept, Bad, Elapsed, Raised}
use Rattle.paygo_spec.specs.History.{Summary}
use Rattle.paygo_spec.specs.Lawful.{follows}
use Rattle.paygo_spec.specs.Snapshot.{snapshot}

-- The two top bits say the kind. An accepted token has its count in bits 23 to 10 and its value in bits 9 to 0, a bad
-- one nothing more, and passed time its seconds in bits 29 to 0. That a device was raised has no number of its own: two set
-- top bits are read as no entry.
abbrev pub number_of : Entry → ℕ
number_of (Accept n v) = n * 2 ^ 10 + v
number_of Bad = 2 ^ 30
number_of (Elapsed s) = 2 * 2 ^ 30 + s
number_of Raised = 3 * 2 ^ 30

-- The entry of a number, or none.
abbrev pub entry_of : ℕ → Option Entry
entry_of x =
    if nat_lt x (2 ^ 24) then Some (Accept (x / 2 ^ 10) (x % 2 ^ 10))
    else if x == 2 ^ 30 then Some Bad
    else if x / 2 ^ 30 == 2 then Some (Elapsed (x % 2 ^ 30))
    else None

-- The parts of an entry have room in its number.
abbrev pub HasNumber : Entry → Type 0
HasNumber (Accept n v) = (n < 2 ^ 14) × (v < 2 ^ 10)
HasNumber Bad = Unit {0}
HasNumber (Elapsed s) = s < 2 ^ 30
HasNumber Raised = ⊥

-- The summary after an entry, where one was read and it follows.
abbrev pub after_entry : ℕ → Summary → Option Entry → Option Summary
after_entry unit summary None = None
after_entry unit summary (Some e) =
    if follows summary e then Some (snapshot unit summary (e ∷ [])) else None

-- The summary after the entry of a number that was read from the flash, or none where the number is damaged.
abbrev pub after_number : ℕ → Summary → ℕ → Option Summary
after_number unit summary x = after_entry unit summary (entry_of x)
