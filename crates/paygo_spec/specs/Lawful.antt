-- Which histories a device can have: where they start, and what may happen next.
use Rattle.std.specs.Prelude.{◌≡◌, ℕ, ◌≤◌, Bool, false, ◌&&◌, ◌==◌, nat_le, List, [], ◌∷◌}
use Rattle.paygo_spec.specs.declared.Entry.{Entry}
use Rattle.paygo_spec.specs.declared.Entry.TheVariants.{Accept, Bad, Elapsed, Raised}
use Rattle.paygo_spec.specs.History.{Summary, first_limit, limit_of, IsLimit, Valid, is_valid}
use Rattle.paygo_spec.specs.Clock.{clock_at_start, clock_of, IsClock}
use Rattle.paygo_spec.specs.Window.{IsWindow}

-- A summary that keeps both rules, under one of the two limits.
pub record IsSummary (start : Summary) : Type 0 where
  pub limited : IsLimit start.limit
  pub window : IsWindow start.limit start.last start.bits
  pub clock : IsClock (clock_at_start start)

-- An entry may come next in a history. A token is typed where no block stands; it is accepted where it is valid. At
-- most 999,999,999 seconds pass at once. A device is raised once.
abbrev pub MayFollow : ℕ → Summary → List Entry → Entry → Type 0
MayFollow unit start entries (Accept n v) =
    ((clock_of unit start entries).block ≡ 0) × Valid start entries n v
MayFollow unit start entries Bad = (clock_of unit start entries).block ≡ 0
MayFollow unit start entries (Elapsed s) = s ≤ 999999999
MayFollow unit start entries Raised = limit_of start entries ≡ first_limit

-- A history that a device with these seconds of a unit can have: it starts with a summary that
-- keeps the rules, and each entry might come when it came.
abbrev pub Lawful : ℕ → Summary → List Entry → Type 0
Lawful unit start [] = IsSummary start
Lawful unit start (e ∷ entries) = Lawful unit start entries × MayFollow unit start entries e

-- An entry that is worth a word of the flash: no entry says that no time passed, and none that the device was raised,
-- which stands in the head of a bank.
abbrev pub IsWritten : Entry → Type 0
IsWritten (Elapsed s) = 1 ≤ s
IsWritten Raised = ⊥
IsWritten _ = Unit {0}

-- The rule on entries, as a test: whether a written entry may follow a summary.
abbrev pub follows : Summary → Entry → Bool
follows summary (Accept n v) = (summary.block == 0) && is_valid summary [] n v
follows summary Bad = summary.block == 0
follows summary (Elapsed s) = nat_le 1 s && nat_le s 999999999
follows summary Raised = false
