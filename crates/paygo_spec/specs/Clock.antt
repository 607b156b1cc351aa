-- The clock of a device: time left, whether it is free, failures and block, as a fold over its history.
use Rattle.std.specs.Prelude.{◌≡◌, ℕ, ◌+◌, ◌-◌, ◌*◌, ◌/◌, ◌%◌, ◌^◌, ◌≤◌, min, Bool, true, false, ◌&&◌, ◌==◌, nat_le, nat_lt, IsSome, List, [], ◌∷◌, if◌then◌else◌}
use Rattle.std.specs.declared.option.Option.{Option}
use Rattle.std.specs.declared.option.Option.TheVariants.{None, Some}
use Rattle.paygo_spec.specs.declared.Entry.{Entry}
use Rattle.paygo_spec.specs.declared.Entry.TheVariants.{Accept, Bad, Elapsed, Raised}
use Rattle.paygo_spec.specs.declared.TokenKind.{TokenKind}
use Rattle.paygo_spec.specs.declared.TokenKind.TheVariants.{Add, Set, Free, Sync}
use Rattle.paygo_spec.specs.History.{Summary, kind_of}

-- Seconds left, whether time doesn't count any more, failures in a row, and seconds for which entries are blocked.
pub record ClockView : Type 0 where
  pub left : ℕ
  pub free : Bool
  pub fails : ℕ
  pub block : ℕ

-- The clock with these parts.
abbrev pub clock_with : ℕ → Bool → ℕ → ℕ → ClockView
clock_with left free fails block = record { left = left; free = free; fails = fails; block = block }

-- The clock at the start of a history.
abbrev pub clock_at_start : Summary → ClockView
clock_at_start start = clock_with start.left start.free start.fails start.block

-- The greatest time left, in seconds.
abbrev pub most_left : ℕ
most_left = 10 ^ 12

-- Whether a day has a whole number of seconds for so many units.
abbrev pub divides_day : ℕ → Bool
divides_day n = nat_lt 0 n && (nat_lt n 256 && (86400 % n == 0))

-- The seconds of one unit of time.
abbrev pub unit_of : ℕ → ℕ
unit_of divider = 86400 / divider

-- The clock after an accepted token of this kind and value: a set token gives its units in place of the time left, an
-- add token adds its units, but not on a free device, and one that frees the device ends its time. Else time stays.
abbrev pub taken_by : ℕ → Option TokenKind → ℕ → ClockView → ClockView
taken_by unit (Some Set) v clock = record clock { left = v * unit; free = false; fails = 0 }
taken_by unit (Some Add) v clock =
    if clock.free then record clock { fails = 0 }
    else record clock { left = min (clock.left + v * unit) most_left; fails = 0 }
taken_by unit (Some Free) v clock = record clock { left = 0; free = true; fails = 0 }
taken_by unit (Some Sync) v clock = record clock { fails = 0 }
taken_by unit None v clock = record clock { fails = 0 }

-- The clock after a bad entry: one failure more, up to 10, and a block that doubles with each.
abbrev pub after_bad : ClockView → ClockView
after_bad clock =
    let fails = min (clock.fails + 1) 10 in
    record clock { fails = fails; block = 60 * 2 ^ fails }

-- The clock after an entry of the history.
abbrev pub clock_after : ℕ → Entry → ClockView → ClockView
clock_after unit (Accept n v) clock = taken_by unit (kind_of n v) v clock
clock_after unit Bad clock = after_bad clock
clock_after unit (Elapsed s) clock = record clock { left = clock.left - s; block = clock.block - s }
clock_after unit Raised clock = clock

-- The clock after a whole history.
abbrev pub clock_of : ℕ → Summary → List Entry → ClockView
clock_of unit start [] = clock_at_start start
clock_of unit start (e ∷ entries) = clock_after unit e (clock_of unit start entries)

-- The rule of a clock: what holds of the clock of every device, and what a clock read back from the flash must meet.
-- Time left has a greatest value, failures stop at 10, a free device has no time left, and entries are blocked only
-- after a failure, for no longer than that many failures block.
pub record IsClock (clock : ClockView) : Type 0 where
  pub within : clock.left ≤ most_left
  pub few : clock.fails ≤ 10
  pub freed : clock.free ≡ true → clock.left ≡ 0
  pub unblocked : clock.fails ≡ 0 → clock.block ≡ 0
  pub bounded : clock.block ≤ 60 * 2 ^ clock.fails

-- The longest block after so many failures, in seconds: none without a failure.
abbrev pub longest_block : ℕ → ℕ
longest_block fails = if fails == 0 then 0 else 60 * 2 ^ fails

-- The test of the rule.
abbrev pub is_clock : ClockView → Bool
is_clock clock =
    nat_le clock.left most_left && nat_le clock.fails 10 && (if clock.free then clock.left == 0 else true)
    && nat_le clock.block (longest_block clock.fails)

-- The token of this count and value does something that the rules name: it is of some kind.
abbrev pub HasEffect : ℕ → ℕ → Type 0
HasEffect n v = IsSome (kind_of n v)

-- Every entry by a customer came while nothing was blocked, and each accepted token has an effect.
abbrev pub CameUnblocked : ℕ → Summary → List Entry → Type 0
CameUnblocked unit start [] = Unit {0}
CameUnblocked unit start (Accept n v ∷ entries) =
    CameUnblocked unit start entries × ((clock_of unit start entries).block ≡ 0) × HasEffect n v
CameUnblocked unit start (Bad ∷ entries) = CameUnblocked unit start entries × ((clock_of unit start entries).block ≡ 0)
CameUnblocked unit start (_ ∷ entries) = CameUnblocked unit start entries
