-- The snapshot of a history: the summary by which a device, or a bank of its flash, may forget the entries.
use Rattle.std.specs.Prelude.{ℕ, zero, suc, ◌+◌, ◌-◌, ◌*◌, ◌^◌, Bool, ◌&&◌, nat_lt, List}
use Rattle.paygo_spec.specs.declared.Entry.{Entry}
use Rattle.paygo_spec.specs.History.{Summary, limit_of, top, spent}
use Rattle.paygo_spec.specs.Clock.{clock_of}
use Rattle.paygo_spec.specs.Window.{WindowView, bit}

-- The number whose bit i, for each i below n, is whether f holds of i.
unfoldable pub bits_of : (ℕ → Bool) → ℕ → ℕ
bits_of f zero = 0
bits_of f (suc n) = bit (f n) * 2 ^ n + bits_of f n

-- Whether the count i below the greatest accepted one is at least 1 and spent.
abbrev pub is_used : Summary → List Entry → ℕ → Bool
is_used start entries i = nat_lt i (top start entries) && spent start entries (top start entries - i)

-- The window of a history.
abbrev pub window_of : Summary → List Entry → WindowView
window_of start entries =
    record { limit = limit_of start entries; last = top start entries; bits = bits_of (is_used start entries) 16 }

-- The snapshot of a history: its limit, the greatest accepted count, which of the sixteen counts up to it are spent, and
-- what the clock shows.
abbrev pub snapshot : ℕ → Summary → List Entry → Summary
snapshot unit start entries =
    record {
      limit = (window_of start entries).limit;
      last = (window_of start entries).last;
      bits = (window_of start entries).bits;
      left = (clock_of unit start entries).left;
      free = (clock_of unit start entries).free;
      fails = (clock_of unit start entries).fails;
      block = (clock_of unit start entries).block;
    }
