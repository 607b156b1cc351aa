-- A summary with one entry more.
use Rattle.std.proofs.Common.{◌≡◌, ℕ, [], ◌∷◌, ap, ◌∙◌}
use Rattle.paygo_spec.specs.declared.Entry.TheVariants.{Bad, Elapsed, Raised}
use Rattle.paygo_spec.specs.History.{Summary, raised_limit}
use Rattle.paygo_spec.specs.Clock.{ClockView, clock_at_start, clock_after}
use Rattle.paygo_spec.specs.Window.{IsWindow}
use Rattle.paygo_spec.specs.Snapshot.{bits_of, is_used, snapshot}
use Rattle.paygo_spec.proofs.Windows.{stands_at_start}
use Rattle.paygo_spec.proofs.Snapshots.{window_is}

-- The summary with these parts.
abbrev made : ℕ → ℕ → ℕ → ClockView → Summary
made limit last bits clock = record { limit = limit; last = last; bits = bits; left = clock.left; free = clock.free; fails = clock.fails; block = clock.block }

-- what changes only the clock keeps the window
same_window : (s : Summary) → IsWindow s.limit s.last s.bits → s.bits ≡ bits_of (is_used s []) 16
same_window s w = window_is s [] s.limit s.last s.bits (stands_at_start s w)

pub with_bad : (unit : ℕ) (s : Summary) (clock : ClockView) → IsWindow s.limit s.last s.bits → clock ≡ clock_after unit Bad (clock_at_start s) → made s.limit s.last s.bits clock ≡ snapshot unit s (Bad ∷ [])
with_bad unit s clock w e = ap (made s.limit s.last s.bits) e ∙ ap (λ b. made s.limit s.last b (clock_after unit Bad (clock_at_start s))) (same_window s w)

pub with_time : (unit seconds : ℕ) (s : Summary) (clock : ClockView) → IsWindow s.limit s.last s.bits → clock ≡ clock_after unit (Elapsed seconds) (clock_at_start s) → made s.limit s.last s.bits clock ≡ snapshot unit s (Elapsed seconds ∷ [])
with_time unit seconds s clock w e = ap (made s.limit s.last s.bits) e ∙ ap (λ b. made s.limit s.last b (clock_after unit (Elapsed seconds) (clock_at_start s))) (same_window s w)

pub with_raised : (unit : ℕ) (s : Summary) → IsWindow s.limit s.last s.bits → made raised_limit s.last s.bits (clock_at_start s) ≡ snapshot unit s (Raised ∷ [])
with_raised unit s w = ap (λ b. made raised_limit s.last b (clock_at_start s)) (same_window s w)
