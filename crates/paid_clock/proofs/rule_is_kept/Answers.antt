use Rattle.std.proofs.Common.{◌≡◌, ℕ, ◌≤◌, List, [], ◌∷◌, arith}
use Rattle.paygo_spec.specs.declared.Entry.{Entry}
use Rattle.paygo_spec.specs.declared.Entry.TheVariants.{Accept, Bad, Elapsed, Raised}
use Rattle.paygo_spec.specs.History.{Summary}
use Rattle.paygo_spec.specs.Clock.{clock_of, IsClock, CameUnblocked}
use Rattle.paygo_spec.proofs.Clocks.{credit_keeps}
use Rattle.paid_clock.proofs.rule_is_kept.Goals as goal

-- each entry keeps it
keeps : (unit : ℕ) (start : Summary) (entries : List Entry) → unit ≤ 86400 → IsClock (clock_of unit start []) → CameUnblocked unit start entries → IsClock (clock_of unit start entries)
keeps unit start [] u s h = s
keeps unit start (Accept n v ∷ entries) u s h =
    credit_keeps unit v (clock_of unit start entries) u (keeps unit start entries u s h.0) h.1 n
keeps unit start (Bad ∷ entries) u s h =
    let k : IsClock (clock_of unit start entries) = keeps unit start entries u s h.0 in
    record { within = k.within; few = omega arith; freed = k.freed; unblocked = λ z. absurd (omega arith); bounded = omega arith }
keeps unit start (Elapsed t ∷ entries) u s h =
    let k : IsClock (clock_of unit start entries) = keeps unit start entries u s h in
    record {
      within = omega arith;
      few = k.few;
      freed = λ z. (let y : (clock_of unit start entries).left ≡ 0 = k.freed z in omega arith);
      unblocked = λ z. (let y : (clock_of unit start entries).block ≡ 0 = k.unblocked z in omega arith);
      bounded = omega arith;
    }
keeps unit start (Raised ∷ entries) u s h = keeps unit start entries u s h

pub returns : goal.returns
returns c = keeps
