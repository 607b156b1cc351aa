-- The device that is furthest behind is one that there can be.
use Rattle.std.proofs.Common.{◌≡◌, ℕ, ◌≤◌, true, false, [], refl, ◌∙◌, ap, arith}
use Rattle.std.specs.Prelude.{nat_lt}
use Rattle.std.proofs.lemmas.Bool.Decides.{nat_tests}
use Rattle.paygo_spec.specs.History.{IsLimit}
use Rattle.paygo_spec.specs.Clock.{IsClock, clock_at_start}
use Rattle.paygo_spec.specs.Lawful.{IsSummary}
use Rattle.paygo_spec.specs.Snapshot.{bits_of}
use Rattle.paygo_spec.specs.Window.{IsWindow, bit}
use Rattle.paygo_spec.proofs.Snapshots.{bits_below, bits_at}
use Rattle.sync_advice.specs.Typing.{behind, IsFitting}

behind_window : (limit floor : ℕ) → floor ≤ limit → IsWindow limit floor (bits_of (λ i. nat_lt i floor) 16)
behind_window limit floor within = record {
  in_range = within;
  fits = bits_below (λ i. nat_lt i floor) 16;
  last_spent = bits_at (λ i. nat_lt i floor) 16 0 (omega arith);
  no_count = λ i l above. (let t : nat_lt i floor ≡ false = grind (arith, nat_tests) in bits_at (λ k. nat_lt k floor) 16 i l ∙ ap bit t);
  overtaken = λ i j count a b low e odd set. (let t : nat_lt j floor ≡ true = grind (arith, nat_tests) in bits_at (λ k. nat_lt k floor) 16 j b ∙ ap bit t);
}

behind_clock : (limit floor : ℕ) → IsClock (clock_at_start (behind limit floor))
behind_clock limit floor = record { within = omega arith; few = omega arith; freed = λ _. refl; unblocked = λ _. refl; bounded = omega arith }

pub behind_summary : (limit floor : ℕ) → IsLimit limit → floor ≤ limit → IsSummary (behind limit floor)
behind_summary limit floor is within = record { limited = is; window = behind_window limit floor within; clock = behind_clock limit floor }

pub behind_fits : (next : ℕ → ℕ) (start unit limit floor last : ℕ) → IsLimit limit → floor ≤ last → last ≤ limit → IsFitting next start unit limit floor last (behind limit floor) []
behind_fits next start unit limit floor last is few within = record {
  searched = (behind_summary limit floor is (omega arith), tt);
  low = omega arith;
  high = few;
  limit_is = omega arith;
  unblocked = refl;
}
