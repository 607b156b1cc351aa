use Rattle.std.proofs.Common.{arith, ℕ, ◌<◌, ◌≤◌, ◌^◌, lit<, Some, None, IfSome}
use Rattle.std.specs.declared.option.Option.{Option}
use Rattle.std.proofs.Math.Nat.{pow-le-pow_right}
use Rattle.line_text.proofs.words.number.Goals as goal

-- below a power of ten, and so below a greater one
under : (found : Option ℕ) (k most : ℕ) → k ≤ most → IfSome found (λ n. n < 10 ^ k) → IfSome found (λ n. n < 10 ^ most)
under None k most h below = tt
under (Some n) k most h below = omega (arith, below, pow-le-pow_right {n = 10} (lit< tt) {i = k} {j = most} h)

pub returns-clause-below : goal.returns-clause-below
returns-clause-below c = under _ _ _ c.if-word-most.false c.digits.ensures.below
