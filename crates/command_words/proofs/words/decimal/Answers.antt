use Rattle.std.proofs.Common.{arith, ℕ, ◌<◌, ◌≤◌, ◌^◌, lit<}
use Rattle.std.proofs.Math.Nat.{pow-le-pow_right}
use Rattle.command_words.proofs.words.decimal.Goals as goal

-- a number below a power of ten of at most nineteen digits
small : (n i : ℕ) → n < 10 ^ i → i ≤ 19 → n < 10 ^ 19
small n i below few = omega (arith, below, pow-le-pow_right {n = 10} (lit< tt) {i = i} {j = 19} few)

pub overflow_mul-n : goal.overflow_mul-n
overflow_mul-n c = omega (arith, small _ _ c.loop-c.invariant.small (omega (arith, c.loop-c-test.true, c.if-word-gt20.false)))

pub overflow_add-n : goal.overflow_add-n
overflow_add-n c = omega (arith, small _ _ c.loop-c.invariant.small (omega (arith, c.loop-c-test.true, c.if-word-gt20.false)))
