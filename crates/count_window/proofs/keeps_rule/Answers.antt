use Rattle.std.proofs.Common.{◌<◌, ◌≡◌, ◌∙◌, sym, arith, ℕ, bit_and, ◌/◌, ◌^◌}
use Rattle.std.proofs.lemmas.Nat.Bits.{shr_and_one, bit_at-lt}
use Rattle.std.specs.Int.{bit_at}
use Rattle.std.proofs.lemmas.Bool.Decides.{nat_tests}
use Rattle.count_window.proofs.Progress.{past, clear, used}
use Rattle.count_window.proofs.keeps_rule.Goals as goal
use Rattle.count_window.proofs.keeps_rule.Goals.{then-i-last+else-spent, else-i-last+then-spent-2+then-overtaken, else-i-last+then-spent-2+else-overtaken, else-i-last+else-spent-2+else-overtaken-2}

unset : (bits i : ℕ) → (bit_and (bits / 2 ^ i) 1 ≡ 1 → ⊥) → bit_at bits i ≡ 0
unset bits i h = let e : bit_and (bits / 2 ^ i) 1 ≡ bit_at bits i = shr_and_one bits i in let l : bit_at bits i < 2 = bit_at-lt bits i in omega arith

set_at : (bits i : ℕ) → bit_and (bits / 2 ^ i) 1 ≡ 1 → bit_at bits i ≡ 1
set_at bits i h = sym (shr_and_one bits i) ∙ h

pub loop-i-preserved : goal.loop-i-preserved
loop-i-preserved c = elim c.if-i-last.branch [
  | then-i-last+else-spent w ↦ rw w.overtaken-is (past _ _ _ _ c.loop-i.invariant w.if-i-last.true (unset _ _ w.if-spent.false))
  | else-i-last+then-spent-2+then-overtaken w ↦ used _ _ _ _ c.loop-i.invariant _ w.if-i-last.false (set_at _ _ w.if-spent-2.true) (w.overtaken-is ∙ grind (arith, nat_tests))
  | else-i-last+then-spent-2+else-overtaken w ↦ used _ _ _ _ c.loop-i.invariant _ w.if-i-last.false (set_at _ _ w.if-spent-2.true) (rw w.if-overtaken.false w.overtaken-is)
  | else-i-last+else-spent-2+else-overtaken-2 w ↦ rw w.overtaken-is (clear _ _ _ _ c.loop-i.invariant w.if-i-last.false (unset _ _ w.if-spent-2.false) w.if-overtaken-2.false)
]
