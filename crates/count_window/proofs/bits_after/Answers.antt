use Rattle.std.proofs.Common.{eq-eqb}
use Rattle.std.proofs.lemmas.Bool.{ne_eqb}
use Rattle.count_window.proofs.Taken.{take_odd, take_up, take_down}
use Rattle.count_window.proofs.bits_after.Goals as goal

pub returns-then-count-last : goal.returns-then-count-last
returns-then-count-last c limit start entries value w = take_down limit _ _ start entries w _ value _ c.if-count-last.true c.requires.counted (c.requires.even c.if-count-last.true) c.marked.ensures

pub returns-then-count-eq1 : goal.returns-then-count-eq1
returns-then-count-eq1 c limit start entries value w = take_odd limit _ _ start entries w _ value _ c.if-count-last.false (eq-eqb _ _ c.if-count-eq1.true) c.ones.ensures

pub returns-else-count-eq1 : goal.returns-else-count-eq1
returns-else-count-eq1 c limit start entries value w = take_up limit _ _ start entries w _ value _ c.if-count-last.false (ne_eqb _ _ c.if-count-eq1.false) c.moved.ensures
