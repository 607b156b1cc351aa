use Rattle.count_window.proofs.Progress.{Progress}
use Rattle.count_window.proofs.keeps_rule.Given as goal

abbrev pub invariant-loop-i : goal.invariant-loop-i
invariant-loop-i l = Progress l.last l.bits l.i l.overtaken
