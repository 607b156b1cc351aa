use Rattle.std.proofs.Common.{◌+◌, ◌-◌, ◌*◌, if◌then◌else◌}
use Rattle.line_loop.proofs.Gathering.{Gathered}
use Rattle.line_loop.proofs.lines.Lines.next.Given as goal

abbrev pub invariant-loop-length : goal.invariant-loop-length
invariant-loop-length g l = Gathered l.fn.self l.self (g.S.Source.view l.fn.source) (g.S.Source.view l.source) l.line l.length

abbrev pub decreases-loop-length : goal.decreases-loop-length
decreases-loop-length g l = 2 * (l.self.budget - l.self.taken) + (if l.self.ended then 0 else 1)
