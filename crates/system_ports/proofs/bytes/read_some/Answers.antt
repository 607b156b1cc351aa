use Rattle.system_ports.proofs.ReadingLemmas.{keeps_itself, keeps_on, reads_on}
use Rattle.system_ports.proofs.bytes.read_some.Goals as goal

pub loop-init : goal.loop-init
loop-init g c = keeps_itself _

pub returns-in_default-clause-next : goal.returns-in_default-clause-next
returns-in_default-clause-next g c = keeps_on _ _ _ c.loop.invariant c.in-Err.ensures.bytes

pub returns-in_default-2-clause-next : goal.returns-in_default-2-clause-next
returns-in_default-2-clause-next g c = reads_on _ _ _ _ _ c.loop.invariant c.read.ensures.bytes

pub loop-preserved : goal.loop-preserved
loop-preserved g c = keeps_on _ _ _ c.loop.invariant c.in-Err.ensures.bytes

pub returns-clause-next : goal.returns-clause-next
returns-clause-next g c = c.loop.invariant
