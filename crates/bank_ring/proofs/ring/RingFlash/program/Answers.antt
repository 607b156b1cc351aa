use Rattle.bank_ring.proofs.Rings.{erased_kept, passes_answer, fails_answer}
use Rattle.bank_ring.proofs.ring.RingFlash.program.Goals as goal

pub program-requires-clause-erased : goal.program-requires-clause-erased
program-requires-clause-erased g c = erased_kept (g.M.Media.view c.args.self.now.media) (g.M.Media.view c.args.self.now.media) c.args.self.now.shown c.in-Some.pair _ _ (g.met.M.Media.whole c.args.self.now.media) c.args.self.now.in_range c.in-Some.is c.requires.within c.slot.ensures.value c.requires.erased

pub returns-clause-ok : goal.returns-clause-ok
returns-clause-ok g c = passes_answer (g.M.Media.view c.args.self.now.media) (g.M.Media.view c.program.new.self) c.args.self.now.shown c.in-Some.pair _ _ (g.met.M.Media.whole c.args.self.now.media) c.args.self.now.in_range c.in-Some.is c.requires.within c.slot.ensures.value c.args.word c.program.result c.program.ensures.ok

pub returns-clause-fault : goal.returns-clause-fault
returns-clause-fault g c = fails_answer (g.M.Media.view c.args.self.now.media) (g.M.Media.view c.program.new.self) c.args.self.now.shown c.in-Some.pair _ _ (g.met.M.Media.whole c.args.self.now.media) c.args.self.now.in_range c.in-Some.is c.requires.within c.slot.ensures.value c.args.word c.program.result c.program.ensures.fault
