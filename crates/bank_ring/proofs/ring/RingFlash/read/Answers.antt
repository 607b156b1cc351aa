use Rattle.bank_ring.proofs.Rings.{read_answer}
use Rattle.bank_ring.proofs.ring.RingFlash.read.Goals as goal

pub returns-clause-word : goal.returns-clause-word
returns-clause-word g c = read_answer (g.M.Media.view c.args.self.now.media) (g.M.Media.view c.read.new.self) c.args.self.now.shown c.in-Some.pair _ _ (g.met.M.Media.whole c.args.self.now.media) c.args.self.now.in_range c.in-Some.is c.requires c.slot.ensures.value c.read.result c.read.ensures.word
