use Rattle.std.proofs.Common.{sym, subst, Some}
use Rattle.paygo_spec.specs.Flash.{Passes, erased_bank}
use Rattle.bank_ring.specs.View.{flash_view}
use Rattle.bank_ring.proofs.Rings.{turn_passes, turn_fails}
use Rattle.bank_ring.proofs.ring.Ring.turn.Goals as goal

pub returns-in-Err-clause-fault : goal.returns-in-Err-clause-fault
returns-in-Err-clause-fault g c = λ up. turn_fails (g.M.Media.view c.args.self.now.media) (g.M.Media.view c.target.new.media) (g.M.Media.view c.erase.new.self) c.args.self.now.shown c.in-Some.pair c.args.bank c.from-slot.result c.in_ok-target.target (g.met.M.Media.whole c.args.self.now.media) c.args.self.now.in_range c.in-Some.is c.in_ok-target.ensures.same c.requires c.from-slot.ensures c.in_ok-target.ensures.other up c.in-Err.ensures.fault

pub returns-in-Ok-clause-ok : goal.returns-in-Ok-clause-ok
returns-in-Ok-clause-ok g c =
    subst (λ p. Passes (erased_bank c.args.bank) (flash_view (g.M.Media.view c.args.self.now.media) c.args.self.now.shown) (flash_view (g.M.Media.view c.erase.new.self) (Some p))) (sym c.with.ensures)
    (turn_passes (g.M.Media.view c.args.self.now.media) (g.M.Media.view c.target.new.media) (g.M.Media.view c.erase.new.self) c.args.self.now.shown c.in-Some.pair c.args.bank c.from-slot.result c.in_ok-target.target (g.met.M.Media.whole c.args.self.now.media) c.args.self.now.in_range c.in-Some.is c.in_ok-target.ensures.same c.requires c.from-slot.ensures c.in_ok-target.ensures.other c.in_ok-target.ensures.within c.in-Ok.ensures.ok)
