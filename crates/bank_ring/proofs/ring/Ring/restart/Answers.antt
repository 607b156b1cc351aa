use Rattle.std.proofs.Common.{◌≡◌, sym, subst}
use Rattle.std.specs.Prelude.{IsSomeAnd}
use Rattle.paygo_spec.specs.Flash.{FlashView}
use Rattle.paygo_spec.specs.Recovery.{Made, recover}
use Rattle.bank_ring.specs.Orderly.{in_first}
use Rattle.bank_ring.proofs.Restart.{restart_told}
use Rattle.bank_ring.proofs.ring.Ring.restart.Goals as goal

pub returns-clause-same : goal.returns-clause-same
returns-clause-same g c = λ words pair journal kept told orderly made.
    subst (λ (v : FlashView). IsSomeAnd v.words (λ shown. recover shown ≡ Made (in_first journal))) (sym c.over.ensures.seen)
    (restart_told (g.M.Media.view c.args.self.media) c.args.self.shown words pair journal (g.met.M.Media.whole c.args.self.media) c.args.self.in_range kept told orderly made)
