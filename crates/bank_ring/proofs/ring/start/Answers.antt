use Rattle.std.proofs.Common.{arith}
use Rattle.bank_ring.proofs.Rings.{started, started_range}
use Rattle.bank_ring.proofs.ring.start.Goals as goal

pub returns-clause-range : goal.returns-clause-range
returns-clause-range g c = started_range _ _ _ _ c.banks-banks.ensures (g.met.M.Media.whole c.args.media.now).least c.start_pair.ensures

pub returns-clause-pair : goal.returns-clause-pair
returns-clause-pair g c =
    let is = g.met.M.Media.whole c.args.media.now in
    started _ _ _ _ _ _ (omega (arith, is.most, c.banks-banks.ensures, c.read_headers.array_long)) c.from.ensures c.banks-banks.ensures c.in_ok-read_headers.ensures.read c.start_pair.ensures
