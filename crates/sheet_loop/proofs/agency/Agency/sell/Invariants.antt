use Rattle.std.proofs.Common.{◌≡◌}
use Rattle.sheet_loop.proofs.Selling.{PaysTo}
use Rattle.sheet_loop.proofs.agency.Agency.sell.Given as goal

abbrev pub invariant-loop-i : goal.invariant-loop-i
invariant-loop-i g l = record {
  paid : PaysTo g.M.Mixer.next l.sheet l.i (g.D.Keeper.view l.fn.keeper) l.fn.self.book (g.K.Sink.view l.fn.sink)
      (g.D.Keeper.view l.keeper) l.self.book (g.K.Sink.view l.sink);
  keeper : (g.D.Keeper.view l.keeper).faults ≡ (g.D.Keeper.view l.fn.keeper).faults;
  sink : (g.K.Sink.view l.sink).faults ≡ (g.K.Sink.view l.fn.sink).faults;
}
