use Rattle.std.proofs.Common.{◌≡◌, ◌+◌, ◌-◌, length}
use Rattle.line_loop.specs.Handling.{desk}
use Rattle.line_loop.specs.Turn.{parts}
use Rattle.line_loop.proofs.Going.{Going}
use Rattle.line_loop.proofs.running.run_lines.Given as goal

abbrev pub invariant-turns : goal.invariant-turns
invariant-turns g l = record {
  is_ready : g.H.LineHandler.is_ready l.handler (g.F.Flash.view l.flash);
  keeper : g.H.LineHandler.spares_keeper l.fn.handler → (l.keeper ≡ l.fn.keeper) × g.H.LineHandler.spares_keeper l.handler;
  flash : g.H.LineHandler.spares_flash l.fn.handler → (l.flash ≡ l.fn.flash) × g.H.LineHandler.spares_flash l.handler;
  going : Going g.H.LineHandler.handles
      (parts l.initial.lines (g.S.Source.view l.fn.source) (desk l.fn.handler (g.D.Keeper.view l.fn.keeper) (g.F.Flash.view l.fn.flash) (g.K.Sink.view l.fn.sink)))
      (parts l.lines (g.S.Source.view l.source) (desk l.handler (g.D.Keeper.view l.keeper) (g.F.Flash.view l.flash) (g.K.Sink.view l.sink)));
}

abbrev pub decreases-turns : goal.decreases-turns
decreases-turns g l = l.lines.budget - l.lines.taken + length l.lines.held
