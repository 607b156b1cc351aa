use Rattle.std.proofs.Common.{refl, ◌∙◌}
use Rattle.line_loop.specs.Handling.{desk}
use Rattle.line_loop.specs.Turn.{parts}
use Rattle.line_loop.proofs.Going.{begins, keeps_going, nearer, ends}
use Rattle.line_loop.proofs.running.run_lines.Goals as goal

pub turns-init : goal.turns-init
turns-init g c = record {
  is_ready = c.requires.is_ready;
  keeper = λ is. (refl, is);
  flash = λ is. (refl, is);
  going = begins g.H.LineHandler.handles
      (parts c.new-lines.result (g.S.Source.view c.args.source.now) (desk c.args.handler.now (g.D.Keeper.view c.args.keeper.now) (g.F.Flash.view c.args.flash.now) (g.K.Sink.view c.args.sink.now)))
      c.new-lines.ensures;
}

pub turns-smaller : goal.turns-smaller
turns-smaller g c =
    let old = parts c.turns.lines (g.S.Source.view c.turns.source) (desk c.turns.handler (g.D.Keeper.view c.turns.keeper) (g.F.Flash.view c.turns.flash) (g.K.Sink.view c.turns.sink)) in
    let new = parts c.turn.new.lines (g.S.Source.view c.turn.new.source) (desk c.turn.new.handler (g.D.Keeper.view c.turn.new.keeper) (g.F.Flash.view c.turn.new.flash) (g.K.Sink.view c.turn.new.sink)) in
    let turned = c.in-None.ensures.turned in
    nearer g.H.LineHandler.handles g.H.LineHandler.concludes old new turned.came turned.counts turned.turns

pub turns-preserved : goal.turns-preserved
turns-preserved g c =
    let first = parts c.new-lines.result (g.S.Source.view c.args.source.now) (desk c.args.handler.now (g.D.Keeper.view c.args.keeper.now) (g.F.Flash.view c.args.flash.now) (g.K.Sink.view c.args.sink.now)) in
    let old = parts c.turns.lines (g.S.Source.view c.turns.source) (desk c.turns.handler (g.D.Keeper.view c.turns.keeper) (g.F.Flash.view c.turns.flash) (g.K.Sink.view c.turns.sink)) in
    let new = parts c.turn.new.lines (g.S.Source.view c.turn.new.source) (desk c.turn.new.handler (g.D.Keeper.view c.turn.new.keeper) (g.F.Flash.view c.turn.new.flash) (g.K.Sink.view c.turn.new.sink)) in
    let turned = c.in-None.ensures.turned in
    record {
      is_ready = c.turn.ensures.is_ready;
      keeper = λ is. let was = c.turns.invariant.keeper is in let now = c.turn.ensures.keeper was.1 in (now.0 ∙ was.0, now.1);
      flash = λ is. let was = c.turns.invariant.flash is in let now = c.turn.ensures.flash was.1 in (now.0 ∙ was.0, now.1);
      going = keeps_going g.H.LineHandler.handles g.H.LineHandler.concludes first old new c.turns.invariant.going turned.came turned.counts c.in-None.ensures.causes turned.turns;
    }

pub returns-in-Some : goal.returns-in-Some
returns-in-Some g c =
    let first = parts c.new-lines.result (g.S.Source.view c.args.source.now) (desk c.args.handler.now (g.D.Keeper.view c.args.keeper.now) (g.F.Flash.view c.args.flash.now) (g.K.Sink.view c.args.sink.now)) in
    let old = parts c.turns.lines (g.S.Source.view c.turns.source) (desk c.turns.handler (g.D.Keeper.view c.turns.keeper) (g.F.Flash.view c.turns.flash) (g.K.Sink.view c.turns.sink)) in
    let new = parts c.turn.new.lines (g.S.Source.view c.turn.new.source) (desk c.turn.new.handler (g.D.Keeper.view c.turn.new.keeper) (g.F.Flash.view c.turn.new.flash) (g.K.Sink.view c.turn.new.sink)) in
    let promised = ends g.H.LineHandler.handles g.H.LineHandler.concludes first old new c.in-Some.status c.turns.invariant.going c.in-Some.ensures.turned c.in-Some.ensures.causes in
    record {
      usage = promised.usage;
      keeper = λ is. let was = c.turns.invariant.keeper is in (c.turn.ensures.keeper was.1).0 ∙ was.0;
      flash = λ is. let was = c.turns.invariant.flash is in (c.turn.ensures.flash was.1).0 ∙ was.0;
      ended = promised.told;
      causes = promised.causes;
      long = promised.long;
      read = promised.read;
      loops = promised.loops_so;
    }
