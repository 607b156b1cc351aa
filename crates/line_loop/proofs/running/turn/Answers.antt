use Rattle.std.proofs.Common.{Ok, refl, subst, take}
use Rattle.line_loop.specs.declared.lines.Next.{Next}
use Rattle.line_loop.specs.Handling.{desk, of_line}
use Rattle.line_loop.specs.Outside.{outside}
use Rattle.line_loop.specs.Reader.{Hands}
use Rattle.line_loop.specs.Turn.{parts}
use Rattle.line_loop.proofs.Turning.{took, ended, blamed, blamed_long, blamed_end}
use Rattle.line_loop.proofs.running.turn.Goals as goal

pub returns-in-Ok-Line-clause-turned : goal.returns-in-Ok-Line-clause-turned
returns-in-Ok-Line-clause-turned g c =
    let old = parts c.args.lines.now (g.S.Source.view c.args.source.now) (desk c.args.handler.now (g.D.Keeper.view c.args.keeper.now) (g.F.Flash.view c.args.flash.now) (g.K.Sink.view c.args.sink.now)) in
    let new = parts c.next.new.self (g.S.Source.view c.next.new.source) (desk c.line.new.self (g.D.Keeper.view c.line.new.keeper) (g.F.Flash.view c.line.new.flash) (g.K.Sink.view c.line.new.sink)) in
    let hands = subst (λ (n : Next). Hands (Ok n) c.next.new.line old.lines new.lines old.source new.source) c.in-Ok-Line.field-0-is c.in-Ok-Line.ensures in
    let line = take c.in-Ok-Line.len c.next.new.line in
    rw c.ended.ensures (took g.H.LineHandler.handles g.H.LineHandler.concludes c.line.result hands.came line old new hands.counts hands.answer.2 hands.ahead c.line.ensures.handles)

pub returns-in-Ok-Long-clause-turned : goal.returns-in-Ok-Long-clause-turned
returns-in-Ok-Long-clause-turned g c =
    let keeper = g.D.Keeper.view c.args.keeper.now in
    let flash = g.F.Flash.view c.args.flash.now in
    let old = parts c.args.lines.now (g.S.Source.view c.args.source.now) (desk c.args.handler.now keeper flash (g.K.Sink.view c.args.sink.now)) in
    let new = parts c.next.new.self (g.S.Source.view c.next.new.source) (desk c.long.new.self keeper flash (g.K.Sink.view c.long.new.sink)) in
    let hands = subst (λ (n : Next). Hands (Ok n) c.next.new.line old.lines new.lines old.source new.source) c.in-Ok-Long.field-0-is c.in-Ok-Long.ensures in
    let line = hands.answer.0 in
    let one = c.long.ensures.handles line keeper flash hands.answer.1 hands.answer.2 in
    rw c.ended-in-Ok-Long.ensures (rw c.as_line_fault.ensures (took g.H.LineHandler.handles g.H.LineHandler.concludes (of_line c.long.result) hands.came line old new hands.counts hands.answer.3 hands.ahead one))

pub returns-in-Ok-Line-clause-causes : goal.returns-in-Ok-Line-clause-causes
returns-in-Ok-Line-clause-causes g c =
    let old = outside (g.S.Source.view c.args.source.now) (g.K.Sink.view c.args.sink.now) (g.D.Keeper.view c.args.keeper.now) (g.F.Flash.view c.args.flash.now) in
    let new = outside (g.S.Source.view c.next.new.source) (g.K.Sink.view c.line.new.sink) (g.D.Keeper.view c.line.new.keeper) (g.F.Flash.view c.line.new.flash) in
    let hands = subst (λ (n : Next). Hands (Ok n) c.next.new.line c.args.lines.now c.next.new.self old.source new.source) c.in-Ok-Line.field-0-is c.in-Ok-Line.ensures in
    rw c.ended.ensures (blamed c.line.result old new hands.faults c.line.ensures.causes c.line.ensures.plan)

pub returns-in-Ok-Long-clause-causes : goal.returns-in-Ok-Long-clause-causes
returns-in-Ok-Long-clause-causes g c =
    let old = outside (g.S.Source.view c.args.source.now) (g.K.Sink.view c.args.sink.now) (g.D.Keeper.view c.args.keeper.now) (g.F.Flash.view c.args.flash.now) in
    let new = outside (g.S.Source.view c.next.new.source) (g.K.Sink.view c.long.new.sink) (g.D.Keeper.view c.args.keeper.now) (g.F.Flash.view c.args.flash.now) in
    let hands = subst (λ (n : Next). Hands (Ok n) c.next.new.line c.args.lines.now c.next.new.self old.source new.source) c.in-Ok-Long.field-0-is c.in-Ok-Long.ensures in
    rw c.ended-in-Ok-Long.ensures (rw c.as_line_fault.ensures (blamed_long c.long.result old new hands.faults c.long.ensures.cause refl refl))

pub returns-in-Ok-End-clause-causes : goal.returns-in-Ok-End-clause-causes
returns-in-Ok-End-clause-causes g c =
    let old = outside (g.S.Source.view c.args.source.now) (g.K.Sink.view c.args.sink.now) (g.D.Keeper.view c.args.keeper.now) (g.F.Flash.view c.args.flash.now) in
    let new = outside (g.S.Source.view c.next.new.source) (g.K.Sink.view c.end.new.sink) (g.D.Keeper.view c.args.keeper.now) (g.F.Flash.view c.args.flash.now) in
    let hands = subst (λ (n : Next). Hands (Ok n) c.next.new.line c.args.lines.now c.next.new.self old.source new.source) c.in-Ok-End.field-0-is c.in-Ok-End.ensures in
    rw c.concluded.ensures (blamed_end c.end.result old new hands.faults c.end.ensures.cause refl refl)

pub returns-in-Ok-End-clause-turned : goal.returns-in-Ok-End-clause-turned
returns-in-Ok-End-clause-turned g c =
    let keeper = g.D.Keeper.view c.args.keeper.now in
    let flash = g.F.Flash.view c.args.flash.now in
    let old = parts c.args.lines.now (g.S.Source.view c.args.source.now) (desk c.args.handler.now keeper flash (g.K.Sink.view c.args.sink.now)) in
    let new = parts c.next.new.self (g.S.Source.view c.next.new.source) (desk c.args.handler.now keeper flash (g.K.Sink.view c.end.new.sink)) in
    let hands = subst (λ (n : Next). Hands (Ok n) c.next.new.line old.lines new.lines old.source new.source) c.in-Ok-End.field-0-is c.in-Ok-End.ensures in
    rw c.concluded.ensures (ended g.H.LineHandler.handles g.H.LineHandler.concludes c.end.result hands.came old new hands.counts
    record { all = hands.answer.0; none = hands.answer.1; ended = hands.answer.2; last = c.end.ensures.concludes; same = refl })
