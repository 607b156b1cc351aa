use Rattle.std.proofs.Common.{◌≡◌, true, false, rules}
use Rattle.sheet_loop.specs.Office.{holds_order}
use Rattle.sheet_loop.proofs.Reporting.{report_failed, report_kept, report_refused}
use Rattle.sheet_loop.proofs.agency.Agency.report.Goals as goal

pub returns-in-Err-clause-gives : goal.returns-in-Err-clause-gives
returns-in-Err-clause-gives g c =
    rw c.of_ledger.ensures (report_failed g.M.Mixer.next c.args.sold.now (g.D.Keeper.view c.args.keeper.now) (g.D.Keeper.view c.command.new.keeper) c.args.self.now.book
    c.in-Err.fault (g.K.Sink.view c.args.sink.now) (rw c.id_of-id.ensures at c.in-Err.ensures.applied))

pub returns-then-is_order-clause-gives : goal.returns-then-is_order-clause-gives
returns-then-is_order-clause-gives g c =
    let order : holds_order c.in-Ok.answer ≡ true = search rules in
    let now = g.D.Keeper.view c.command.new.keeper in
    report_kept g.M.Mixer.next c.args.sold.now (g.D.Keeper.view c.args.keeper.now) now c.args.self.now.book
    c.in-Ok.answer order (rw c.id_of-id.ensures at c.in-Ok.ensures.applied) c.keep.result c.keep.new.self.book (g.K.Sink.view c.args.sink.now) (g.K.Sink.view c.keep.new.sink)
    (c.keep.ensures.gives now)

pub returns-clause-gives : goal.returns-clause-gives
returns-clause-gives g c =
    let other : holds_order c.in-Ok.answer ≡ false = search rules in
    rw c.as_line_fault.ensures (report_refused g.M.Mixer.next c.args.sold.now (g.D.Keeper.view c.args.keeper.now) (g.D.Keeper.view c.command.new.keeper) c.args.self.now.book
    c.in-Ok.answer other (rw c.id_of-id.ensures at c.in-Ok.ensures.applied) c.write_answer.result (g.K.Sink.view c.args.sink.now) (g.K.Sink.view c.write_answer.new.sink) c.write_answer.ensures.wrote)
