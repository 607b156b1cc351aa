use Rattle.std.proofs.Common.{Ok, Err}
use Rattle.sheet_loop.proofs.Selling.{served_none, served_one}
use Rattle.sheet_loop.proofs.agency.Agency.serve.Goals as goal

pub returns-in-Err-clause-gives : goal.returns-in-Err-clause-gives
returns-in-Err-clause-gives g c =
    rw c.of_ledger.ensures (served_none g.M.Mixer.next c.args.command.now (g.D.Keeper.view c.args.keeper.now) (g.D.Keeper.view c.command.new.keeper) c.args.self.now.book
    c.in-Err.fault (g.K.Sink.view c.args.sink.now) c.in-Err.ensures.applied)

pub returns-in-Ok-write_answer-clause-gives : goal.returns-in-Ok-write_answer-clause-gives
returns-in-Ok-write_answer-clause-gives g c =
    served_one g.M.Mixer.next c.args.command.now (g.D.Keeper.view c.args.keeper.now) (g.D.Keeper.view c.command.new.keeper) c.args.self.now.book
    c.in-Ok.answer (Ok tt) (g.K.Sink.view c.args.sink.now) (g.K.Sink.view c.write_answer.new.sink) c.in-Ok.ensures.applied c.in-Ok-write_answer.ensures.wrote

pub returns-in-Err-write_answer-clause-gives : goal.returns-in-Err-write_answer-clause-gives
returns-in-Err-write_answer-clause-gives g c =
    served_one g.M.Mixer.next c.args.command.now (g.D.Keeper.view c.args.keeper.now) (g.D.Keeper.view c.command.new.keeper) c.args.self.now.book
    c.in-Ok.answer (Err c.in-Err-write_answer.field-0) (g.K.Sink.view c.args.sink.now) (g.K.Sink.view c.write_answer.new.sink) c.in-Ok.ensures.applied c.in-Err-write_answer.ensures.wrote
