use Rattle.std.proofs.Common.{◌≡◌, ◌≢◌, List, length, get_or, subst, sym, rules}
use Rattle.std.specs.Prelude.{Ok}
use Rattle.run_spec.specs.Run.{Step}
use Rattle.line_loop.specs.Handling.{of_line}
use Rattle.bench_run.specs.Bench.{desk, Works}
use Rattle.bench_run.proofs.Answering.{nothing, steps_none, steps_ledger, steps_device}
use Rattle.bench_run.proofs.bench.Bench.line.Goals as goal

pub returns-then-is_empty-clause-works : goal.returns-then-is_empty-clause-works
returns-then-is_empty-clause-works g c =
    let none : length c.trimmed-text.result.now ≡ 0 = search rules in
    let steps = steps_none c.args.mode c.args.line.now _ c.requires.most c.trimmed-text.ensures none in
    let old = desk c.args.self.now (g.D.Keeper.view c.args.keeper.now) (g.F.Flash.view c.args.flash.now) (g.K.Sink.view c.args.sink.now) in
    subst (λ (steps : List Step). Works g.M.Mixer.next c.args.mode steps (Ok tt) old old) (sym steps) (nothing g.M.Mixer.next c.args.mode old)

pub returns-then-text-eq123-clause-works : goal.returns-then-text-eq123-clause-works
returns-then-text-eq123-clause-works g c =
    let some : length c.trimmed-text.result.now ≢ 0 = search rules in
    let first : get_or c.trimmed-text.result.now 0 0 ≡ 123 = search rules in
    let steps = steps_ledger c.args.mode c.args.line.now c.trimmed-text.result.now c.requires.most c.trimmed-text.ensures some first in
    let flash = g.F.Flash.view c.args.flash.now in
    subst (λ (steps : List Step). Works g.M.Mixer.next c.args.mode steps c.ledger_line.result (desk c.args.self.now (g.D.Keeper.view c.args.keeper.now) flash (g.K.Sink.view c.args.sink.now))
    (desk c.ledger_line.new.self (g.D.Keeper.view c.ledger_line.new.keeper) flash (g.K.Sink.view c.ledger_line.new.sink))) (sym steps) (c.ledger_line.ensures.works flash)

pub returns-clause-works : goal.returns-clause-works
returns-clause-works g c =
    let some : length c.trimmed-text.result.now ≢ 0 = search rules in
    let first : get_or c.trimmed-text.result.now 0 0 ≢ 123 = search rules in
    let steps = steps_device c.args.mode c.args.line.now c.trimmed-text.result.now c.requires.most c.trimmed-text.ensures some first in
    let keeper = g.D.Keeper.view c.args.keeper.now in
    rw c.as_line_fault.ensures (subst (λ (steps : List Step). Works g.M.Mixer.next c.args.mode steps (of_line c.device_line.result) (desk c.args.self.now keeper (g.F.Flash.view c.args.flash.now) (g.K.Sink.view c.args.sink.now))
    (desk c.device_line.new.self keeper (g.F.Flash.view c.device_line.new.flash) (g.K.Sink.view c.device_line.new.sink))) (sym steps) (c.device_line.ensures.works keeper))
