use Rattle.std.proofs.Common.{ℕ, ◌∙◌, Err, refl, subst, sym}
use Rattle.line_loop.specs.Handling.{HasCauses}
use Rattle.sheet_loop.proofs.Selling.{all_paid, none_paid, one_failed, one_paid, one_refused}
use Rattle.sheet_loop.proofs.agency.Agency.sell.Goals as goal

pub loop-i-init : goal.loop-i-init
loop-i-init g c = record {
  paid = none_paid g.M.Mixer.next c.args.sheet.now (g.D.Keeper.view c.args.keeper.now) c.args.self.now.book (g.K.Sink.view c.args.sink.now);
  keeper = refl;
  sink = refl;
}

pub returns-in-Ok-false-clause-causes : goal.returns-in-Ok-false-clause-causes
returns-in-Ok-false-clause-causes g c =
    (c.in-Ok-false.ensures.causes.0 ∙ c.loop-i.invariant.keeper, c.in-Ok-false.ensures.causes.1 ∙ c.loop-i.invariant.sink)

pub returns-in-Ok-false-clause-gives : goal.returns-in-Ok-false-clause-gives
returns-in-Ok-false-clause-gives g c =
    one_refused g.M.Mixer.next c.args.sheet.now c.loop-i.i (g.D.Keeper.view c.args.keeper.now) c.args.self.now.book (g.K.Sink.view c.args.sink.now)
    (g.D.Keeper.view c.loop-i.keeper) c.loop-i.self.book (g.K.Sink.view c.loop-i.sink) (g.D.Keeper.view c.serve.new.keeper) c.serve.new.self.book (g.K.Sink.view c.serve.new.sink)
    c.loop-i-test.true c.loop-i.invariant.paid (rw c.id_of.ensures at c.in-Ok-false.ensures.gives)
    (λ office stands. sym c.in-Ok-false.field-0-test ∙ (rw c.id_of.ensures at c.in-Ok-false.ensures.order) office stands)

pub returns-in-Err-clause-causes : goal.returns-in-Err-clause-causes
returns-in-Err-clause-causes g c =
    let keeper = (g.D.Keeper.view c.serve.new.keeper).faults in
    let sink = (g.K.Sink.view c.serve.new.sink).faults in
    subst (λ (n : ℕ). HasCauses (Err c.in-Err.fault) n keeper (g.K.Sink.view c.args.sink.now).faults sink) c.loop-i.invariant.keeper
    (subst (λ (n : ℕ). HasCauses (Err c.in-Err.fault) (g.D.Keeper.view c.loop-i.keeper).faults keeper n sink) c.loop-i.invariant.sink c.in-Err.ensures.causes)

pub returns-in-Err-clause-gives : goal.returns-in-Err-clause-gives
returns-in-Err-clause-gives g c =
    one_failed g.M.Mixer.next c.args.sheet.now c.loop-i.i (g.D.Keeper.view c.args.keeper.now) c.args.self.now.book (g.K.Sink.view c.args.sink.now)
    (g.D.Keeper.view c.loop-i.keeper) c.loop-i.self.book (g.K.Sink.view c.loop-i.sink) (g.D.Keeper.view c.serve.new.keeper) c.serve.new.self.book (g.K.Sink.view c.serve.new.sink)
    c.loop-i-test.true c.loop-i.invariant.paid c.in-Err.fault (rw c.id_of.ensures at c.in-Err.ensures.gives)

pub loop-i-preserved : goal.loop-i-preserved
loop-i-preserved g c = record {
  paid = one_paid g.M.Mixer.next c.args.sheet.now c.loop-i.i (g.D.Keeper.view c.args.keeper.now) c.args.self.now.book (g.K.Sink.view c.args.sink.now)
      (g.D.Keeper.view c.loop-i.keeper) c.loop-i.self.book (g.K.Sink.view c.loop-i.sink) (g.D.Keeper.view c.serve.new.keeper) c.serve.new.self.book (g.K.Sink.view c.serve.new.sink)
      c.loop-i-test.true c.loop-i.invariant.paid (rw c.id_of.ensures at c.in-Ok-true.ensures.gives)
      (λ office stands. sym c.in-Ok-true.field-0-test ∙ (rw c.id_of.ensures at c.in-Ok-true.ensures.order) office stands);
  keeper = c.in-Ok-true.ensures.causes.0 ∙ c.loop-i.invariant.keeper;
  sink = c.in-Ok-true.ensures.causes.1 ∙ c.loop-i.invariant.sink;
}

pub returns-clause-causes : goal.returns-clause-causes
returns-clause-causes g c = (c.loop-i.invariant.keeper, c.loop-i.invariant.sink)

pub returns-clause-gives : goal.returns-clause-gives
returns-clause-gives g c =
    all_paid g.M.Mixer.next c.args.sheet.now c.loop-i.i (g.D.Keeper.view c.args.keeper.now) c.args.self.now.book (g.K.Sink.view c.args.sink.now)
    (g.D.Keeper.view c.loop-i.keeper) c.loop-i.self.book (g.K.Sink.view c.loop-i.sink) c.loop-i-test.false c.loop-i.invariant.paid
