use Rattle.paygo_spec.specs.Window.{IsWindow}
use Rattle.bank_journal.specs.Summary.{summary_of}
use Rattle.bank_journal.proofs.Summaries.{with_bad, with_time}
use Rattle.bank_journal.proofs.summary.Summary.add.Goals as goal

pub returns-in-Bad : goal.returns-in-Bad
returns-in-Bad c =
    let w : IsWindow c.args.self.now.window.limit c.args.self.now.window.last c.args.self.now.window.bits = rw (← c.parts-last.ensures.last, ← c.parts-last.ensures.bits) c.parts-last.ensures.rule in
    rw c.in-Bad.is (with_bad c.args.unit (summary_of c.args.self.now) _ w (c.bad.ensures c.args.unit))

pub returns-in-Elapsed : goal.returns-in-Elapsed
returns-in-Elapsed c =
    let w : IsWindow c.args.self.now.window.limit c.args.self.now.window.last c.args.self.now.window.bits = rw (← c.parts-last.ensures.last, ← c.parts-last.ensures.bits) c.parts-last.ensures.rule in
    rw c.in-Elapsed.is (with_time c.args.unit c.in-Elapsed.seconds (summary_of c.args.self.now) _ w (c.pass.ensures c.args.unit))
