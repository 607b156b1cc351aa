use Rattle.paygo_spec.specs.Window.{IsWindow}
use Rattle.bank_journal.specs.Summary.{summary_of}
use Rattle.bank_journal.proofs.Summaries.{with_raised}
use Rattle.bank_journal.proofs.summary.Summary.raised.Goals as goal

pub returns : goal.returns
returns c unit =
    let w : IsWindow c.args.self.window.limit c.args.self.window.last c.args.self.window.bits = rw (← c.parts-last.ensures.last, ← c.parts-last.ensures.bits) c.parts-last.ensures.rule in
    rw c.raise.ensures.parts (with_raised unit (summary_of c.args.self) w)
