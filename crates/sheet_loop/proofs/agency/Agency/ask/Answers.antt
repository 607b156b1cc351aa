use Rattle.std.proofs.Common.{◌≢◌, Result, rules, subst, sym}
use Rattle.ledger_spec.specs.declared.TextFault.{TextFault}
use Rattle.ledger_spec.specs.declared.TextFault.TheVariants as text_fault
use Rattle.ledger_spec.specs.AnswerText.{text_of_fault}
use Rattle.sheet_text.specs.declared.asks.Ask.{Ask}
use Rattle.line_loop.specs.Handling.{of_line}
use Rattle.sheet_loop.specs.Office.{answers_of_reading}
use Rattle.sheet_loop.specs.Served.{Gives}
use Rattle.sheet_loop.proofs.Giving.{gave_text}
use Rattle.sheet_loop.proofs.Lines.{read_fault}
use Rattle.sheet_loop.proofs.agency.Agency.ask.Goals as goal

pub returns-else-eq-clause-gives : goal.returns-else-eq-clause-gives
returns-else-eq-clause-gives g c =
    let other : c.in-Err.fault ≢ text_fault.Memory = search rules in
    let keeper = g.D.Keeper.view c.args.keeper.now in
    let book = c.args.self.now.book in
    let before = g.K.Sink.view c.args.sink.now in
    let after = g.K.Sink.view c.write_fault.new.sink in
    rw c.as_line_fault.ensures (subst (λ (r : Result Ask TextFault). Gives (answers_of_reading g.M.Mixer.next r) (of_line c.write_fault.result) keeper book before keeper book after)
    (sym (read_fault c.args.text.now c.in-Err.fault other c.in-Err.ensures.value))
    (gave_text (text_of_fault c.in-Err.fault) c.write_fault.result keeper book before after c.write_fault.ensures.wrote))
