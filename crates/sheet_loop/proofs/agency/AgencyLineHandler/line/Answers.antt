use Rattle.std.proofs.Common.{◌≢◌, List, length, get_or, rules, subst, sym}
use Rattle.std.specs.Prelude.{codes}
use Rattle.line_loop.specs.Handling.{of_line}
use Rattle.sheet_loop.specs.Office.{Answered}
use Rattle.sheet_loop.specs.Served.{Gave}
use Rattle.sheet_loop.proofs.Giving.{gave_text}
use Rattle.sheet_loop.proofs.Lines.{other_said}
use Rattle.sheet_loop.proofs.agency.AgencyLineHandler.line.Goals as goal

pub returns-clause-handles : goal.returns-clause-handles
returns-clause-handles g c = λ office stands.
    let some : length c.trimmed-text.result.now ≢ 0 = search rules in
    let first : get_or c.trimmed-text.result.now 0 0 ≢ 123 = search rules in
    let keeper = g.D.Keeper.view c.args.keeper.now in
    let before = g.K.Sink.view c.args.sink.now in
    let after = g.K.Sink.view c.write_text.new.sink in
    rw c.as_line_fault.ensures (subst (λ (l : List Answered). Gave l (of_line c.write_text.result) office before keeper c.args.self.now.book after)
    (sym (other_said g.M.Mixer.next c.args.line.now c.trimmed-text.result.now office c.requires.most c.trimmed-text.ensures some first))
    (gave_text (codes "no device here") c.write_text.result keeper c.args.self.now.book before after c.write_text.ensures.wrote office stands))
