use Rattle.std.proofs.Common.{◌++◌, List, subst, sym}
use Rattle.std.specs.Prelude.{codes}
use Rattle.std.specs.Fmt.{decimal}
use Rattle.line_loop.specs.Handling.{of_line}
use Rattle.sheet_loop.specs.Office.{Answered}
use Rattle.sheet_loop.specs.Served.{Gave}
use Rattle.sheet_loop.proofs.Giving.{gave_text}
use Rattle.sheet_loop.proofs.Lines.{long_said}
use Rattle.sheet_loop.proofs.agency.AgencyLineHandler.long.Goals as goal

pub returns-clause-handles : goal.returns-clause-handles
returns-clause-handles g c = λ line keeper flash size long office stands.
    let before = g.K.Sink.view c.args.sink.now in
    let after = g.K.Sink.view c.write_long.new.sink in
    subst (λ (l : List Answered). Gave l (of_line c.write_long.result) office before keeper c.args.self.now.book after)
    (sym (long_said g.M.Mixer.next line c.args.size office size long))
    (gave_text (codes "long " ++ decimal c.args.size) c.write_long.result keeper c.args.self.now.book before after c.write_long.ensures.wrote office stands)
