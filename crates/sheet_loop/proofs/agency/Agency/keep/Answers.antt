use Rattle.std.proofs.Common.{◌∷◌, [], ◌++◌, List, ℕ, subst}
use Rattle.line_output.specs.Written.{Wrote}
use Rattle.sheet_loop.proofs.Reporting.{kept_one}
use Rattle.sheet_loop.proofs.agency.Agency.keep.Goals as goal

pub returns-clause-gives : goal.returns-clause-gives
returns-clause-gives g c = λ keeper.
    rw c.as_line_fault.ensures (kept_one c.args.sold.now c.in-Ok.kept.0 c.in-Ok.kept.1 c.write_line.result keeper c.args.self.now.book c.report.new.self
    (g.K.Sink.view c.args.sink.now) (g.K.Sink.view c.write_line.new.sink) c.in-Ok.ensures.stands c.in-Ok.ensures.kept
    (subst (λ (line : List ℕ). Wrote (line ++ 10 ∷ []) c.write_line.result (g.K.Sink.view c.args.sink.now) (g.K.Sink.view c.write_line.new.sink)) c.sold_line.ensures.text c.write_line.ensures.wrote))
