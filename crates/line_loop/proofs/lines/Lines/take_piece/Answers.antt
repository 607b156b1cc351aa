use Rattle.std.proofs.Common.{sym, ◌∙◌}
use Rattle.line_loop.proofs.Held.{some_piece, all_piece}
use Rattle.line_loop.proofs.lines.Lines.take_piece.Goals as goal

pub returns-in-Some : goal.returns-in-Some
returns-in-Some c =
    some_piece _ _ _ _ _ _ _ _ _ _ _ c.in-Some.at c.self.invariant.1 c.self.view_is (sym c.position_of_end.ensures ∙ c.in-Some.is) c.put-size.ensures.size c.put-size.ensures.front

pub returns-in-None : goal.returns-in-None
returns-in-None c =
    let fields = c.self.inside in
    all_piece fields.block _ _ fields.start fields.end _ _ _ _ _ _ c.self.view_is (sym c.position_of_end.ensures ∙ c.in-None.is) c.put-size-in-None.ensures.size c.put-size-in-None.ensures.front
