use Rattle.std.proofs.Common.{Some, arith, ap, sym, ◌∙◌}
use Rattle.count_window.proofs.Taken.{add_valid}
use Rattle.count_window.proofs.Window.may.Goals as goal

pub returns-in-Some-Add-clause-history : goal.returns-in-Some-Add-clause-history
returns-in-Some-Add-clause-history c start entries w =
    add_valid start entries _ _ _ _ _ _ w c.if-count-lt1.false (omega (arith, c.reach.ensures.history start entries w))
    (sym c.of.ensures ∙ c.in-Some-Add.is ∙ ap Some c.in-Some-Add.field-0-is) c.is_open.ensures
