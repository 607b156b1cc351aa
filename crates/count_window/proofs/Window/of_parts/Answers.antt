use Rattle.std.proofs.Common.{◌∙◌, sym}
use Rattle.paygo_spec.proofs.WindowTests.{test_is}
use Rattle.count_window.proofs.Window.of_parts.Goals as goal

pub returns-then-keeps_rule-clause-test : goal.returns-then-keeps_rule-clause-test
returns-then-keeps_rule-clause-test c = sym c.if-keeps_rule.true ∙ test_is _ _ _ _ c.keeps_rule.ensures

pub returns-else-keeps_rule-clause-test : goal.returns-else-keeps_rule-clause-test
returns-else-keeps_rule-clause-test c = sym c.if-keeps_rule.false ∙ test_is _ _ _ _ c.keeps_rule.ensures
