use Rattle.std.proofs.Common.{rules}
use Rattle.std.specs.String.{string_bytes}
use Rattle.paygo.proofs.WordLemmas.{one_more}
use Rattle.paygo.proofs.words_of.Goals as goal

pub loop-word-preserved : goal.loop-word-preserved
loop-word-preserved c =
    one_more string_bytes (λ word. word.now) _ c.loop-word.word-index c.word-item.result _ _ c.as_str.result c.loop-word-test.true c.word-item.is c.loop-word.invariant c.as_str.ensures.value c.in_ok-push.ensures.items
