use Rattle.std.proofs.Common.{rules, arith}
use Rattle.token_decode.proofs.Passed.{passed_none, passed_other, passed_old, answer_valid, answer_first, raised_is, raised_not}
use Rattle.token_decode.proofs.search.Goals.{then-is_at+else-may+else-raised, else-is_at}
use Rattle.token_decode.proofs.search.Goals as goal

pub counts-init : goal.counts-init
counts-init g c = record { walk = c.new-walk.ensures; passed = passed_none _ _ _ }

pub returns-then-may : goal.returns-then-may
returns-then-may g c =
    let matches = rw c.counts.invariant.walk at c.is_at.ensures in
    answer_valid _ _ _ _ _ _ _ _ _ c.counts.invariant.passed matches c.if-is_at.true c.may.ensures.window c.if-may.true (omega (arith, c.reach-reach.ensures.window))

pub returns-then-raised : goal.returns-then-raised
returns-then-raised g c =
    let matches = rw c.counts.invariant.walk at c.is_at.ensures in
    answer_first _ _ _ _ _ _ _ _ _ c.counts.invariant.passed matches c.if-is_at.true c.may.ensures.window c.if-may.false (omega (arith, c.reach-reach.ensures.window)) (raised_is _ _ c.limit-raised.ensures.value c.if-raised.true)

pub counts-preserved : goal.counts-preserved
counts-preserved g c =
    let matches = rw c.counts.invariant.walk at c.is_at.ensures in
    record {
      walk = search rules;
      passed = elim c.if-is_at.branch [
        | then-is_at+else-may+else-raised w ↦ rw (w.old-is, w.or-old.ensures) (passed_old _ _ _ _ _ _ _ c.counts.invariant.passed matches w.if-is_at.true w.may.ensures.window w.if-may.false (raised_not _ _ c.limit-raised.ensures.value w.if-raised.false))
        | else-is_at w ↦ rw w.old-is (passed_other _ _ _ _ _ _ c.counts.invariant.passed matches w.if-is_at.false)
      ];
    }
