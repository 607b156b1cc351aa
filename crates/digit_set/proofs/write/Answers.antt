use Rattle.std.proofs.Common.{ap, ◌∙◌, arith, subst, sym}
use Rattle.paygo_spec.specs.Digits.{value_of}
use Rattle.digit_set.proofs.Tokens.{value_of-digits_of}
use Rattle.digit_set.proofs.Writing.{IsWritten, written_none, written_more, written_all}
use Rattle.digit_set.proofs.write.Goals as goal

pub loop-place-init : goal.loop-place-init
loop-place-init c =
    subst (λ n. IsWritten c.args.form c.args.token n c.args.token c.args.out.now c.args.out.now) (sym c.length-count.ensures)
    (written_none c.args.form c.args.token c.args.out.now c.told-out)

pub loop-place-preserved : goal.loop-place-preserved
loop-place-preserved c =
    written_more _ _ c.loop-place.place c.loop-place.rest c.keys-rest.result c.keys.result c.first_key.result _ _
    c.loop-place-test.true c.keys-rest.ensures c.keys.ensures c.first_key.ensures c.loop-place.invariant

pub returns-clause-digits : goal.returns-clause-digits
returns-clause-digits c =
    (written_all c.args.form c.args.token c.loop-place.place c.loop-place.rest c.length-count.result c.args.out.now c.loop-place.out
    (omega arith) c.length-count.ensures c.loop-place.invariant).0

pub returns-clause-rest : goal.returns-clause-rest
returns-clause-rest c =
    (written_all c.args.form c.args.token c.loop-place.place c.loop-place.rest c.length-count.result c.args.out.now c.loop-place.out
    (omega arith) c.length-count.ensures c.loop-place.invariant).1

pub returns-clause-back : goal.returns-clause-back
returns-clause-back c = λ small.
    ap (value_of c.args.form)
    (written_all c.args.form c.args.token c.loop-place.place c.loop-place.rest c.length-count.result c.args.out.now c.loop-place.out (omega arith) c.length-count.ensures c.loop-place.invariant).0
    ∙ value_of-digits_of c.args.form c.args.token small
