use Rattle.std.proofs.Common.{arith, refl, sym, ◌∙◌, ◌≡◌, ◌*◌, ◌+◌, true, false, length-set}
use Rattle.paygo_spec.specs.Recovery.{keeps_rule}
use Rattle.bank_journal.proofs.Calls.{passed_none, passed_more}
use Rattle.bank_journal.proofs.ReadingCalls.{read_failed}
use Rattle.bank_journal.proofs.ReadingHead.{with_number, read_none, number_missed, number_read, rules_more, number_refused}
use Rattle.bank_journal.proofs.ReadingTold.{told_always, told_two}
use Rattle.bank_journal.proofs.reading.read_numbers.Goals as goal

pub loop-place-init : goal.loop-place-init
loop-place-init g c = record {
  count = refl;
  words = refl;
  rules = λ place l b. absurd (omega arith);
  read = told_always _ _ (λ words. read_none words c.args.bank _);
  calls = passed_none _ c.requires.up;
}

pub returns-in-Err-clause-found : goal.returns-in-Err-clause-found
returns-in-Err-clause-found g c =
    let is : 512 * c.from.result + c.loop-place.place ≡ 512 * c.args.bank + c.loop-place.place = omega arith in
    told_two _ _ _ _ _ c.loop-place.invariant.words
    (λ words read h. number_missed words c.args.bank _ c.loop-place.place _ c.in-Err.fault is c.loop-place.auto.place c.loop-place-test.true read h)
    c.loop-place.invariant.read c.in-Err.ensures.found

pub returns-in-Err-clause-calls : goal.returns-in-Err-clause-calls
returns-in-Err-clause-calls g c = read_failed _ 1 11 c.in-Err.fault _ _ _ (omega arith) c.loop-place.invariant.calls c.in-Err.ensures.calls

pub returns-then-not-keeps_rule-clause-found : goal.returns-then-not-keeps_rule-clause-found
returns-then-not-keeps_rule-clause-found g c =
    let is : 512 * c.from.result + c.loop-place.place ≡ 512 * c.args.bank + c.loop-place.place = omega arith in
    let rule : keeps_rule (with_number c.loop-place.numbers c.from-in-Ok.result c.in-Ok.number) c.loop-place.place ≡ false = sym c.keeps_rule.ensures ∙ c.if-not-keeps_rule.true in
    told_two _ _ _ _ _ c.loop-place.invariant.words
    (λ words read h. number_refused words c.args.bank _ c.from-in-Ok.result c.in-Ok.number c.loop-place.place c.loop-place.numbers is c.from-in-Ok.ensures c.loop-place.auto.place c.loop-place-test.true c.loop-place.invariant.count rule read h)
    c.loop-place.invariant.read c.in-Ok.ensures.found

pub loop-place-preserved : goal.loop-place-preserved
loop-place-preserved g c =
    let is : 512 * c.from.result + c.loop-place.place ≡ 512 * c.args.bank + c.loop-place.place = omega arith in
    let rule : keeps_rule (with_number c.loop-place.numbers c.from-in-Ok.result c.in-Ok.number) c.loop-place.place ≡ true = sym c.keeps_rule.ensures ∙ c.if-not-keeps_rule.false in
    record {
      count = length-set _ _ _ ∙ c.loop-place.invariant.count;
      words = c.read_number.ensures.words ∙ c.loop-place.invariant.words;
      rules = rules_more c.loop-place.numbers c.from-in-Ok.result c.in-Ok.number c.loop-place.place c.from-in-Ok.ensures c.loop-place-test.true c.loop-place.invariant.rules rule;
      read = told_two _ _ _ _ _ c.loop-place.invariant.words
          (λ words read h. number_read words c.args.bank _ c.from-in-Ok.result c.in-Ok.number c.loop-place.place c.loop-place.numbers is c.from-in-Ok.ensures c.loop-place-test.true c.loop-place.invariant.count rule read h)
          c.loop-place.invariant.read c.in-Ok.ensures.found;
      calls = passed_more _ 1 _ _ _ _ (omega arith) c.loop-place.invariant.calls c.in-Ok.ensures.calls;
    }
