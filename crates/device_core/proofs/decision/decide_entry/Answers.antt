use Rattle.std.proofs.Common.{◌≡◌, ◌≤◌, Some, length, take, ap, ◌∙◌, arith, refl, Err, length-take}
use Rattle.paygo_spec.specs.Digits.{digit_count, first_fault, value_of}
use Rattle.device_core.proofs.Deciding.{pressed_is, entry_wrong, place_within, at_most}
use Rattle.device_core.proofs.decision.decide_entry.Goals as goal

pub overflow_cast-result : goal.overflow_cast-result
overflow_cast-result g c =
    let fault = (c.in-Err-Digit.ensures.digit c.in-Err-Digit.place).0 (ap Err c.in-Err-Digit.field-0-is) in
    let within : c.in-Err-Digit.place ≤ length (take c.from-count.result c.args.digits.now) = place_within _ _ _ fault.1 in
    let long : length (take c.from-count.result c.args.digits.now) ≡ digit_count c.config.result.now.form = fault.0 in
    let most : digit_count c.config.result.now.form ≤ 15 = at_most c.config.result.now.form in
    omega arith

pub returns-in-Ok-clause-decision : goal.returns-in-Ok-clause-decision
returns-in-Ok-clause-decision g c = λ keys handed held.
    c.decide_token.ensures.decision keys
    (pressed_is c.args.journal.now keys c.config.result.now c.args.digits.now c.from-count.result c.args.held c.config.ensures.value c.from-count.ensures
    (c.if-count-length.false ∙ c.length.ensures) handed held (λ form digits. value_of form digits ≡ Some c.in-Ok.token) ((c.in-Ok.ensures.value c.in-Ok.token).0 refl))

pub returns-in-Err-Length-clause-decision : goal.returns-in-Err-Length-clause-decision
returns-in-Err-Length-clause-decision g c = λ keys handed held.
    let fault = (c.in-Err-Length.ensures.length c.in-Err-Length.field-0-0).0 (ap Err c.in-Err-Length.field-0-is) in
    let most : digit_count c.config.result.now.form ≤ 15 = at_most c.config.result.now.form in
    let count : c.from-count.result ≡ digit_count c.config.result.now.form = c.if-count-length.false ∙ c.length.ensures in
    let long : length (take c.from-count.result c.args.digits.now) ≡ digit_count c.config.result.now.form = omega (arith, length-take c.from-count.result c.args.digits.now) in
    absurd (fault.1 (fault.0 ∙ long))

pub returns-in-Err-Digit-clause-decision : goal.returns-in-Err-Digit-clause-decision
returns-in-Err-Digit-clause-decision g c = λ keys handed held.
    let fault = (c.in-Err-Digit.ensures.digit c.in-Err-Digit.place).0 (ap Err c.in-Err-Digit.field-0-is) in
    entry_wrong g.M.Mixer.next c.args.journal.now keys c.in-Err-Digit.place
    (pressed_is c.args.journal.now keys c.config.result.now c.args.digits.now c.from-count.result c.args.held c.config.ensures.value c.from-count.ensures
    (c.if-count-length.false ∙ c.length.ensures) handed held (λ form digits. (length digits ≡ digit_count form) × (first_fault form digits ≡ Some c.in-Err-Digit.place)) (fault.0, fault.1))
