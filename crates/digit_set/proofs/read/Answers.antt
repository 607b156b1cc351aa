use Rattle.std.proofs.Common.{◌≡◌, ◌+◌, ◌-◌, ◌*◌, ◌<◌, ◌≤◌, ◌^◌, ℕ, arith, slice_index, sym, ◌∙◌, ap, Some, None}
use Rattle.paygo_spec.specs.Digits.{digit_count, radix_of, zero_key, first_fault, value_of}
use Rattle.digit_set.proofs.Tokens.{some_key, no_token, digits_of-value_of}
use Rattle.digit_set.proofs.Reading.{read_none, read_more, read_fault, read_all, fits, key_within, value_of-fault, value_of-length}
use Rattle.digit_set.proofs.read.Goals as goal

-- the length isn't the form's
pub returns-then-digits-length-clause-rule : goal.returns-then-digits-length-clause-rule
returns-then-digits-length-clause-rule c =
    no_token c.args.form c.args.digits.now
    (value_of-length c.args.form c.args.digits.now (λ e. c.if-digits-length.true (e ∙ sym c.length.ensures)))

-- a byte isn't a digit
fault : (c : goal.Then-not-is_key) → first_fault c.args.form c.args.digits.now ≡ Some (c.loop-place.place + 1)
fault c =
    read_fault c.args.form c.args.digits.now c.loop-place.place c.loop-place.token c.loop-place-test.true
    (sym c.is_key.ensures ∙ c.if-not-is_key.true) c.loop-place.invariant

pub returns-then-not-is_key-clause-rule : goal.returns-then-not-is_key-clause-rule
returns-then-not-is_key-clause-rule c =
    no_token c.args.form c.args.digits.now (value_of-fault c.args.form c.args.digits.now (c.loop-place.place + 1) (fault c))

pub returns-then-not-is_key-clause-value : goal.returns-then-not-is_key-clause-value
returns-then-not-is_key-clause-value c =
    let none : value_of c.args.form c.args.digits.now ≡ None = value_of-fault c.args.form c.args.digits.now (c.loop-place.place + 1) (fault c) in
    λ token. (λ h. absurd (cc), λ h. absurd (cc))

pub returns-then-not-is_key-clause-digit : goal.returns-then-not-is_key-clause-digit
returns-then-not-is_key-clause-digit c =
    let f : first_fault c.args.form c.args.digits.now ≡ Some (c.loop-place.place + 1) = fault c in
    λ place. (
      λ h. (c.if-digits-length.false ∙ c.length.ensures, (let e : c.loop-place.place + 1 ≡ place = cc in f ∙ ap (λ n. Some n) e)),
      λ h. cc,
    )

-- the number fits
pub overflow_mul-token : goal.overflow_mul-token
overflow_mul-token c =
    let within : c.loop-place.place < digit_count c.args.form = omega arith in
    let fit : c.loop-place.token * radix_of c.args.form + 0 < 2 ^ 32 =
    fits c.args.form c.loop-place.place c.loop-place.token 0 within c.loop-place.invariant.below (some_key c.args.form) in
    rw c.keys.ensures (omega arith)

pub overflow_add-token : goal.overflow_add-token
overflow_add-token c =
    let within : c.loop-place.place < digit_count c.args.form = omega arith in
    let digit : ℕ = slice_index c.args.digits.now c.loop-place.place in
    let key : (zero_key c.args.form ≤ digit) × (digit < zero_key c.args.form + radix_of c.args.form) =
    key_within c.args.form digit (sym c.is_key.ensures ∙ c.if-not-is_key.false) in
    let fit : c.loop-place.token * radix_of c.args.form + (digit - zero_key c.args.form) < 2 ^ 32 =
    fits c.args.form c.loop-place.place c.loop-place.token (digit - zero_key c.args.form) within c.loop-place.invariant.below (omega arith) in
    rw (c.keys.ensures, c.first_key.ensures) (omega arith)

pub loop-place-init : goal.loop-place-init
loop-place-init c = read_none c.args.form c.args.digits.now

pub loop-place-preserved : goal.loop-place-preserved
loop-place-preserved c =
    rw (c.keys.ensures, c.first_key.ensures)
    (read_more c.args.form c.args.digits.now c.loop-place.place c.loop-place.token c.loop-place-test.true
    (sym c.is_key.ensures ∙ c.if-not-is_key.false) c.loop-place.invariant)

-- all are digits
all : (c : goal.After-loop-place) → (first_fault c.args.form c.args.digits.now ≡ None) × (value_of c.args.form c.args.digits.now ≡ Some c.loop-place.token)
all c =
    read_all c.args.form c.args.digits.now c.loop-place.place c.loop-place.token (omega arith)
    (c.if-digits-length.false ∙ c.length.ensures) c.loop-place.invariant

pub returns-clause-rule : goal.returns-clause-rule
returns-clause-rule c = digits_of-value_of c.args.form c.args.digits.now c.loop-place.token (all c).1

pub returns-clause-value : goal.returns-clause-value
returns-clause-value c =
    let v : value_of c.args.form c.args.digits.now ≡ Some c.loop-place.token = (all c).1 in
    λ token. (λ h. (let e : c.loop-place.token ≡ token = cc in v ∙ ap (λ n. Some n) e), λ h. cc)

pub returns-clause-digit : goal.returns-clause-digit
returns-clause-digit c =
    let f : first_fault c.args.form c.args.digits.now ≡ None = (all c).0 in
    λ place. (λ h. absurd (cc), λ h. absurd (cc))
