use Rattle.paygo_spec.specs.Digits.{digit_count, radix_of, zero_key}
use Rattle.digit_set.proofs.Numerals.{slice_index-numeral}
use Rattle.digit_set.proofs.Tokens.{value_of-digits_of, digits_of-value_of, no_token, length-digits_of, is_first_fault, first_fault_at}
use Rattle.digit_set.proofs.digits_and_tokens.Goals as goal

pub returns : goal.returns
returns c = record {
  back = value_of-digits_of;
  only = digits_of-value_of;
  none = no_token;
  count = length-digits_of;
  place = λ form token i h. slice_index-numeral (radix_of form) (zero_key form) (digit_count form) token i h;
  fault = λ form digits place. (is_first_fault form digits place, first_fault_at form digits place);
}
