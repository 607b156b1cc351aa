use Rattle.digit_set.proofs.Reading.{IsRead}
use Rattle.digit_set.proofs.read.Given as goal

abbrev pub invariant-loop-place : goal.invariant-loop-place
invariant-loop-place l = IsRead l.form l.digits l.place l.token
