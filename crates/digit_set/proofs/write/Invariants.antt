use Rattle.digit_set.proofs.Writing.{IsWritten}
use Rattle.digit_set.proofs.write.Given as goal

abbrev pub invariant-loop-place : goal.invariant-loop-place
invariant-loop-place l = IsWritten l.form l.token l.place l.rest l.initial.out l.out
