use Rattle.std.proofs.Common.{sym, ◌∙◌, ap, Some, None}
use Rattle.bank_ring.specs.View.{pair_of}
use Rattle.bank_ring.specs.Starts.{start_bad, start_twins, start_newest}
use Rattle.bank_ring.proofs.pair.start_pair.Goals as goal

pub returns-in-Some : goal.returns-in-Some
returns-in-Some c = ap (λ n. pair_of c.in-Some.bank n) c.next_bank.ensures.value ∙ sym (start_bad _ _ _ c.in-Some.ensures.value)

pub returns-in-Some-twin_of : goal.returns-in-Some-twin_of
returns-in-Some-twin_of c = sym (start_twins _ _ c.in-Some-first_twin.bank (Some c.in-Some-twin_of.twin) c.in_default.ensures.value c.in-Some-first_twin.ensures.value c.in-Some-twin_of.ensures.value)

pub returns-in-None : goal.returns-in-None
returns-in-None c = ap (λ n. pair_of c.in-Some-first_twin.bank n) c.next_bank-in-None.ensures.value ∙ sym (start_twins _ _ c.in-Some-first_twin.bank None c.in_default.ensures.value c.in-Some-first_twin.ensures.value c.in-None.ensures.value)

pub returns-in-Some-newest : goal.returns-in-Some-newest
returns-in-Some-newest c = ap (λ n. pair_of c.in-Some-newest.bank n) c.previous_bank.ensures.value ∙ sym (start_newest _ _ (Some c.in-Some-newest.bank) c.in_default.ensures.value c.in_default-first_twin.ensures.value c.in-Some-newest.ensures.value)

pub returns-in-None-newest : goal.returns-in-None-newest
returns-in-None-newest c = sym (start_newest _ _ None c.in_default.ensures.value c.in_default-first_twin.ensures.value c.in-None-newest.ensures.value)
