use Rattle.std.proofs.Common.{◌≡◌, ◌-◌, ◌<◌, ◌≤◌, ℕ, true, List, slice_index, length}
use Rattle.std.specs.Prelude.{IfSome}
use Rattle.paygo_spec.specs.Flash.{Passed}
use Rattle.paygo_spec.specs.Recovery.{keeps_rule}
use Rattle.bank_journal.proofs.ReadingHead.{IsReadTo}
use Rattle.bank_journal.proofs.reading.read_numbers.Given as goal

abbrev pub invariant-loop-place : goal.invariant-loop-place
invariant-loop-place g l = record {
  count : length l.numbers ≡ 12;
  words : (g.F.Flash.view l.flash).words ≡ (g.F.Flash.view l.fn.flash).words;
  rules : (place : ℕ) → 1 ≤ place → place < l.place → keeps_rule (slice_index l.numbers) place ≡ true;
  read : IfSome (g.F.Flash.view l.fn.flash).words (λ (words : List ℕ). IsReadTo words l.bank (slice_index l.numbers) l.place);
  calls : Passed (l.place - 1) (g.F.Flash.view l.fn.flash) (g.F.Flash.view l.flash);
}
