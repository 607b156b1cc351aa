use Rattle.std.proofs.Common.{◌≡◌, ◌≤◌, ℕ, List}
use Rattle.std.specs.Prelude.{IfSome}
use Rattle.paygo_spec.specs.Lawful.{IsSummary}
use Rattle.paygo_spec.specs.Flash.{Passed}
use Rattle.bank_journal.specs.Summary.{summary_of}
use Rattle.bank_journal.proofs.ReadingEntries.{IsReadTo}
use Rattle.bank_journal.proofs.reading.read_entries.Given as goal

abbrev pub invariant-loop-n : goal.invariant-loop-n
invariant-loop-n g l = record {
  words : (g.F.Flash.view l.flash).words ≡ (g.F.Flash.view l.fn.flash).words;
  rule : IsSummary (summary_of l.summary);
  few : l.used ≤ l.n;
  read : IfSome (g.F.Flash.view l.fn.flash).words (λ (words : List ℕ). IsReadTo words l.bank l.unit (summary_of l.fn.start) l.n (summary_of l.summary) l.used);
  calls : Passed l.n (g.F.Flash.view l.fn.flash) (g.F.Flash.view l.flash);
}
