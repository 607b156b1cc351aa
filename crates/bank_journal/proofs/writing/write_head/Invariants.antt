use Rattle.std.proofs.Common.{◌-◌}
use Rattle.paygo_spec.specs.Flash.{Passed, Becomes}
use Rattle.paygo_spec.specs.Layout.{head_number}
use Rattle.bank_journal.specs.Begin.{BeginsBank}
use Rattle.bank_journal.specs.Summary.{summary_of}
use Rattle.bank_journal.proofs.writing.write_head.Given as goal

abbrev pub invariant-loop-place : goal.invariant-loop-place
invariant-loop-place g l = record {
  begun : Becomes (BeginsBank l.bank (head_number l.number l.config (summary_of l.summary)) l.place) (g.F.Flash.view l.fn.flash).words (g.F.Flash.view l.flash).words;
  calls : Passed (l.place - 1) (g.F.Flash.view l.fn.flash) (g.F.Flash.view l.flash);
}
