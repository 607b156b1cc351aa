use Rattle.std.proofs.Common.{◌+◌, ◌-◌, arith, ap}
use Rattle.paygo_spec.specs.Layout.{head_number}
use Rattle.paygo_spec.specs.Rail.{railed}
use Rattle.bank_journal.specs.Summary.{summary_of}
use Rattle.bank_journal.proofs.Beginning.{begins_more}
use Rattle.bank_journal.proofs.Calls.{passed_more}
use Rattle.bank_journal.proofs.writing.write_head.Goals as goal

pub loop-place-preserved : goal.loop-place-preserved
loop-place-preserved g c = record {
  begun = begins_more c.args.bank (head_number c.args.number c.args.config.now (summary_of c.args.summary.now)) c.loop-place.place _ _ _ _ _
      c.requires.bank (omega arith) (omega arith) (omega arith) (ap railed c.head_number-word.ensures)
      c.loop-place.invariant.begun (g.met.F.Flash.whole c.loop-place.flash) c.in_ok-write_number.ensures.written;
  calls = passed_more (c.loop-place.place - 1) 1 (c.loop-place.place + 1 - 1) _ _ _ (omega arith) c.loop-place.invariant.calls c.in_ok-write_number.ensures.calls;
}
