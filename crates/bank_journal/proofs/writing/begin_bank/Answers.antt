use Rattle.std.proofs.Common.{ℕ}
use Rattle.paygo_spec.specs.Layout.{head_number}
use Rattle.bank_journal.specs.Summary.{summary_of}
use Rattle.bank_journal.proofs.Beginning.{begins_first, begins_now, begins_then, begins_cut}
use Rattle.bank_journal.proofs.Told.{on_ok, on_err}
use Rattle.bank_journal.proofs.writing.begin_bank.Goals as goal

pub write_head-requires-clause-erased : goal.write_head-requires-clause-erased
write_head-requires-clause-erased g c =
    let head : ℕ → ℕ = head_number c.args.number c.args.config.now (summary_of c.args.summary.now) in
    begins_now c.args.bank head 1 _ _ (begins_first c.args.bank head _ _ c.requires.bank (g.met.F.Flash.whole c.args.flash.now) c.in_ok-erase_bank.ensures.erased)

pub returns-clause-begun : goal.returns-clause-begun
returns-clause-begun g c =
    let head : ℕ → ℕ = head_number c.args.number c.args.config.now (summary_of c.args.summary.now) in
    on_ok c.write_head.result _ _ c.write_head.ensures.begun
    (begins_then c.args.bank head 1 12 _ _ _ (begins_first c.args.bank head _ _ c.requires.bank (g.met.F.Flash.whole c.args.flash.now) c.in_ok-erase_bank.ensures.erased))

pub returns-clause-cut : goal.returns-clause-cut
returns-clause-cut g c =
    let head : ℕ → ℕ = head_number c.args.number c.args.config.now (summary_of c.args.summary.now) in
    on_err c.write_head.result _ _ c.write_head.ensures.cut
    (begins_cut c.args.bank head 1 _ _ _ (begins_first c.args.bank head _ _ c.requires.bank (g.met.F.Flash.whole c.args.flash.now) c.in_ok-erase_bank.ensures.erased))
