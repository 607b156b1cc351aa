use Rattle.std.proofs.Common.{sym, subst}
use Rattle.paygo_spec.specs.Flash.{Becomes}
use Rattle.paygo_spec.specs.History.{Summary}
use Rattle.paygo_spec.specs.Layout.{head_number}
use Rattle.journal_laws.specs.Banks.{IsJournal}
use Rattle.journal_laws.proofs.Make.{new_ranges}
use Rattle.bank_journal.specs.Begin.{BeginsBank}
use Rattle.bank_journal.proofs.NewDevice.{make_begun, make_done, make_torn}
use Rattle.bank_journal.proofs.Told.{any_err}
use Rattle.bank_journal.proofs.writing.make_new.Goals as goal

pub returns-in_err-begin_bank-clause-cut : goal.returns-in_err-begin_bank-clause-cut
returns-in_err-begin_bank-clause-cut g c =
    any_err c.from_residual.result _
    (make_begun c.args.config.now c.has_bytes.ensures c.requires.config _ (g.met.F.Flash.whole c.args.flash.now) c.requires.unmade
    _ (g.met.F.Flash.whole c.begin_bank.new.flash) c.in_err-begin_bank.ensures.cut)

pub returns-in_err-write_number-clause-cut : goal.returns-in_err-write_number-clause-cut
returns-in_err-write_number-clause-cut g c =
    any_err c.from_residual-in_err-write_number.result _
    (make_torn c.args.config.now c.has_bytes.ensures c.requires.config _ (g.met.F.Flash.whole c.args.flash.now) c.requires.unmade
    _ (g.met.F.Flash.whole c.begin_bank.new.flash)
    (subst (λ (s : Summary). Becomes (BeginsBank 0 (head_number 1 c.args.config.now s) 12) (g.F.Flash.view c.args.flash.now).words (g.F.Flash.view c.begin_bank.new.flash).words) c.fresh-summary.ensures c.in_ok-begin_bank.ensures.begun)
    _ (g.met.F.Flash.whole c.write_number.new.flash) c.in_err-write_number.ensures.torn)

pub invariant_of-result : goal.invariant_of-result
invariant_of-result g c =
    subst (λ (s : Summary). IsJournal (record { bank = 0; at = record { number = 1; place = 12 }; config = c.args.config.now; summary = s })) (sym c.fresh-summary.ensures)
    (new_ranges c.args.config.now c.has_bytes.ensures c.requires.config)

pub returns-clause-made : goal.returns-clause-made
returns-clause-made g c =
    make_done c.args.config.now c.has_bytes.ensures c.requires.config _ (g.met.F.Flash.whole c.args.flash.now) c.requires.unmade
    _ (g.met.F.Flash.whole c.begin_bank.new.flash)
    (subst (λ (s : Summary). Becomes (BeginsBank 0 (head_number 1 c.args.config.now s) 12) (g.F.Flash.view c.args.flash.now).words (g.F.Flash.view c.begin_bank.new.flash).words) c.fresh-summary.ensures c.in_ok-begin_bank.ensures.begun)
    _ c.in_ok-write_number.ensures.written
