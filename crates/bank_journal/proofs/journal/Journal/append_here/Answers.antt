use Rattle.std.proofs.Common.{◌≡◌, ◌+◌, ◌*◌, arith, ap}
use Rattle.paygo_spec.specs.Recovery.{JournalView}
use Rattle.bank_journal.specs.Summary.{summary_of}
use Rattle.bank_journal.proofs.Appending.{journal_more, place_erased, entry_whole, entry_torn}
use Rattle.bank_journal.proofs.Told.{any_err}
use Rattle.bank_journal.proofs.journal.Journal.append_here.Goals as goal

pub write_number-requires-clause-erased : goal.write_number-requires-clause-erased
write_number-requires-clause-erased g c =
    let bank : c.self.inside.bank ≡ c.args.self.now.bank = ap (λ (v : JournalView). v.bank) c.self.view_is in
    let place : c.self.inside.place ≡ c.args.self.now.at.place = ap (λ (v : JournalView). v.at.place) c.self.view_is in
    place_erased c.args.self.now _ (g.met.F.Flash.whole c.args.flash.now) c.requires.holds c.args.entry (512 * c.from.result + c.self.inside.place) c.number_of.result c.requires.free (omega arith)

pub returns-in_err-write_number-clause-cut : goal.returns-in_err-write_number-clause-cut
returns-in_err-write_number-clause-cut g c =
    let bank : c.self.inside.bank ≡ c.args.self.now.bank = ap (λ (v : JournalView). v.bank) c.self.view_is in
    let place : c.self.inside.place ≡ c.args.self.now.at.place = ap (λ (v : JournalView). v.at.place) c.self.view_is in
    any_err c.from_residual.result _
    (entry_torn c.args.self.now _ (g.met.F.Flash.whole c.args.flash.now) c.requires.holds c.args.entry (512 * c.from.result + c.self.inside.place) c.number_of.result c.requires.free (omega arith)
    _ (g.met.F.Flash.whole c.write_number.new.flash) c.requires.follows c.number_of.ensures c.in_err-write_number.ensures.torn)

pub returns-clause-added : goal.returns-clause-added
returns-clause-added g c =
    let bank : c.self.inside.bank ≡ c.args.self.now.bank = ap (λ (v : JournalView). v.bank) c.self.view_is in
    let place : c.self.inside.place ≡ c.args.self.now.at.place = ap (λ (v : JournalView). v.at.place) c.self.view_is in
    entry_whole c.args.self.now _ (g.met.F.Flash.whole c.args.flash.now) c.requires.holds c.args.entry (512 * c.from.result + c.self.inside.place) c.number_of.result c.requires.free (omega arith)
    _ c.requires.follows c.number_of.ensures c.in_ok-write_number.ensures.written

pub invariant_of-self : goal.invariant_of-self
invariant_of-self g c =
    let v : JournalView = record { bank = c.self.inside.bank; at = record { number = c.self.inside.number; place = c.self.inside.place }; config = c.self.inside.config; summary = summary_of c.self.inside.summary } in
    let place : c.self.inside.place ≡ c.args.self.now.at.place = ap (λ (w : JournalView). w.at.place) c.self.view_is in
    journal_more v c.args.entry (summary_of c.add.new.self) c.self.invariant (rw (← c.self.view_is) at c.requires.follows) (omega arith)
    (rw (← c.unit_of.ensures.value) c.add.ensures)
