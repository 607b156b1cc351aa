use Rattle.std.proofs.Common.{◌≡◌, ◌⊎◌, ℕ, ◌*◌, ◌<◌, List, Option, IfSome, arith, sym, subst}
use Rattle.paygo_spec.specs.Flash.{Becomes}
use Rattle.paygo_spec.specs.History.{Summary}
use Rattle.paygo_spec.specs.Recovery.{JournalView, Made, recover}
use Rattle.journal_laws.specs.Journal.{begun_with}
use Rattle.bank_journal.specs.Summary.{summary_of}
use Rattle.bank_journal.proofs.Appending.{turn_begun, turn_done, turn_torn}
use Rattle.bank_journal.proofs.Told.{any_err}
use Rattle.bank_journal.proofs.journal.Journal.turn.Goals as goal

-- what a cut turn leaves, of a journal as it was seen
cut_as : (s : Summary) (j k : JournalView) (o n : Option (List ℕ)) → j ≡ k → Becomes (λ old new. (recover new ≡ Made j) ⊎ (recover new ≡ Made (begun_with s j))) o n → Becomes (λ old new. (recover new ≡ Made k) ⊎ (recover new ≡ Made (begun_with s k))) o n
cut_as s j k o n e = subst (λ v. Becomes (λ old new. (recover new ≡ Made v) ⊎ (recover new ≡ Made (begun_with s v))) o n) e

pub returns-in_err-begin_bank-clause-cut : goal.returns-in_err-begin_bank-clause-cut
returns-in_err-begin_bank-clause-cut g c =
    let v : JournalView = record { bank = c.self.inside.bank; at = record { number = c.self.inside.number; place = c.self.inside.place }; config = c.self.inside.config; summary = summary_of c.self.inside.summary } in
    any_err c.from_residual.result _ (cut_as (summary_of c.args.summary) v c.args.self.now _ _ c.self.view_is
    (turn_begun v _ (g.met.F.Flash.whole c.args.flash.now) (subst (λ k. IfSome (g.F.Flash.view c.args.flash.now).words (λ ws. recover ws ≡ Made k)) (sym c.self.view_is) c.requires.holds)
    (summary_of c.args.summary) _ (g.met.F.Flash.whole c.begin_bank.new.flash) c.in_err-begin_bank.ensures.cut))

pub returns-in_err-write_number-clause-cut : goal.returns-in_err-write_number-clause-cut
returns-in_err-write_number-clause-cut g c =
    let v : JournalView = record { bank = c.self.inside.bank; at = record { number = c.self.inside.number; place = c.self.inside.place }; config = c.self.inside.config; summary = summary_of c.self.inside.summary } in
    let few : c.self.inside.number < 100000 = subst (λ (k : JournalView). k.at.number < 100000) (sym c.self.view_is) c.requires.number in
    any_err c.from_residual-in_err-write_number.result _ (cut_as (summary_of c.args.summary) v c.args.self.now _ _ c.self.view_is
    (turn_torn v _ (g.met.F.Flash.whole c.args.flash.now) (subst (λ k. IfSome (g.F.Flash.view c.args.flash.now).words (λ ws. recover ws ≡ Made k)) (sym c.self.view_is) c.requires.holds)
    (summary_of c.args.summary) c.requires.rule _ (g.met.F.Flash.whole c.begin_bank.new.flash) c.in_ok-begin_bank.ensures.begun (512 * c.from.result) (omega arith) few
    _ (g.met.F.Flash.whole c.write_number.new.flash) c.in_err-write_number.ensures.torn))

pub returns-clause-turned : goal.returns-clause-turned
returns-clause-turned g c =
    let v : JournalView = record { bank = c.self.inside.bank; at = record { number = c.self.inside.number; place = c.self.inside.place }; config = c.self.inside.config; summary = summary_of c.self.inside.summary } in
    let few : c.self.inside.number < 100000 = subst (λ (k : JournalView). k.at.number < 100000) (sym c.self.view_is) c.requires.number in
    subst (λ k. Becomes (λ old new. recover new ≡ Made (begun_with (summary_of c.args.summary) k)) (g.F.Flash.view c.args.flash.now).words (g.F.Flash.view c.write_number.new.flash).words) c.self.view_is
    (turn_done v _ (g.met.F.Flash.whole c.args.flash.now) (subst (λ k. IfSome (g.F.Flash.view c.args.flash.now).words (λ ws. recover ws ≡ Made k)) (sym c.self.view_is) c.requires.holds)
    (summary_of c.args.summary) c.requires.rule _ (g.met.F.Flash.whole c.begin_bank.new.flash) c.in_ok-begin_bank.ensures.begun (512 * c.from.result) (omega arith) few
    _ c.in_ok-write_number.ensures.written)
