use Rattle.std.proofs.Common.{◌≡◌, ◌⊎◌, [], ◌∷◌, subst}
use Rattle.std.specs.Prelude.{OnOk, OnErr}
use Rattle.paygo_spec.specs.declared.Entry.TheVariants.{Raised}
use Rattle.paygo_spec.specs.Clock.{unit_of}
use Rattle.paygo_spec.specs.Flash.{Becomes}
use Rattle.paygo_spec.specs.Recovery.{JournalView, Made, recover}
use Rattle.paygo_spec.specs.Snapshot.{snapshot}
use Rattle.journal_laws.specs.Journal.{summary_with, begun_with}
use Rattle.bank_journal.specs.Summary.{summary_of}
use Rattle.bank_journal.proofs.journal.Journal.raise.Goals as goal

pub returns-then-self-lt-LAST_BANK-clause-journal : goal.returns-then-self-lt-LAST_BANK-clause-journal
returns-then-self-lt-LAST_BANK-clause-journal g c =
    let same : summary_of c.raised-summary.result ≡ summary_with c.args.self.now Raised =
    subst (λ (k : JournalView). summary_of c.raised-summary.result ≡ snapshot (unit_of k.config.divider) k.summary (Raised ∷ [])) c.self.view_is (c.raised-summary.ensures (unit_of c.self.inside.config.divider)) in
    subst (λ s. OnOk c.turn.result (c.turn.new.self ≡ begun_with s c.args.self.now)) same c.turn.ensures.journal

pub returns-then-self-lt-LAST_BANK-clause-raised : goal.returns-then-self-lt-LAST_BANK-clause-raised
returns-then-self-lt-LAST_BANK-clause-raised g c =
    let same : summary_of c.raised-summary.result ≡ summary_with c.args.self.now Raised =
    subst (λ (k : JournalView). summary_of c.raised-summary.result ≡ snapshot (unit_of k.config.divider) k.summary (Raised ∷ [])) c.self.view_is (c.raised-summary.ensures (unit_of c.self.inside.config.divider)) in
    subst (λ s. OnOk c.turn.result (Becomes (λ old new. recover new ≡ Made (begun_with s c.args.self.now)) (g.F.Flash.view c.args.flash.now).words (g.F.Flash.view c.turn.new.flash).words)) same c.turn.ensures.turned

pub returns-then-self-lt-LAST_BANK-clause-cut : goal.returns-then-self-lt-LAST_BANK-clause-cut
returns-then-self-lt-LAST_BANK-clause-cut g c failed =
    let same : summary_of c.raised-summary.result ≡ summary_with c.args.self.now Raised =
    subst (λ (k : JournalView). summary_of c.raised-summary.result ≡ snapshot (unit_of k.config.divider) k.summary (Raised ∷ [])) c.self.view_is (c.raised-summary.ensures (unit_of c.self.inside.config.divider)) in
    subst (λ s. Becomes (λ old new. (recover new ≡ Made c.args.self.now) ⊎ (recover new ≡ Made (begun_with s c.args.self.now))) (g.F.Flash.view c.args.flash.now).words (g.F.Flash.view c.turn.new.flash).words) same
    (subst (λ r. OnErr r (Becomes (λ old new. (recover new ≡ Made c.args.self.now) ⊎ (recover new ≡ Made (begun_with (summary_of c.raised-summary.result) c.args.self.now))) (g.F.Flash.view c.args.flash.now).words (g.F.Flash.view c.turn.new.flash).words)) failed c.turn.ensures.cut)
