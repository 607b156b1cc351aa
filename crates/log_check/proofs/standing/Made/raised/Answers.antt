use Rattle.std.proofs.Common.{ap, ◌∙◌, ◌∷◌, []}
use Rattle.paygo_spec.specs.declared.Entry.TheVariants.{Raised}
use Rattle.paygo_spec.specs.Layout.{turned}
use Rattle.paygo_spec.specs.Machine.{unit_for}
use Rattle.paygo_spec.specs.Snapshot.{snapshot}
use Rattle.bank_journal.specs.Summary.{summary_of}
use Rattle.log_check.specs.Standing.{history_of}
use Rattle.log_check.proofs.Standings.{grown}
use Rattle.log_check.proofs.standing.Made.raised.Goals as goal

pub returns-clause-stands : goal.returns-clause-stands
returns-clause-stands c =
    let made = c.args.self.now in
    let unit = unit_for (history_of made) in
    grown c.turned-next.result made c.raised-next.result Raised (turned (history_of made).at)
    c.turned-next.ensures.stands c.turned-next.ensures.config
    (c.raised-next.ensures unit ∙ ap (λ s. snapshot unit (summary_of s) (Raised ∷ [])) c.turned-next.ensures.summary)
