use Rattle.std.proofs.Common.{Option, sym, subst, rules}
use Rattle.std.specs.Prelude.{IsOk}
use Rattle.log_check.specs.declared.Verdict.{Verdict}
use Rattle.log_check.specs.Fits.{Told, after_told}
use Rattle.log_check.specs.Checking.{with_line_if}
use Rattle.log_check.specs.Holding.{Holds}
use Rattle.log_check.proofs.Settling.{told_marks}
use Rattle.log_check.proofs.progress.Progress.told.Goals as goal

pub returns-clause-line : goal.returns-clause-line
returns-clause-line g c old ok none holds =
    let next = g.M.Mixer.next in
    let text = c.args.text.now in
    let fits : IsOk c.told.result = search rules in
    subst (λ (e : Option Verdict). Holds c.judge.new.self (with_line_if e next old (Told text))) (sym none)
    (c.judge.ensures old.lines (Told text) (after_told next text old.now.waiting old.now.tables old.now.states)
    (told_marks text) holds.lines
    (c.told.ensures.fits old.now fits (holds.fits none)))
