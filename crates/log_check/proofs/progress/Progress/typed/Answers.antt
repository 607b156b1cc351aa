use Rattle.std.proofs.Common.{Option, sym, subst, rules}
use Rattle.std.specs.Prelude.{IsOk}
use Rattle.log_check.specs.declared.Verdict.{Verdict}
use Rattle.log_check.specs.Fits.{Typed, after_typed}
use Rattle.log_check.specs.Checking.{with_line_if}
use Rattle.log_check.specs.Holding.{Holds}
use Rattle.log_check.proofs.Settling.{typed_marks}
use Rattle.log_check.proofs.progress.Progress.typed.Goals as goal

pub returns-clause-line : goal.returns-clause-line
returns-clause-line c next old ok none holds =
    let line = c.args.line.now in
    let fits : IsOk c.typed.result = search rules in
    subst (λ (e : Option Verdict). Holds c.judge.new.self (with_line_if e next old (Typed line))) (sym none)
    (c.judge.ensures old.lines (Typed line) (after_typed next line old.now.waiting old.now.tables old.now.states)
    (typed_marks line) holds.lines
    (c.typed.ensures.fits next old.now fits (holds.fits none)))
