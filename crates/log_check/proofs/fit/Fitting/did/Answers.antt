use Rattle.std.proofs.Common.{◌≡◌, refl, rules}
use Rattle.std.specs.Str.{bytes_eq}
use Rattle.ledger_spec.specs.AnswerText.{text_of_answer}
use Rattle.log_check.proofs.Answering.{did_fits}
use Rattle.log_check.proofs.fit.Fitting.did.Goals as goal

pub returns-clause-fits : goal.returns-clause-fits
returns-clause-fits g c old ok is waits =
    let e : c.eq.result ≡ bytes_eq (text_of_answer c.in_ok-answer.answer) c.args.text.now = search rules in
    did_fits g.M.Mixer.next c.args.text.now c.args.self.now _ c.take_first.new.self old c.args.command.now
    c.in_ok-answer.answer _ is waits
    c.in_ok-answer.ensures.answer c.in_ok-answer.ensures.tables e refl
    (λ are. c.keep_if.ensures old.states are) (c.take_first.ensures g.M.Mixer.next)
