use Rattle.std.proofs.Common.{refl, rules}
use Rattle.std.specs.Prelude.{IsOk}
use Rattle.log_check.proofs.Answering.{acted_fits}
use Rattle.log_check.proofs.fit.Fitting.acted.Goals as goal

pub returns-clause-fits : goal.returns-clause-fits
returns-clause-fits g c old steps ok is waits =
    let answers : IsOk c.answer.result = search rules in
    acted_fits g.M.Mixer.next c.args.text.now c.args.self.now _ c.take_first.new.self old c.args.event steps is waits
    refl refl
    (λ are answered. c.answer.ensures.told old.states answers are answered) (c.take_first.ensures g.M.Mixer.next)
