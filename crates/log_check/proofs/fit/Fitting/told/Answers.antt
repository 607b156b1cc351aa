use Rattle.std.proofs.Common.{◌≡◌, ◌∷◌, List, drop, subst}
use Rattle.run_spec.specs.Run.{Step, Act}
use Rattle.log_check.proofs.fit.Fitting.told.Goals as goal

pub returns-in-Event-clause-fits : goal.returns-in-Event-clause-fits
returns-in-Event-clause-fits g c old ok is =
    c.acted.ensures.fits old (drop 1 old.waiting) ok is
    (subst (λ (l : List Step). l ≡ Act c.in-Event.event ∷ drop 1 l) is.stands.waiting_are c.in-Event.ensures.0)
