use Rattle.std.proofs.Common.{[], ◌∷◌, sym, subst}
use Rattle.std.specs.Prelude.{codes}
use Rattle.run_spec.specs.Run.{Say}
use Rattle.log_check.specs.declared.waiting.Waiting.{Waiting}
use Rattle.log_check.specs.Waiting.{SettledTo, steps_of}
use Rattle.log_check.proofs.Settling.{settles_say}
use Rattle.log_check.proofs.waiting.settle.Goals as goal

pub returns-in-Unread-clause-settled : goal.returns-in-Unread-clause-settled
returns-in-Unread-clause-settled c next tables old are =
    subst (λ (w : Waiting). SettledTo next tables old (steps_of w) c.args.states.now (Say (codes "unread") ∷ []))
    (sym c.in-Unread.is)
    (settles_say next tables (codes "unread") old c.args.states.now are)
