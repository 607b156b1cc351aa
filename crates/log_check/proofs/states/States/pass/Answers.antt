use Rattle.std.proofs.Common.{◌≡◌, true, false, List, refl, sym, ap, ◌∙◌, rules}
use Rattle.log_check.specs.declared.standing.Standing.{Standing}
use Rattle.log_check.specs.Keeping.{storeds_of, first_of, first_is_made}
use Rattle.log_check.proofs.Stating.{passed_off, passed_on}
use Rattle.log_check.proofs.states.States.pass.Goals as goal

pub returns-then-not-self : goal.returns-then-not-self
returns-then-not-self c next states are silent =
    let off : c.args.self.now.on ≡ false = search rules in
    passed_off next c.args.self.now c.args.event states are silent off

pub returns : goal.returns
returns c next states are silent =
    let on : c.args.self.now.on ≡ true = search rules in
    passed_on next c.args.self.now c.args.event states are _ silent on on refl
    (λ keys pad. c.heard-self.ensures keys (first_of (storeds_of c.args.self.now.standings.items)) pad
    (sym (c.is_first_made-made.ensures ∙ ap (λ (l : List Standing). first_is_made (storeds_of l))
    c.deref.ensures.value)))
