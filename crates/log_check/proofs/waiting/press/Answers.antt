use Rattle.std.proofs.Common.{◌≡◌, [], ◌∷◌, ◌++◌, sym, subst, rules}
use Rattle.paygo_spec.specs.declared.Event.TheVariants.{Key}
use Rattle.paygo_spec.specs.Pad.{IsKey}
use Rattle.log_check.specs.Waiting.{AreEvents}
use Rattle.log_check.proofs.Settling.{events_more}
use Rattle.log_check.proofs.waiting.press.Goals as goal

pub returns-in-Ok-clause-range : goal.returns-in-Ok-clause-range
returns-in-Ok-clause-range c are =
    let is : IsKey c.args.key = search rules in
    let more : c.push.new.self.items ≡ c.args.events.now.items ++ Key c.args.key ∷ [] = search rules in
    subst AreEvents (sym more) (events_more c.args.events.now.items (Key c.args.key) are is)
