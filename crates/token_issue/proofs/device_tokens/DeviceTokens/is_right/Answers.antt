use Rattle.std.proofs.Common.{◌∙◌}
use Rattle.token_issue.proofs.ByValueLemmas.{list_at, right_by_list}
use Rattle.token_issue.proofs.device_tokens.DeviceTokens.is_right.Goals as goal

pub returns-in-Some-clause-right : goal.returns-in-Some-clause-right
returns-in-Some-clause-right g c =
    let here = rw c.from.ensures at c.index.ensures in
    let within = rw (← c.self.view_is) at c.requires.count in
    rw (← c.self.view_is) (c.is_right_in.ensures
    ∙ right_by_list (g.M.Mixer.next c.self.inside.key) c.self.inside.start c.args.value c.self.inside.counts c.args.count c.args.token c.deref.result.now
    (c.deref.ensures.value ∙ list_at (g.M.Mixer.next c.self.inside.key) c.self.inside.start c.self.inside.counts c.self.inside.lists.items c.args.value c.index.result.now c.in-Some.tokens c.self.invariant c.requires.value here c.in-Some.is)
    within c.self.invariant.whole)
