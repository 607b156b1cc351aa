use Rattle.token_issue.proofs.KeptLemmas.{keys_promoted, tables_promoted}
use Rattle.token_issue.proofs.tables.Tables.bring_to_front.Goals as goal

pub invariant_of-self : goal.invariant_of-self
invariant_of-self g c =
    rw c.promote.ensures.entries (c.self.invariant.0, tables_promoted g.M.Mixer.next c.args.table.now c.self.inside.cache.entries c.self.invariant.1)

pub returns : goal.returns
returns g c =
    let kept = rw (← c.self.view_is) at c.requires in
    rw (c.promote.ensures.entries, ← c.self.view_is) (keys_promoted c.args.table.now c.self.inside.cache.entries kept)
