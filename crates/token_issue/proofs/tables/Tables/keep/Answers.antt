use Rattle.token_issue.proofs.KeptLemmas.{keys_put, tables_put}
use Rattle.token_issue.proofs.tables.Tables.keep.Goals as goal

pub invariant_of-self : goal.invariant_of-self
invariant_of-self g c =
    rw c.in-Ok.ensures.entries
    (c.self.invariant.0, tables_put g.M.Mixer.next c.args.table c.self.inside.cache c.args.tokens c.self.invariant.1 c.requires.tokens)

pub returns-in-Ok-clause-kept : goal.returns-in-Ok-clause-kept
returns-in-Ok-clause-kept g c =
    let new = rw (← c.self.view_is) at c.requires.new in
    rw (c.in-Ok.ensures.entries, ← c.self.view_is) (keys_put c.args.table c.self.inside.cache c.args.tokens c.self.invariant.0 new)
