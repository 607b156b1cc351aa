use Rattle.std.proofs.Common.{is_some, sym, ap, ◌∙◌}
use Rattle.token_issue.proofs.KeptLemmas.{kept_lookup, table_found}
use Rattle.token_issue.proofs.tables.Tables.tokens.Goals as goal

pub returns-in-Some-clause-kept : goal.returns-in-Some-clause-kept
returns-in-Some-clause-kept g c =
    rw (← c.self.view_is) (ap is_some c.in-Some.ensures ∙ sym (kept_lookup c.args.table.now c.self.inside.cache.entries))

pub returns-in-Some-clause-tokens : goal.returns-in-Some-clause-tokens
returns-in-Some-clause-tokens g c =
    c.as_slice.ensures.value
    ∙ table_found g.M.Mixer.next c.args.table.now c.self.inside.cache.entries c.in-Some.tokens.now c.self.invariant.1 (sym c.in-Some.ensures)

pub returns-in-None-clause-kept : goal.returns-in-None-clause-kept
returns-in-None-clause-kept g c =
    rw (← c.self.view_is) (ap is_some c.in-None.ensures ∙ sym (kept_lookup c.args.table.now c.self.inside.cache.entries))
