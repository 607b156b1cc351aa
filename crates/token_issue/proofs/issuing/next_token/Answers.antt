use Rattle.std.proofs.Common.{◌≡◌, ◌<◌, ◌^◌, ap, ◌∙◌}
use Rattle.paygo_spec.specs.Chain.{token_at}
use Rattle.token_issue.specs.declared.table_key.TableKey.{TableKey}
use Rattle.token_issue.specs.Lists.{tokens_from}
use Rattle.token_issue.proofs.ChosenLemmas.{found_ok, found_token, found_small}
use Rattle.token_issue.proofs.issuing.next_token.Goals as goal

pub returns-in-Some-clause-token : goal.returns-in-Some-clause-token
returns-in-Some-clause-token g c =
    found_ok (λ chosen. chosen.token ≡ token_at (g.M.Mixer.next c.args.key.now) c.args.start c.args.value chosen.count) c.least_clean-found.result _ c.ok_or.result c.ok_or.ensures.value
    (found_token (g.M.Mixer.next c.args.key.now) c.args.start c.args.value c.args.limit c.in-Some.tokens.now c.least_clean-found.result
    (c.in-Some.ensures.tokens ∙ ap (λ (t : TableKey). tokens_from (g.M.Mixer.next t.key) t.code t.counts) c.table_of-table.ensures.table) c.least_clean-found.ensures.within c.least_clean-found.ensures.token)

pub returns-in-Some-clause-below : goal.returns-in-Some-clause-below
returns-in-Some-clause-below g c =
    found_ok (λ chosen. chosen.token < 10 ^ 9) c.least_clean-found.result _ c.ok_or.result c.ok_or.ensures.value
    (found_small (g.M.Mixer.next c.args.key.now) c.args.start c.args.value c.args.limit c.in-Some.tokens.now c.least_clean-found.result (g.met.M.Mixer.below c.args.key.now) c.requires.start
    (found_token (g.M.Mixer.next c.args.key.now) c.args.start c.args.value c.args.limit c.in-Some.tokens.now c.least_clean-found.result
    (c.in-Some.ensures.tokens ∙ ap (λ (t : TableKey). tokens_from (g.M.Mixer.next t.key) t.code t.counts) c.table_of-table.ensures.table) c.least_clean-found.ensures.within c.least_clean-found.ensures.token))

pub returns-clause-token : goal.returns-clause-token
returns-clause-token g c =
    found_ok (λ chosen. chosen.token ≡ token_at (g.M.Mixer.next c.args.key.now) c.args.start c.args.value chosen.count) c.least_clean-found-2.result _ c.ok_or-2.result c.ok_or-2.ensures.value
    (found_token (g.M.Mixer.next c.args.key.now) c.args.start c.args.value c.args.limit c.deref.result.now c.least_clean-found-2.result
    (c.deref.ensures.value ∙ c.in-Ok.ensures ∙ ap (λ (t : TableKey). tokens_from (g.M.Mixer.next t.key) t.code t.counts) c.table_of-table.ensures.table) c.least_clean-found-2.ensures.within c.least_clean-found-2.ensures.token)

pub returns-clause-below : goal.returns-clause-below
returns-clause-below g c =
    found_ok (λ chosen. chosen.token < 10 ^ 9) c.least_clean-found-2.result _ c.ok_or-2.result c.ok_or-2.ensures.value
    (found_small (g.M.Mixer.next c.args.key.now) c.args.start c.args.value c.args.limit c.deref.result.now c.least_clean-found-2.result (g.met.M.Mixer.below c.args.key.now) c.requires.start
    (found_token (g.M.Mixer.next c.args.key.now) c.args.start c.args.value c.args.limit c.deref.result.now c.least_clean-found-2.result
    (c.deref.ensures.value ∙ c.in-Ok.ensures ∙ ap (λ (t : TableKey). tokens_from (g.M.Mixer.next t.key) t.code t.counts) c.table_of-table.ensures.table) c.least_clean-found-2.ensures.within c.least_clean-found-2.ensures.token))
