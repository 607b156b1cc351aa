use Rattle.paygo_spec.specs.declared.Found.TheVariants.{Valid, Old, Invalid}
use Rattle.device_core.proofs.Deciding.{token_found, may_accept}
use Rattle.device_core.proofs.decision.search.Goals as goal

pub returns-in-Valid-clause-decision : goal.returns-in-Valid-clause-decision
returns-in-Valid-clause-decision g c = λ keys says.
    token_found g.M.Mixer.next c.args.journal.now keys c.config-config.result.now c.summary.result.now c.args.token (Valid c.in-Valid.count c.in-Valid.value)
    c.requires c.config-config.ensures.value c.summary.ensures.value c.in-Valid.ensures.window says

pub returns-in-Valid-clause-may : goal.returns-in-Valid-clause-may
returns-in-Valid-clause-may g c =
    may_accept c.args.journal.now c.summary.result.now c.in-Valid.count c.in-Valid.value c.requires c.summary.ensures.value c.in-Valid.ensures.may

pub returns-in-Old-clause-decision : goal.returns-in-Old-clause-decision
returns-in-Old-clause-decision g c = λ keys says.
    token_found g.M.Mixer.next c.args.journal.now keys c.config-config.result.now c.summary.result.now c.args.token (Old c.in-Old.count)
    c.requires c.config-config.ensures.value c.summary.ensures.value c.in-Old.ensures.window says

pub returns-in-Invalid-clause-decision : goal.returns-in-Invalid-clause-decision
returns-in-Invalid-clause-decision g c = λ keys says.
    token_found g.M.Mixer.next c.args.journal.now keys c.config-config.result.now c.summary.result.now c.args.token Invalid
    c.requires c.config-config.ensures.value c.summary.ensures.value c.in-Invalid.ensures.window says
