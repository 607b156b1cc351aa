use Rattle.std.proofs.Common.{◌+◌, sym, ◌∙◌}
use Rattle.paygo_spec.specs.declared.Event.TheVariants.{Power}
use Rattle.log_check.specs.Waiting.{acts_from}
use Rattle.log_check.proofs.Settling.{acts_at, acts_end, event_at, none_taken, one_taken, stops, is_done}
use Rattle.log_check.proofs.waiting.settled_at.Goals as goal

pub loop-at-init : goal.loop-at-init
loop-at-init c next tables old are = none_taken next tables old (acts_from c.args.from c.args.events.now)
    c.args.states.now are

pub pass-requires : goal.pass-requires
pass-requires c = event_at c.args.events.now c.loop-at.at Power c.loop-at-test.true c.requires

pub loop-at-preserved : goal.loop-at-preserved
loop-at-preserved c next tables old are =
    let so_far = c.loop-at.invariant next tables old are in
    let silent = sym (c.is_silent.ensures so_far.states so_far.are) ∙ c.if-not-is_silent.false in
    one_taken next tables old (acts_from c.args.from c.args.events.now) c.loop-at.states
    (acts_from c.loop-at.at c.args.events.now) so_far
    _ (acts_from (c.loop-at.at + 1) c.args.events.now) c.pass.new.self
    (acts_at c.args.events.now c.loop-at.at Power c.loop-at-test.true) silent
    (c.pass.ensures next so_far.states so_far.are silent)

pub returns : goal.returns
returns c next tables old are =
    let so_far = c.loop-at.invariant next tables old are in
    is_done next tables old (acts_from c.args.from c.args.events.now) c.loop-at.states
    (acts_from c.loop-at.at c.args.events.now) so_far
    (acts_end c.args.events.now c.loop-at.at c.loop-at-test.false)

pub returns-then-not-is_silent : goal.returns-then-not-is_silent
returns-then-not-is_silent c next tables old are =
    let so_far = c.loop-at.invariant next tables old are in
    let answered = sym (c.is_silent.ensures so_far.states so_far.are) ∙ c.if-not-is_silent.true in
    stops next tables old (acts_from c.args.from c.args.events.now) c.loop-at.states
    (acts_from c.loop-at.at c.args.events.now) so_far
    _ (acts_from (c.loop-at.at + 1) c.args.events.now)
    (acts_at c.args.events.now c.loop-at.at Power c.loop-at-test.true) answered
