use Rattle.std.proofs.Common.{List, Option, ◌≤◌, sym, subst, arith}
use Rattle.ledger_spec.specs.declared.Order.{Order}
use Rattle.sync_advice.specs.Advice.{Climbs, last_count}
use Rattle.sync_advice.specs.Places.{AreFirst}
use Rattle.sync_advice.proofs.Climbing.{climbs_more, with_below}
use Rattle.sync_advice.proofs.Bringing.{climb_brings, climb_itself, climb_shortest, stop_none}
use Rattle.sync_advice.proofs.advice.advise.Goals as goal

pub returns-in-None-clause-gap : goal.returns-in-None-clause-gap
returns-in-None-clause-gap c =
    let first = subst (λ (firsts : List (Option Order)). AreFirst c.args.orders.now firsts) (sym c.deref.ensures.value) c.in-Some.ensures in
    stop_none _ _ _ c.loop-at.at (record {
      list = c.loop-at.list.items;
      climbs = c.loop-at.invariant.climbs;
      before = (let l = c.last_count-last.ensures in let t = c.loop-at-test.true in omega arith);
      end = c.in-None.ensures c.args.orders.now first;
    })

pub loop-at-preserved : goal.loop-at-preserved
loop-at-preserved c =
    let first = subst (λ (firsts : List (Option Order)). AreFirst c.args.orders.now firsts) (sym c.deref.ensures.value) c.in-Some.ensures in
    let far = c.in-Some-far.ensures c.args.orders.now first in
    let b : c.in-Some-far.order.count ≤ last_count c.args.orders.now = with_below _ _ _ far.listed in
    record {
      below = (let l = c.last_count-last.ensures in omega arith);
      climbs = subst (λ (items : List Order). Climbs c.args.orders.now c.args.limit c.args.floor items c.in-Some-far.order.count) (sym c.in-Ok.ensures.items)
          (climbs_more _ _ _ _ _ c.in-Some-far.order c.loop-at.invariant.climbs far);
    }

pub returns-clause-does : goal.returns-clause-does
returns-clause-does c = climb_brings _ _ _ c.loop-at.list.items (subst (λ k. Climbs c.args.orders.now c.args.limit c.args.floor c.loop-at.list.items k) (let l = c.last_count-last.ensures in let t = c.loop-at-test.false in let i = c.loop-at.invariant.below in omega arith) c.loop-at.invariant.climbs)

pub returns-clause-itself : goal.returns-clause-itself
returns-clause-itself c = climb_itself _ _ _ c.loop-at.list.items (let l = c.last_count-last.ensures in let f = c.if-floor-last.false in omega arith) (subst (λ k. Climbs c.args.orders.now c.args.limit c.args.floor c.loop-at.list.items k) (let l = c.last_count-last.ensures in let t = c.loop-at-test.false in let i = c.loop-at.invariant.below in omega arith) c.loop-at.invariant.climbs)

pub returns-clause-shortest : goal.returns-clause-shortest
returns-clause-shortest c = climb_shortest _ _ _ c.loop-at.list.items (subst (λ k. Climbs c.args.orders.now c.args.limit c.args.floor c.loop-at.list.items k) (let l = c.last_count-last.ensures in let t = c.loop-at-test.false in let i = c.loop-at.invariant.below in omega arith) c.loop-at.invariant.climbs)
