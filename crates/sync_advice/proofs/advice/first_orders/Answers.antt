use Rattle.std.proofs.Common.{◌∙◌, List, Option, drop, length, sym, ap, subst}
use Rattle.ledger_spec.specs.declared.Order.{Order}
use Rattle.sync_advice.proofs.Placing.{ArePlaced, place_below, placed_by, table_is}
use Rattle.sync_advice.proofs.advice.first_orders.Goals as goal

pub put-requires : goal.put-requires
put-requires c =
    place_below _ _ _ c.loop-order-test.true c.order-item.is _ c.deref_mut.result.now c.requires
    (ap length c.deref_mut.ensures.value ∙ c.loop-order.invariant.size)

pub loop-order-preserved : goal.loop-order-preserved
loop-order-preserved c =
    let within = c.loop-order-test.true in
    let is = c.order-item.is in
    let same = c.deref_mut.ensures.value in
    let size = ap length same ∙ c.loop-order.invariant.size in
    let left = drop c.loop-order.order-index c.args.orders.now in
    let placed = subst (λ (firsts : List (Option Order)). ArePlaced c.args.orders.now firsts left) (sym same)
    c.loop-order.invariant.placed in
    let below = place_below _ _ _ within is _ c.deref_mut.result.now c.requires size in
    let after = placed_by _ _ _ within is c.deref_mut.result.now c.put.new.firsts below c.put.ensures.first
    c.put.ensures.later placed in
    let rest = drop (length c.put.new.firsts) c.loop-order.firsts.items in
    let long = after.0 ∙ ap length same ∙ sym c.loop-order.firsts.ok.0 in
    rw (table_is c.loop-order.firsts.len c.put.new.firsts rest long)
    (record { size = after.0 ∙ size; placed = after.1 })
