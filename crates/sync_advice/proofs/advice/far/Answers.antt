use Rattle.std.proofs.Common.{◌<◌, ◌≤◌, sym, ◌∙◌, arith, inl, inr, ⊎_elim}
use Rattle.std.proofs.lemmas.Bool.{cases_lt}
use Rattle.sync_advice.proofs.Climbing.{not_within, far_is}
use Rattle.sync_advice.proofs.advice.far.Goals as goal

pub loop-count-init : goal.loop-count-init
loop-count-init c = λ orders first n h.
    not_within orders _ _ n (inr (
    let a = c.min-count.ensures in
    let b = c.saturating_add.ensures in
    omega (arith, c.ranges.limit.fits)
    ))

pub returns-in-loop-count : goal.returns-in-loop-count
returns-in-loop-count c = λ orders first.
    let listed = sym (first c.loop-count.count) ∙ sym c.order_at.ensures ∙ c.in-Some.is in
    let reached = sym c.reaches.ensures ∙ c.if-reaches.true in
    far_is orders _ _ c.loop-count.count c.in-Some.order listed reached (c.loop-count.invariant orders first)

pub returns : goal.returns
returns c = λ orders first n. ⊎_elim
    (λ (l : c.loop-count.count < n). c.loop-count.invariant orders first n l)
    (λ (l : n ≤ c.loop-count.count). not_within orders _ _ n (inl (let t = c.loop-count-test.false in omega arith)))
    (cases_lt c.loop-count.count n)
