use Rattle.std.proofs.Common.{◌≡◌, ℕ, List, [], ◌∷◌, ◌++◌, Err, ap, subst}
use Rattle.line_output.specs.Written.{Wrote}
use Rattle.paygo_cli.specs.Advised.{order_line}
use Rattle.paygo_cli.proofs.Pieces.{cut_at}
use Rattle.paygo_cli.proofs.advising.write_orders.Goals as goal

pub returns-in-Err-clause-wrote : goal.returns-in-Err-clause-wrote
returns-in-Err-clause-wrote g c =
    let old = g.K.Sink.view c.args.sink.now in
    let mid = g.K.Sink.view c.loop-order.sink in
    let new = g.K.Sink.view c.write_line.new.sink in
    let order = c.order-item.result in
    let line : c.answer_line.result ++ 10 ∷ [] ≡ order_line c.args.form order = ap (λ (l : List ℕ). l ++ 10 ∷ []) c.answer_line.ensures.text in
    let wrote = subst (λ (l : List ℕ). Wrote l (Err c.in-Err.fault) mid new) line c.in-Err.ensures.wrote in
    cut_at (order_line c.args.form) c.args.orders.now c.loop-order.order-index order c.loop-order-test.true c.order-item.is c.in-Err.fault old mid new c.loop-order.invariant.written wrote
