use Rattle.std.proofs.Common.{◌≡◌, ℕ, suc, ◌+◌, ◌-◌, ◌<◌, length, sym, ap, ◌∙◌, arith}
use Rattle.table_flaws.specs.Bounds.{bound_at}
use Rattle.table_flaws.proofs.Walking.{bound_of}
use Rattle.table_flaws.proofs.finding.bound_for.Goals as goal

pub returns-else-place-eq0 : goal.returns-else-place-eq0
returns-else-place-eq0 c =
    let place_is : c.args.place ≡ suc (c.args.place - 1) = omega arith in
    let within : c.args.place - 1 < length c.args.orders.now = omega arith in
    sym (ap (λ (n : ℕ). bound_at (c.args.row.now.last + 1) c.args.orders.now n) place_is
    ∙ bound_of (c.args.row.now.last + 1) c.args.orders.now (c.args.place - 1) c.index-orders-place.result within)
