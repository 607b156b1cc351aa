use Rattle.std.proofs.Common.{◌≡◌, ◌-◌, ◌^◌, take, length, min}
use Rattle.std.specs.Prelude.{IfSome}
use Rattle.loan_ledger.specs.Audit.{order_count, wrong_of}
use Rattle.loan_ledger.proofs.auditing.audit.Given as goal

abbrev pub invariant-loop-i : goal.invariant-loop-i
invariant-loop-i g l = record {
  tables : (g.D.Keeper.view l.keeper).tables ≡ (g.D.Keeper.view l.fn.keeper).tables;
  faults : (g.D.Keeper.view l.keeper).faults ≡ (g.D.Keeper.view l.fn.keeper).faults;
  rows : l.audit.rows ≡ length l.rows.items;
  orders : IfSome (g.D.Keeper.view l.fn.keeper).tables (λ t. l.audit.orders ≡ min (order_count t (take l.i l.rows.items)) (2 ^ 64 - 1));
  wrong : IfSome (g.D.Keeper.view l.fn.keeper).tables (λ t. l.audit.wrong.items ≡ wrong_of g.M.Mixer.next t (take l.i l.rows.items));
}
