use Rattle.std.proofs.Common.{◌≡◌, ◌-◌, ◌^◌, take, length, min}
use Rattle.std.specs.Prelude.{IfSome}
use Rattle.std.specs.List.{flat_map}
use Rattle.table_flaws.specs.Flaws.{row_flaws}
use Rattle.table_flaws.specs.Found.{order_count, twins}
use Rattle.table_flaws.proofs.looking.sound.Given as goal

abbrev pub invariant-loop-i : goal.invariant-loop-i
invariant-loop-i g l = record {
  tables : (g.D.Keeper.view l.keeper).tables ≡ (g.D.Keeper.view l.fn.keeper).tables;
  faults : (g.D.Keeper.view l.keeper).faults ≡ (g.D.Keeper.view l.fn.keeper).faults;
  rows : l.findings.rows ≡ length l.rows.items;
  twins : l.findings.twins.items ≡ twins l.rows.items;
  orders : IfSome (g.D.Keeper.view l.fn.keeper).tables (λ t. l.findings.orders ≡ min (order_count t (take l.i l.rows.items)) (2 ^ 64 - 1));
  flaws : IfSome (g.D.Keeper.view l.fn.keeper).tables (λ t. l.findings.flaws.items ≡ flat_map (row_flaws g.M.Mixer.next t) (take l.i l.rows.items));
}
