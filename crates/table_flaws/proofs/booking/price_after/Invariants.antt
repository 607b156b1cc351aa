use Rattle.std.proofs.Common.{◌≡◌, drop}
use Rattle.ledger_spec.specs.Tables.{price_among}
use Rattle.ledger_spec.proofs.PriceLemmas.{IsPrice}
use Rattle.table_flaws.proofs.booking.price_after.Given as goal

abbrev pub invariant-loop-change : goal.invariant-loop-change
invariant-loop-change l = record {
  price : price_among l.current l.count (drop l.change-index l.changes) ≡ price_among l.price l.count l.changes;
  good : IsPrice l.current;
}
