use Rattle.std.proofs.Common.{◌≡◌, ◌+◌, ◌*◌, ◌≤◌, length}
use Rattle.std.specs.BTreeMap.{values, btree_map_len}
use Rattle.sheet_book.proofs.Entries.{sum_kept, money_of, dispute_of}
use Rattle.sheet_book.proofs.book.Book.totals.Given as goal

abbrev pub invariant-loop-kept : goal.invariant-loop-kept
invariant-loop-kept l = record {
  money_is : l.money + sum_kept money_of l.kept-iterator ≡ sum_kept money_of (values l.self.places);
  money_fits : l.money + length l.kept-iterator * 18446744073709551615
      ≤ btree_map_len l.self.places * 18446744073709551615;
  disputes_is : l.disputes + sum_kept dispute_of l.kept-iterator ≡ sum_kept dispute_of (values l.self.places);
  disputes_fits : l.disputes + length l.kept-iterator ≤ btree_map_len l.self.places;
}
