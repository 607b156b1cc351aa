use Rattle.std.proofs.Common.{◌∙◌, ap}
use Rattle.std.proofs.lemmas.List.Elements.{All-same}
use Rattle.ledger_spec.specs.Tables.{RowIsInRange}
use Rattle.ledger_spec.specs.Putting.{sorted_by}
use Rattle.ledger_spec.specs.Sorted.{row_before}
use Rattle.ledger_spec.proofs.SortedLemmas.{told_rows_in_range}
use Rattle.ledger_keeper.proofs.Rising.{told_rows_rise}
use Rattle.ledger_keeper.proofs.mem_keeper.MemKeeperKeeper.rows.Goals as goal

pub returns-in-Some-clause-in_range : goal.returns-in-Some-clause-in_range
returns-in-Some-clause-in_range c = All-same RowIsInRange c.in-Some.list.items (sorted_by row_before c.args.self.now.rows.items)
    (c.in-Some.ensures ∙ ap (λ rows. sorted_by row_before rows) c.deref.ensures.value)
    (told_rows_in_range row_before c.args.self.now.rows.items c.args.self.now.kept.rows)

pub returns-in-Some-clause-ordered : goal.returns-in-Some-clause-ordered
returns-in-Some-clause-ordered c = rw (c.in-Some.ensures, c.deref.ensures.value) (told_rows_rise c.args.self.now.rows.items c.args.self.now.kept.rows)
