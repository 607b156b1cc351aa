use Rattle.std.proofs.Common.{◌≡◌, ◌++◌, drop}
use Rattle.table_flaws.specs.Flaws.{changes_flaws}
use Rattle.table_flaws.proofs.finding.push_changes.Given as goal

abbrev pub invariant-changes : goal.invariant-changes
invariant-changes l =
    l.flaws.items ++ changes_flaws l.row (drop l.change-index l.changes) ≡ l.fn.flaws.items ++ changes_flaws l.row l.changes
