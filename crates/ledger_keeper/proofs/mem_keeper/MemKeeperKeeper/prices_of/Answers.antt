use Rattle.std.proofs.Common.{◌≡◌, ◌∙◌, ap}
use Rattle.std.proofs.lemmas.List.Elements.{All-same}
use Rattle.ledger_spec.specs.declared.PriceChange.{PriceChange}
use Rattle.ledger_spec.specs.Tables.{ChangeIsInRange, prices_in}
use Rattle.ledger_spec.proofs.PriceLemmas.{told_changes_in_range}
use Rattle.ledger_keeper.proofs.Rising.{told_changes_asked, told_changes_rise}
use Rattle.ledger_keeper.proofs.mem_keeper.MemKeeperKeeper.prices_of.Goals as goal

pub returns-in-Some-clause-in_range : goal.returns-in-Some-clause-in_range
returns-in-Some-clause-in_range c = All-same ChangeIsInRange c.in-Some.list.items (prices_in c.args.self.now.changes.items c.args.serial.now)
    (c.in-Some.ensures ∙ ap (λ changes. prices_in changes c.args.serial.now) c.deref.ensures.value)
    (told_changes_in_range c.args.self.now.rows.items c.args.self.now.changes.items c.args.serial.now c.args.self.now.kept.changes)

pub returns-in-Some-clause-asked : goal.returns-in-Some-clause-asked
returns-in-Some-clause-asked c = All-same (λ (o : PriceChange). o.serial ≡ c.args.serial.now) c.in-Some.list.items (prices_in c.args.self.now.changes.items c.args.serial.now)
    (c.in-Some.ensures ∙ ap (λ changes. prices_in changes c.args.serial.now) c.deref.ensures.value)
    (told_changes_asked c.args.serial.now c.args.self.now.changes.items)

pub returns-in-Some-clause-ordered : goal.returns-in-Some-clause-ordered
returns-in-Some-clause-ordered c = rw (c.in-Some.ensures, c.deref.ensures.value) (told_changes_rise c.args.serial.now c.args.self.now.rows.items c.args.self.now.changes.items c.args.self.now.kept.changes)
