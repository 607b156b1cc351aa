use Rattle.std.proofs.Common.{rules, ◌≡◌, true, Ok, OnOk, subst, arith}
use Rattle.sqlite.specs.Tree.{Trees}
use Rattle.sqlite.specs.Held.{state}
use Rattle.sqlite.specs.State.{HasCleanDisk, Survives, ExecutesInside}
use Rattle.ledger_spec.specs.Tables.{Tables, Kept, with_change}
use Rattle.shop_tables.specs.Stored.{Hold, change_columns}
use Rattle.shop_tables.specs.Telling.{Tells, Wrote}
use Rattle.shop_tables.specs.declared.statements.TheConstants.{ADD_PRICE}
use Rattle.shop_tables.proofs.Effects.{adds_price}
use Rattle.shop_tables.proofs.Committing.{on_ok, tells_after, survives_all}
use Rattle.shop_tables.proofs.writing.add_price.Goals as goal

pub returns-clause-done : goal.returns-clause-done
returns-clause-done g c clean =
    let old = state g.S.Store c.args.conn.now in
    let begun = state g.S.Store (record c.args.conn.now { in_transaction = true }) in
    let mid = state g.S.Store c.execute.new.self.conn.now in
    let end = c.commit.new.self.0 in
    let same : end ≡ c.conn-2-1.given.0 = search rules in
    let late : HasCleanDisk (state g.S.Store end) = search rules in
    let is = c.transaction-tx.ensures.begun in
    let one = c.in_ok-execute.ensures.runs (omega (arith, late, c.commit.ensures.survives.clean)) (rw is) in
    let ran = subst (λ p. ExecutesInside 0 ADD_PRICE.now p begun mid (Ok c.in_ok-execute.field-0)) c.change_values.ensures (rw is at one) in
    subst (λ h. OnOk c.commit.result (Wrote (λ tables. Unit {0}) (with_change c.args.change.now) old (state g.S.Store h))) same
    (on_ok c.commit.result (λ went tables tells kept asked. tells_after mid (state g.S.Store end) (with_change c.args.change.now tables) went.1 (adds_price begun mid tables (tells.schema, tells.hold) _ c.args.change.now ran.0))
    (c.commit.ensures.ok late))

pub returns-clause-whole : goal.returns-clause-whole
returns-clause-whole g c =
    let old = state g.S.Store c.args.conn.now in
    let begun = state g.S.Store (record c.args.conn.now { in_transaction = true }) in
    let mid = state g.S.Store c.execute.new.self.conn.now in
    let end = c.commit.new.self.0 in
    let same : end ≡ c.conn-2-1.given.0 = search rules in
    let is = c.transaction-tx.ensures.begun in
    let P = λ (trees : Trees). (tables : Tables) → Tells old tables → Kept tables → Unit {0} → Hold trees (with_change c.args.change.now tables) in
    let ran : HasCleanDisk mid → ExecutesInside 0 ADD_PRICE.now (change_columns c.args.change.now) begun mid (Ok c.in_ok-execute.field-0) = λ clean.
    subst (λ p. ExecutesInside 0 ADD_PRICE.now p begun mid (Ok c.in_ok-execute.field-0)) c.change_values.ensures (rw is at (c.in_ok-execute.ensures.runs clean (rw is))) in
    subst (λ h. Survives old (state g.S.Store h) P) same
    (survives_all g.S.Store c.args.conn.now c.execute.new.self.conn.now end P (rw is at c.execute.ensures.survives) c.commit.ensures.survives
    (λ clean tables tells kept asked. (adds_price begun mid tables (tells.schema, tells.hold) _ c.args.change.now (ran clean).0).1))
