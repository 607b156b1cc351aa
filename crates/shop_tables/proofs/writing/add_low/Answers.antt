use Rattle.std.proofs.Common.{rules, ◌≡◌, true, None, Ok, OnOk, subst, arith}
use Rattle.sqlite.specs.Tree.{Trees}
use Rattle.sqlite.specs.Held.{state}
use Rattle.sqlite.specs.State.{HasCleanDisk, Survives, ExecutesInside}
use Rattle.paygo_spec.specs.declared.TheConstants.{LAST}
use Rattle.ledger_spec.specs.Tables.{Tables, Kept, row_of, with_row}
use Rattle.shop_tables.specs.Stored.{Hold, device_columns}
use Rattle.shop_tables.specs.Telling.{Tells, Wrote}
use Rattle.shop_tables.specs.declared.statements.TheConstants.{ADD_DEVICE}
use Rattle.shop_tables.proofs.Effects.{adds_device}
use Rattle.shop_tables.proofs.Committing.{on_ok, tells_after, survives_all}
use Rattle.shop_tables.proofs.writing.add_low.Goals as goal

pub returns-clause-done : goal.returns-clause-done
returns-clause-done g c clean =
    let old = state g.S.Store c.args.conn.now in
    let begun = state g.S.Store (record c.args.conn.now { in_transaction = true }) in
    let mid = state g.S.Store c.execute.new.self.conn.now in
    let end = c.commit.new.self.0 in
    let same : end ≡ c.conn-2-1.given.0 = search rules in
    let late : HasCleanDisk (state g.S.Store end) = search rules in
    let is = c.transaction-tx.ensures.begun in
    let one = c.in_ok-execute.ensures.runs (omega (arith, late, c.commit.ensures.survives.clean)) (rw is) in
    let ran = subst (λ p. ExecutesInside 0 ADD_DEVICE.now p begun mid (Ok c.in_ok-execute.field-0)) c.device_values.ensures (rw is at one) in
    subst (λ h. OnOk c.commit.result (Wrote (λ tables. (c.args.row.now.limit ≡ LAST) × (row_of tables c.args.row.now.serial ≡ None)) (with_row c.args.row.now) old (state g.S.Store h))) same
    (on_ok c.commit.result (λ went tables tells kept asked. tells_after mid (state g.S.Store end) (with_row c.args.row.now tables) went.1 (adds_device begun mid tables (tells.schema, tells.hold) _ c.args.row.now asked.0 asked.1 ran.0))
    (c.commit.ensures.ok late))

pub returns-clause-whole : goal.returns-clause-whole
returns-clause-whole g c =
    let old = state g.S.Store c.args.conn.now in
    let begun = state g.S.Store (record c.args.conn.now { in_transaction = true }) in
    let mid = state g.S.Store c.execute.new.self.conn.now in
    let end = c.commit.new.self.0 in
    let same : end ≡ c.conn-2-1.given.0 = search rules in
    let is = c.transaction-tx.ensures.begun in
    let P = λ (trees : Trees). (tables : Tables) → Tells old tables → Kept tables → (c.args.row.now.limit ≡ LAST) × (row_of tables c.args.row.now.serial ≡ None) → Hold trees (with_row c.args.row.now tables) in
    let ran : HasCleanDisk mid → ExecutesInside 0 ADD_DEVICE.now (device_columns c.args.row.now) begun mid (Ok c.in_ok-execute.field-0) = λ clean.
    subst (λ p. ExecutesInside 0 ADD_DEVICE.now p begun mid (Ok c.in_ok-execute.field-0)) c.device_values.ensures (rw is at (c.in_ok-execute.ensures.runs clean (rw is))) in
    subst (λ h. Survives old (state g.S.Store h) P) same
    (survives_all g.S.Store c.args.conn.now c.execute.new.self.conn.now end P (rw is at c.execute.ensures.survives) c.commit.ensures.survives
    (λ clean tables tells kept asked. (adds_device begun mid tables (tells.schema, tells.hold) _ c.args.row.now asked.0 asked.1 (ran clean).0).1))
