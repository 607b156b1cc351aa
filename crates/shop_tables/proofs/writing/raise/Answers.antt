use Rattle.std.proofs.Common.{rules, ◌≡◌, true, Ok, IsSome, OnOk, subst, arith}
use Rattle.sqlite.specs.Tree.{Trees}
use Rattle.sqlite.specs.Held.{state}
use Rattle.sqlite.specs.State.{HasCleanDisk, Survives, ExecutesInside}
use Rattle.ledger_spec.specs.Tables.{Tables, Kept, row_of, with_raised}
use Rattle.shop_tables.specs.Stored.{Hold, raised_columns}
use Rattle.shop_tables.specs.Telling.{Tells, Wrote}
use Rattle.shop_tables.specs.declared.statements.TheConstants.{RAISE}
use Rattle.shop_tables.proofs.Effects.{raises}
use Rattle.shop_tables.proofs.Committing.{on_ok, tells_after, survives_all}
use Rattle.shop_tables.proofs.writing.raise.Goals as goal

pub returns-clause-done : goal.returns-clause-done
returns-clause-done g c clean =
    let old = state g.S.Store c.args.conn.now in
    let begun = state g.S.Store (record c.args.conn.now { in_transaction = true }) in
    let mid = state g.S.Store c.execute.new.self.conn.now in
    let end = c.commit.new.self.0 in
    let same : end ≡ c.conn-2-1.given.0 = search rules in
    let late : HasCleanDisk (state g.S.Store end) = search rules in
    let is = c.transaction-tx.ensures.begun in
    let one = c.in_ok-execute.ensures.runs (omega (arith, late, c.commit.ensures.survives.clean)) (rw is) in
    let ran = subst (λ p. ExecutesInside 0 RAISE.now p begun mid (Ok c.in_ok-execute.field-0)) c.serial_values.ensures (rw is at one) in
    subst (λ h. OnOk c.commit.result (Wrote (λ tables. IsSome (row_of tables c.args.serial.now)) (with_raised c.args.serial.now) old (state g.S.Store h))) same
    (on_ok c.commit.result (λ went tables tells kept asked. tells_after mid (state g.S.Store end) (with_raised c.args.serial.now tables) went.1 (raises begun mid tables (tells.schema, tells.hold) _ c.args.serial.now kept.rows asked ran.0))
    (c.commit.ensures.ok late))

pub returns-clause-whole : goal.returns-clause-whole
returns-clause-whole g c =
    let old = state g.S.Store c.args.conn.now in
    let begun = state g.S.Store (record c.args.conn.now { in_transaction = true }) in
    let mid = state g.S.Store c.execute.new.self.conn.now in
    let end = c.commit.new.self.0 in
    let same : end ≡ c.conn-2-1.given.0 = search rules in
    let is = c.transaction-tx.ensures.begun in
    let P = λ (trees : Trees). (tables : Tables) → Tells old tables → Kept tables → IsSome (row_of tables c.args.serial.now) → Hold trees (with_raised c.args.serial.now tables) in
    let ran : HasCleanDisk mid → ExecutesInside 0 RAISE.now (raised_columns c.args.serial.now) begun mid (Ok c.in_ok-execute.field-0) = λ clean.
    subst (λ p. ExecutesInside 0 RAISE.now p begun mid (Ok c.in_ok-execute.field-0)) c.serial_values.ensures (rw is at (c.in_ok-execute.ensures.runs clean (rw is))) in
    subst (λ h. Survives old (state g.S.Store h) P) same
    (survives_all g.S.Store c.args.conn.now c.execute.new.self.conn.now end P (rw is at c.execute.ensures.survives) c.commit.ensures.survives
    (λ clean tables tells kept asked. (raises begun mid tables (tells.schema, tells.hold) _ c.args.serial.now kept.rows asked (ran clean).0).1))
