use Rattle.std.proofs.Common.{rules, ◌≡◌, ◌∷◌, true, Ok, Err, IsSome, OnOk, subst, arith}
use Rattle.sqlite.specs.Tree.{Trees}
use Rattle.sqlite.specs.Held.{state}
use Rattle.sqlite.specs.State.{HasCleanDisk, Survives, ExecutesInside}
use Rattle.ledger_spec.specs.Tables.{Tables, Kept, RowIsInRange, row_of, with_order}
use Rattle.shop_tables.specs.Stored.{Hold, order_columns, row_columns}
use Rattle.shop_tables.specs.Telling.{Tells, Stays, Wrote}
use Rattle.shop_tables.specs.declared.statements.TheConstants.{ADD_ORDER, PUT_DEVICE}
use Rattle.shop_tables.proofs.Effects.{adds_order, puts_device}
use Rattle.shop_tables.proofs.Committing.{on_ok, on_err, tells_after, survives_all, survives_both, keeps_begun, keeps_commit, keeps_then, stays_given_up}
use Rattle.shop_tables.proofs.writing.add_order.Goals as goal

pub returns-in_err-execute-2-clause-refused : goal.returns-in_err-execute-2-clause-refused
returns-in_err-execute-2-clause-refused g c clean =
    let old = state g.S.Store c.args.conn.now in
    let begun = state g.S.Store (record c.args.conn.now { in_transaction = true }) in
    let mid = state g.S.Store c.execute.new.self.conn.now in
    let last = state g.S.Store c.execute-2.new.self.conn.now in
    let end = c.drop-tx-in_err-execute-2.new.self.0 in
    let same : end ≡ c.conn-in_err-execute-2-1.given.0 = search rules in
    let late : HasCleanDisk (state g.S.Store end) = search rules in
    let clean_last : HasCleanDisk last = omega (arith, late, c.drop-tx-in_err-execute-2.ensures.survives.clean) in
    let is = c.transaction-tx.ensures.begun in
    let one = c.in_ok-execute.ensures.runs (omega (arith, clean_last, c.execute-2.ensures.survives.clean)) (rw is) in
    let two = c.in_err-execute-2.ensures.runs clean_last one.1.mode in
    let e = c.in_err-execute-2.field-0.0 in
    let first = subst (λ p. ExecutesInside 0 ADD_ORDER.now p begun mid (Ok c.in_ok-execute.field-0)) c.order_values.ensures (rw is at one) in
    let then = subst (λ p. ExecutesInside 0 PUT_DEVICE.now p mid last (Err e)) c.put_values.ensures two in
    let kept = keeps_then begun mid last (keeps_commit ADD_ORDER.now (order_columns c.args.order.now) begun mid (Ok c.in_ok-execute.field-0) first) (keeps_commit PUT_DEVICE.now (row_columns c.args.row.now) mid last (Err e) then) in
    on_err c.from_residual-in_err-execute-2.result (subst (λ h. Stays old (state g.S.Store h)) same
    (stays_given_up old last (state g.S.Store end) (keeps_begun g.S.Store c.args.conn.now last kept)
    (c.drop-tx-in_err-execute-2.ensures.undone late)))

pub returns-clause-done : goal.returns-clause-done
returns-clause-done g c clean =
    let old = state g.S.Store c.args.conn.now in
    let begun = state g.S.Store (record c.args.conn.now { in_transaction = true }) in
    let mid = state g.S.Store c.execute.new.self.conn.now in
    let last = state g.S.Store c.execute-2.new.self.conn.now in
    let end = c.commit.new.self.0 in
    let same : end ≡ c.conn-2-1.given.0 = search rules in
    let late : HasCleanDisk (state g.S.Store end) = search rules in
    let clean_last : HasCleanDisk last = omega (arith, late, c.commit.ensures.survives.clean) in
    let is = c.transaction-tx.ensures.begun in
    let one = c.in_ok-execute.ensures.runs (omega (arith, clean_last, c.execute-2.ensures.survives.clean)) (rw is) in
    let two = c.in_ok-execute-2.ensures.runs clean_last one.1.mode in
    let first = subst (λ p. ExecutesInside 0 ADD_ORDER.now p begun mid (Ok c.in_ok-execute.field-0)) c.order_values.ensures (rw is at one) in
    let then = subst (λ p. ExecutesInside 0 PUT_DEVICE.now p mid last (Ok c.in_ok-execute-2.field-0)) c.put_values.ensures two in
    let ran = λ (tables : Tables) (tells : Tells old tables) (kept : Kept tables) (asked : RowIsInRange c.args.row.now × IsSome (row_of tables c.args.row.now.serial)).
    puts_device mid last (record tables { orders = c.args.order.now ∷ tables.orders }) (adds_order begun mid tables (tells.schema, tells.hold) _ c.args.order.now first.0) _ c.args.row.now kept.rows asked.1 asked.0.limit then.0 c.if-branch-ne1.false in
    subst (λ h. OnOk c.commit.result (Wrote (λ tables. RowIsInRange c.args.row.now × IsSome (row_of tables c.args.row.now.serial)) (with_order c.args.order.now c.args.row.now) old (state g.S.Store h))) same
    (on_ok c.commit.result (λ went tables tells kept asked. tells_after last (state g.S.Store end) (with_order c.args.order.now c.args.row.now tables) went.1 (ran tables tells kept asked))
    (c.commit.ensures.ok late))

pub returns-clause-whole : goal.returns-clause-whole
returns-clause-whole g c =
    let old = state g.S.Store c.args.conn.now in
    let begun = state g.S.Store (record c.args.conn.now { in_transaction = true }) in
    let mid = state g.S.Store c.execute.new.self.conn.now in
    let last = state g.S.Store c.execute-2.new.self.conn.now in
    let end = c.commit.new.self.0 in
    let same : end ≡ c.conn-2-1.given.0 = search rules in
    let is = c.transaction-tx.ensures.begun in
    let P = λ (trees : Trees). (tables : Tables) → Tells old tables → Kept tables → RowIsInRange c.args.row.now × IsSome (row_of tables c.args.row.now.serial) → Hold trees (with_order c.args.order.now c.args.row.now tables) in
    let ran : HasCleanDisk last → P last.now.trees = λ clean tables tells kept asked.
    let one = c.in_ok-execute.ensures.runs (omega (arith, clean, c.execute-2.ensures.survives.clean)) (rw is) in
    let two = c.in_ok-execute-2.ensures.runs clean one.1.mode in
    let first = subst (λ p. ExecutesInside 0 ADD_ORDER.now p begun mid (Ok c.in_ok-execute.field-0)) c.order_values.ensures (rw is at one) in
    let then = subst (λ p. ExecutesInside 0 PUT_DEVICE.now p mid last (Ok c.in_ok-execute-2.field-0)) c.put_values.ensures two in
    (puts_device mid last (record tables { orders = c.args.order.now ∷ tables.orders }) (adds_order begun mid tables (tells.schema, tells.hold) _ c.args.order.now first.0) _ c.args.row.now kept.rows asked.1 asked.0.limit then.0 c.if-branch-ne1.false).1 in
    subst (λ h. Survives old (state g.S.Store h) P) same
    (survives_all g.S.Store c.args.conn.now c.execute-2.new.self.conn.now end P
    (survives_both begun mid last (rw is at c.execute.ensures.survives) c.execute-2.ensures.survives) c.commit.ensures.survives ran)
