-- What a transaction of one statement leaves, and of two.
use Rattle.std.proofs.Common.{◌≡◌, inl, inr, ℕ, List, false, true, Ok, Err, Result, OnOk, OnErr, sym, ap, subst, ◌∙◌, arith}
use Rattle.sqlite.specs.declared.error.Error.{Error}
use Rattle.sqlite.specs.Effect.{Database}
use Rattle.sqlite.specs.Tree.{Trees}
use Rattle.sqlite_trees.specs.declared.store.Store as store
use Rattle.sqlite.specs.Held.{Held, state}
use Rattle.sqlite.specs.Order.{Row as Columns}
use Rattle.sqlite.specs.State.{State, HasCleanDisk, Survives, Shows, ExecutesInside, KeepsCommit, IsUnchanged, IsRolledBack}
use Rattle.sqlite.proofs.StateLemmas.{survives_then}
use Rattle.sqlite.proofs.Callers.{survives_begin}
use Rattle.ledger_spec.specs.Tables.{Tables}
use Rattle.shop_tables.specs.Stored.{Hold}
use Rattle.shop_tables.specs.Telling.{Has, Tells, Stays}

-- what holds where something went well
pub on_ok : {A E : Type 0} {P Q : Type 0} (result : Result A E) → (P → Q) → OnOk result P → OnOk result Q
on_ok (Ok a) gives p = gives p
on_ok (Err e) gives p = tt

-- what holds where something failed
pub on_fault : {A E : Type 0} {P Q : Type 0} (result : Result A E) → (P → Q) → OnErr result P → OnErr result Q
on_fault (Ok a) gives p = tt
on_fault (Err e) gives p = gives p

-- What stands in the database as it is committed is told.
pub tells_after : (last end : State) (tables : Tables) → Shows last end last.now last.now false → Has last.now tables → Tells end tables
tells_after last end tables shows has = record {
  is_open = shows.is_open;
  mode = shows.mode;
  settled = shows.now_is ∙ sym shows.committed_is;
  schema = ap (λ (d : Database). d.schema) shows.now_is ∙ has.0;
  hold = subst (λ (d : Database). Hold d.trees tables) (sym shows.now_is) has.1;
}

module _ {S : Type 0} (g : store.Ghosts S) (old last end : Held S) (P : Trees → Type 0)
    (inside : Survives (state g (record old { in_transaction = true })) (state g last) (λ _. ⊥)) (commit : Survives (state g last) (state g end) (λ db. db ≡ (state g last).now.trees)) where
  -- A crash leaves what it would have left before the transaction, or what stands in it at its end.
  pub survives_all : (HasCleanDisk (state g last) → P (state g last).now.trees) → Survives (state g old) (state g end) P
  survives_all ran =
      survives_then (state g old) (state g last) (state g end) (λ _. ⊥) (λ db. db ≡ (state g last).now.trees) P (λ _ db none. absurd none)
      (λ clean db is. subst P (sym is) (ran (omega (arith, clean, commit.clean)))) (survives_begin g old (state g last) (λ _. ⊥) inside) commit

-- Two statements in a transaction.
pub survives_both : (begun mid last : State) → Survives begun mid (λ _. ⊥) → Survives mid last (λ _. ⊥) → Survives begun last (λ _. ⊥)
survives_both begun mid last one two = survives_then begun mid last (λ _. ⊥) (λ _. ⊥) (λ _. ⊥) (λ _ db none. none) (λ _ db none. none) one two

-- ---- what a refused statement leaves, once its transaction is given up

keeps_unchanged : (old new : State) → IsUnchanged old new → KeepsCommit old new
keeps_unchanged old new same = record { was_open = λ _. same.0.was_open; committed = λ _. same.0.committed_is }

keeps_rolled_back : (old new : State) → IsRolledBack old new → KeepsCommit old new
keeps_rolled_back old new back = record { was_open = back.was_open; committed = λ opened. (back.undone opened).1 }

-- a statement in a transaction commits nothing
pub keeps_commit : (sql : List ℕ) (params : Columns) (old new : State) (result : Result ℕ Error) → ExecutesInside 0 sql params old new result → KeepsCommit old new
keeps_commit sql params old new (Ok n) ran = record { was_open = λ _. ran.1.was_open; committed = λ _. ran.1.committed_is }
keeps_commit sql params old new (Err e) (inl ran) = elim ran.1 [ inl same ↦ keeps_unchanged old new same | inr back ↦ keeps_rolled_back old new back ]
keeps_commit sql params old new (Err e) (inr ended) = keeps_unchanged old new ended.2

pub keeps_then : (a b c : State) → KeepsCommit a b → KeepsCommit b c → KeepsCommit a c
keeps_then a b c one two = record { was_open = λ opened. one.was_open (two.was_open opened); committed = λ opened. two.committed opened ∙ one.committed (two.was_open opened) }

-- Given up, the transaction leaves what was told before it.
pub stays_given_up : (old last end : State) → KeepsCommit old last → IsRolledBack last end → Stays old end
stays_given_up old last end kept back opened tables tells =
    let committed : last.committed ≡ old.committed = kept.committed (back.was_open opened) in
    let now : end.now ≡ old.now = (back.undone opened).0 ∙ (committed ∙ sym tells.settled) in
    record {
      is_open = opened;
      mode = back.autocommit;
      settled = (back.undone opened).0 ∙ sym (back.undone opened).1;
      schema = ap (λ (d : Database). d.schema) now ∙ tells.schema;
      hold = subst (λ (d : Database). Hold d.trees tables) (sym now) tells.hold;
    }

-- where something failed
pub on_err : {A E : Type 0} {P : Type 0} (result : Result A E) → P → OnErr result P
on_err (Ok a) p = tt
on_err (Err e) p = p

-- To begin a transaction commits nothing.
pub keeps_begun : {S : Type 0} (g : store.Ghosts S) (old : Held S) (last : State) → KeepsCommit (state g (record old { in_transaction = true })) last → KeepsCommit (state g old) last
keeps_begun g old last kept = record { was_open = kept.was_open; committed = kept.committed }
