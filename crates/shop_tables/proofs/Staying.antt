-- What a statement that asks leaves.
use Rattle.std.proofs.Common.{◌≡◌, inl, inr, ℕ, List, Ok, Err, Result, IfOk, IfErr, OnOk, OnErr, IsTrue, sym, ap, subst, ◌∙◌}
use Rattle.sqlite.specs.Order.{Row as Columns}
use Rattle.sqlite.specs.Tree.{Trees}
use Rattle.sqlite.specs.Effect.{Database}
use Rattle.sqlite.specs.declared.error.Error.{Error}
use Rattle.sqlite.specs.Listing.{understood}
use Rattle.sqlite.specs.State.{State, Survives, IsUnchanged, IsRolledBack, IsNotRun, FailsToQuery, FailsToShow, Shown, ShowsRows, CommitsShowing}
use Rattle.sqlite.proofs.Callers.{IsPlain, never_commits}
use Rattle.ledger_spec.specs.Tables.{Tables}
use Rattle.shop_tables.specs.Schema.{shop_schema}
use Rattle.shop_tables.specs.Stored.{Hold}
use Rattle.shop_tables.specs.Telling.{Tells, StillTells, Stays, WritesNothing}

pub tells_unchanged : (old new : State) (tables : Tables) → IsUnchanged old new → Tells old tables → Tells new tables
tells_unchanged old new tables same tells = record {
  is_open = same.0.is_open;
  mode = same.0.mode ∙ tells.mode;
  settled = same.0.now_is ∙ (tells.settled ∙ sym same.0.committed_is);
  schema = ap (λ (d : Database). d.schema) same.0.now_is ∙ tells.schema;
  hold = subst (λ (d : Database). Hold d.trees tables) (sym same.0.now_is) tells.hold;
}

pub tells_rolled_back : (old new : State) (tables : Tables) → IsRolledBack old new → IsTrue new.is_open → Tells old tables → Tells new tables
tells_rolled_back old new tables back opened tells =
    let now : new.now ≡ old.now = (back.undone opened).0 ∙ sym tells.settled in
    record {
      is_open = opened;
      mode = back.autocommit;
      settled = (back.undone opened).0 ∙ sym (back.undone opened).1;
      schema = ap (λ (d : Database). d.schema) now ∙ tells.schema;
      hold = subst (λ (d : Database). Hold d.trees tables) (sym now) tells.hold;
    }

module _ (sql : List ℕ) (plain : IsPlain (understood shop_schema sql)) (params : Columns) (old new : State) (tables : Tables) (tells : Tells old tables) where
  plain_here : IsPlain (understood old.now.schema sql)
  plain_here = subst (λ s. IsPlain (understood s sql)) (sym tells.schema) plain

  -- an answer changes nothing
  pub shown_stays : (rows : List Columns) → Shown sql params old new rows → Tells new tables
  unfolding Shown
  shown_stays rows h =
      let none = (subst IsPlain h.1.is plain_here).0 in
      tells_unchanged old new tables (subst (ShowsRows old new sql h.0 _ rows) none h.2).3 tells

  -- nor does a refusal, or a failure that leaves the connection open
  pub refused_stays : (e : Error) → FailsToQuery sql params old new e → IsTrue new.is_open → Tells new tables
  unfolding FailsToQuery IsNotRun
  refused_stays e (inl (inl unfit)) opened = tells_unchanged old new tables unfit.1 tells
  refused_stays e (inl (inr fails)) opened = tells_rolled_back old new tables fails.3 opened tells
  refused_stays e (inr (c, it, fails)) opened =
      let none = (subst IsPlain it.is plain_here).0 in
      tells_unchanged old new tables (subst (FailsToShow old new sql c _ e) none fails).3 tells

pub survives_as : (old new : State) (P Q : Trees → Type 0) → ((db : Trees) → P db → Q db) → Survives old new P → Survives old new Q
survives_as old new P Q gives s = record {
  clean = s.clean;
  shield = s.shield;
  counts = s.counts;
  limit = s.limit;
  closes = s.closes;
  crash = λ clean db may. elim (s.crash clean db may) [ inl before ↦ inl before | inr commits ↦ inr (gives db commits) ];
}

-- it commits nothing
pub asks_only : (sql : List ℕ) → IsPlain (understood shop_schema sql) → (params : Columns) (old new : State) → Survives old new (CommitsShowing sql params old) → WritesNothing old new
asks_only sql plain params old new s =
    survives_as old new (CommitsShowing sql params old) (λ _. (tables : Tables) → Tells old tables → ⊥)
    (λ db commits tables tells. never_commits sql params old db (subst (λ s. IsPlain (understood s sql)) (sym tells.schema) plain) commits) s

module _ {X : Type 0} (items : X → List Columns) (sql : List ℕ) (plain : IsPlain (understood shop_schema sql)) (params : Columns) (old new : State) where
  -- A statement that asks and answers leaves what was told.
  pub asks_still : (result : Result X Error) → IfOk result (λ rows. Shown sql params old new (items rows)) → OnOk result (StillTells old new)
  asks_still (Ok rows) shown = λ tables tells. shown_stays sql plain params old new tables tells (items rows) shown
  asks_still (Err e) shown = tt

  -- So does one that is refused, as long as the connection is open.
  pub asks_stays : (result : Result X Error) → IfErr result (FailsToQuery sql params old new) → OnErr result (Stays old new)
  asks_stays (Ok rows) fails = tt
  asks_stays (Err e) fails = λ opened tables tells. refused_stays sql plain params old new tables tells e fails opened

-- what follows from an answer
pub if_ok : {A E : Type 0} {P Q : A → Type 0} (result : Result A E) → ((a : A) → P a → Q a) → IfOk result P → IfOk result Q
if_ok (Ok a) gives p = gives a p
if_ok (Err e) gives p = tt
