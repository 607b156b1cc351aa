-- What an INSERT of one row makes of the shop's tables.
use Rattle.std.proofs.Common.{◌≡◌, ◌≢◌, ◌⊎◌, inl, inr, ℕ, ◌/◌, pos, List, [], ◌∷◌, length, Bool, true, false, cond, Some, None, Option, Ok, Err, Result, refl, sym, ap, subst, ◌∙◌, append-nil}
use Rattle.std.specs.List.{AllByRecursion}
use Rattle.sqlite.specs.declared.types.Value.{Value}
use Rattle.sqlite.specs.declared.types.Value.TheVariants.{Null, Int}
use Rattle.sqlite.specs.Order.{Row as Columns}
use Rattle.sqlite.specs.Term.{Term}
use Rattle.sqlite.specs.Ops.{unary}
use Rattle.sqlite.specs.Table.{Table}
use Rattle.sqlite.specs.Kind.TheVariants.{Integer}
use Rattle.sqlite.specs.Source.TheVariants.{Values}
use Rattle.sqlite.specs.Command.TheVariants.{Insert}
use Rattle.sqlite.specs.Edit.{edit_of, next_rowid, put_all}
use Rattle.sqlite.specs.Cast.{cast, cast_all}
use Rattle.sqlite.specs.Rowids.TheVariants.{Chosen}
use Rattle.sqlite.specs.Does.{Tally, OnRows}
use Rattle.sqlite.specs.Rows.{Written}
use Rattle.sqlite.specs.Tree.{Trees, put_row}
use Rattle.sqlite_rules.specs.Action.{works}
use Rattle.sqlite_schema.specs.declared.schema.Keys.TheVariants.{Enforced}
use Rattle.sqlite_schema.specs.declared.schema.Column.{Column}
use Rattle.sqlite_schema.specs.declared.schema.Reference.{Reference}
use Rattle.sqlite.specs.Effect.{Database, value_rows}
use Rattle.sqlite.specs.declared.run.Mode.{Mode}
use Rattle.sqlite.proofs.Callers.{one_step}
use Rattle.shop_tables.specs.Schema.{keyed, shop_schema}

either : (b : Bool) (x : Value) → cond b x x ≡ x
either true x = refl
either false x = refl

pub cast_null : cast Integer Null ≡ Null
unfolding unary
cast_null = either _ Null

pub cast_number : (n : ℕ) → cast Integer (Int (pos n)) ≡ Int (pos n)
unfolding unary
cast_number n = either _ (Int (pos n))

-- a part that gave a value did not stop on the way
pub went : {B E R : Type 0} {b : B} {Stops : E → Type 0} → ((stop : E) × Stops stop × (Ok b ≡ Err stop)) ⊎ R → R
went (inl stopped) = absurd (let e = stopped.2 in cc)
went (inr on) = on

pub same_value : {B E : Type 0} {a b : B} → ◌≡◌ {A = Result B E} (Ok a) (Ok b) → a ≡ b
same_value e = cc

-- One tree of a shop's table has a new row, and the other tables are as they were.
pub record Puts (tree : ℕ) (row : Columns) (old new : Database) : Type 0 where
  pub schema : new.schema ≡ shop_schema
  pub rows : new.trees tree ≡ put_row row (old.trees tree)
  pub others : AllByRecursion (λ t. t.tree ≢ tree → new.trees t.tree ≡ old.trees t.tree) shop_schema.tables

module _ (name : List ℕ) (tree : ℕ) (columns : List Column) (key : List ℕ) (references : List Reference) where
  abbrev table : Table
  table = keyed name tree columns key references

  pub inserted : (limit : Option ℕ) (mode : Mode) (at width : ℕ) (terms : List Term) (params values : Columns) (db : Trees) (tally : Tally) (after : Database)
      → value_rows params width (length terms / width) terms ≡ (Null ∷ values) ∷ []
      → cast_all columns values ≡ values
      → ((row : Columns) → works shop_schema Enforced 0 tree [] (row ∷ []) ≡ [])
      → OnRows (record { limit = limit; keys = Enforced; schema = shop_schema; table = table; params = params }) mode None (Insert at (Values terms width)) db (Ok (tally, after))
      → Puts tree (Int (next_rowid (db tree)) ∷ values) (record { schema = shop_schema; trees = db }) after × (tally.rows ≡ Some 1)
  inserted limit mode at width terms params values db tally after source same none h =
      let done = went h in
      let said = same_value (went (went done.2).2).2 in
      let given = went done.1 in
      let written = went (went given.2).2 in
      let counted = went written.2 in
      let put = same_value counted.2 in
      let row : Columns = Int (next_rowid (db tree)) ∷ values in
      let sourced : given.0 ≡ (Null ∷ values) ∷ [] = given.1.1 ∙ (ap (λ p. value_rows p width (length terms / width) terms) (append-nil params) ∙ source) in
      let news : (edit_of db table [] Chosen 0 given.0).news ≡ row ∷ [] = ap (λ all. (edit_of db table [] Chosen 0 all).news) sourced ∙ rw (cast_null, same) refl in
      let applied = one_step shop_schema Enforced db written.0 (edit_of db table [] Chosen 0 given.0) (rw news (none row)) written.1 in
      let trees : done.0.trees ≡ written.0 = ap (λ (it : Written). it.trees) put ∙ same_value counted.1 in
      let now : after.trees ≡ written.0 = ap (λ (p : Tally × Database). p.1.trees) said ∙ trees in (
        record {
          schema = ap (λ (p : Tally × Database). p.1.schema) said;
          rows = ap (λ (t : Trees). t tree) now ∙ (applied.rows ∙ ap (put_all (db tree)) news);
          others = subst (λ (t : Trees). AllByRecursion (λ (other : Table). other.tree ≢ tree → t other.tree ≡ db other.tree) shop_schema.tables) (sym now) applied.tables;
        },
        ap (λ (p : Tally × Database). p.0.rows) said ∙ ap (λ (w : Written). Some (length w.rows)) put ∙ ap (λ (all : List Columns). Some (length all)) news,
      )
