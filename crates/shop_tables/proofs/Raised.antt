-- Whether a serial is among the raised ones, as a subquery counts it.
use Rattle.std.proofs.Common.{length, min, ◌≡◌, ℕ, suc, pos, List, [], ◌∷◌, Bool, true, false, cond, ◌&&◌, ◌||◌, refl, ap, ◌∙◌, arith}
use Rattle.std.specs.List.{list_any, flat_map}
use Rattle.std.proofs.lemmas.List.{length-map, length-reverse}
use Rattle.sqlite_value.proofs.OrderLemmas.{value_cmp-Int}
use Rattle.sqlite.specs.Order.{Row as Columns}
use Rattle.sqlite.specs.Ops.{binary, is_true}
use Rattle.sqlite_sql.specs.declared.ops.BinaryOp.TheVariants.{Compare}
use Rattle.sqlite_sql.specs.declared.ops.CompareOp.TheVariants.{Eq}
use Rattle.sqlite.specs.Collation.TheVariants.{Binary}
use Rattle.ledger_spec.specs.Names.{same_name}
use Rattle.shop_tables.specs.Stored.{count, flag, stored_by, raised_columns}
use Rattle.shop_tables.proofs.Finding.{hits, found_in}

pub and_true : (a : Bool) → (a && true) ≡ a
and_true true = refl
and_true false = refl

-- one at most, if there is any
some_hit : {X : Type 0} (test : X → Bool) (xs : List X) → min 1 (length (hits test xs)) ≡ cond (list_any test xs) 1 0
some_hit test [] = refl
some_hit test (x ∷ xs) = (elim (test x) as (λ t. min 1 (length (cond t ((suc (length xs), x) ∷ hits test xs) (hits test xs))) ≡ cond (t || list_any test xs) 1 0) [
  | true ↦ omega arith
  | false ↦ some_hit test xs
])

module _ {A : Type 0} (serial : List ℕ) (find_in : Columns → List A) (shown : ℕ → List ℕ → A)
    (each : (n : ℕ) (s : List ℕ) → find_in (count n ∷ raised_columns s) ≡ cond (same_name s serial) (shown n s ∷ []) []) where
  pub raised_or_not : (serials : List (List ℕ)) → min 1 (length (flat_map find_in (stored_by raised_columns serials))) ≡ cond (list_any (λ s. same_name s serial) serials) 1 0
  raised_or_not serials =
      ap (λ l. min 1 (length l)) (found_in raised_columns find_in (λ s. same_name s serial) shown each serials)
      ∙ ap (min 1) (length-reverse _ ∙ length-map _ _) ∙ some_hit (λ s. same_name s serial) serials

-- two flags that a comparison finds equal
pub agree : (a b : Bool) → is_true (binary (Compare Eq Binary) (count (cond a 1 0)) (flag b)) ≡ cond a b (cond b false true)
unfolding binary
agree true true = rw (value_cmp-Int (pos 1) (pos 1)) refl
agree true false = rw (value_cmp-Int (pos 1) (pos 0)) refl
agree false true = rw (value_cmp-Int (pos 0) (pos 1)) refl
agree false false = rw (value_cmp-Int (pos 0) (pos 0)) refl
