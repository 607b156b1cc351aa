-- A new row stands behind those of its table.
use Rattle.std.proofs.Common.{◌≡◌, ℕ, suc, ◌<◌, pos, List, [], ◌∷◌, ◌++◌, length, refl, ap, ◌∙◌, arith}
use Rattle.std.specs.List.{AllByRecursion}
use Rattle.std.specs.Ordering.{int_cmp}
use Rattle.std.proofs.lemmas.Bool.Decides.{nat_tests}
use Rattle.std.specs.declared.cmp.Ordering.TheVariants.{Less}
use Rattle.std.proofs.lemmas.List.Sums.{fold-append}
use Rattle.sqlite_value.proofs.OrderLemmas.{value_cmp-Int}
use Rattle.sqlite_value.specs.Order.{value_cmp}
use Rattle.sqlite_trees.proofs.ListLemmas.{all-append}
use Rattle.sqlite.specs.declared.types.Value.TheVariants.{Int}
use Rattle.sqlite.specs.Order.{Row as Columns}
use Rattle.sqlite.specs.Edit.{next_rowid}
use Rattle.sqlite.specs.Tree.{put_row, rowid}
use Rattle.shop_tables.specs.Stored.{count, stored_by}

numbers : (a b : ℕ) → a < b → int_cmp (pos a) (pos b) ≡ Less
numbers a b h = grind (arith, nat_tests)

pub less : (a b : ℕ) → a < b → value_cmp (count a) (count b) ≡ Less
less a b h = value_cmp-Int (pos a) (pos b) ∙ numbers a b h

-- behind rows with lower numbers
pub behind : (new : Columns) (rows : List Columns) → AllByRecursion (λ r. value_cmp (rowid r) (rowid new) ≡ Less) rows → put_row new rows ≡ rows ++ new ∷ []
behind new [] below = refl
behind new (r ∷ rows) below = rw below.0 (ap (λ l. r ∷ l) (behind new rows below.1))

module _ {X : Type 0} (columns : X → Columns) where
  pub below : (xs : List X) (n : ℕ) → length xs < n → AllByRecursion (λ r. value_cmp (rowid r) (count n) ≡ Less) (stored_by columns xs)
  below [] n h = tt
  below (x ∷ xs) n h = all-append (λ r. value_cmp (rowid r) (count n) ≡ Less) (stored_by columns xs) _ (below xs n (omega (arith, h))) (less (suc (length xs)) n h, tt)

  pub next_number : (xs : List X) → next_rowid (stored_by columns xs) ≡ pos (suc (length xs))
  next_number [] = refl
  next_number (x ∷ xs) = fold-append _ (pos 1) (stored_by columns xs) _ ∙ ap pos (omega arith)

  -- what an INSERT puts in is the new row behind the others
  pub pushed : (xs : List X) (x : X) → put_row (Int (next_rowid (stored_by columns xs)) ∷ columns x) (stored_by columns xs) ≡ stored_by columns (x ∷ xs)
  pushed xs x = rw (next_number xs) (behind (count (suc (length xs)) ∷ columns x) (stored_by columns xs) (below xs (suc (length xs)) (omega arith)))
