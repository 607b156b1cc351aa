-- One row more of those that a check has looked at.
use Rattle.std.proofs.Common.{◌≡◌, ℕ, suc, ◌+◌, ◌-◌, ◌^◌, ◌<◌, List, [], ◌∷◌, ◌++◌, length, get_or, take, min, Option, Some, None, sym, ap, subst, ◌∙◌, arith}
use Rattle.std.specs.Prelude.{IfSome}
use Rattle.std.specs.List.{flat_map}
use Rattle.std.proofs.Math.Seq.{take-suc}
use Rattle.std.proofs.lemmas.List.Sums.{sum_by_push}
use Rattle.std.proofs.lemmas.List.{flat_map_more}
use Rattle.ledger_spec.specs.declared.Row.{Row}
use Rattle.ledger_spec.specs.Tables.{Tables}
use Rattle.ledger_spec.specs.Replay.{orders_back}
use Rattle.table_flaws.specs.declared.flaw.Flaw.{Flaw}
use Rattle.table_flaws.specs.Flaws.{row_flaws}
use Rattle.table_flaws.specs.Found.{order_count}

-- what follows for any tables follows for those that a keeper tells
if_told : (P Q R : Tables → Type 0) → ((t : Tables) → P t → Q t → R t) → (o : Option Tables) → IfSome o P → IfSome o Q → IfSome o R
if_told P Q R goes None one two = tt
if_told P Q R goes (Some t) one two = goes t one two

module _ (rows : List Row) (i j : ℕ) (row : Row) (same : j ≡ suc i) (within : i < length rows) (is : row ≡ get_or rows i row) (old now : Option Tables) (unchanged : now ≡ old) where
  here : take j rows ≡ take i rows ++ row ∷ []
  here = ap (λ n. take n rows) same ∙ take-suc rows i row within ∙ ap (λ (r : Row). take i rows ++ r ∷ []) (sym is)

  one_counted : (before after : ℕ) (t : Tables) → before ≡ min (order_count t (take i rows)) (2 ^ 64 - 1)
      → after ≡ min (before + length (orders_back t row.serial)) (2 ^ 64 - 1) → after ≡ min (order_count t (take j rows)) (2 ^ 64 - 1)
  one_counted before after t was more =
      let sum : order_count t (take j rows) ≡ order_count t (take i rows) + length (orders_back t row.serial) =
      ap (λ (rs : List Row). order_count t rs) here ∙ sum_by_push (λ (r : Row). length (orders_back t r.serial)) (take i rows) row in
      omega (arith, sum, was, more)

  -- how many orders they have
  pub orders_more : (before after : ℕ) → IfSome old (λ t. before ≡ min (order_count t (take i rows)) (2 ^ 64 - 1))
      → IfSome now (λ t. after ≡ min (before + length (orders_back t row.serial)) (2 ^ 64 - 1))
      → IfSome old (λ t. after ≡ min (order_count t (take j rows)) (2 ^ 64 - 1))
  orders_more before after was more =
      if_told (λ t. before ≡ min (order_count t (take i rows)) (2 ^ 64 - 1)) (λ t. after ≡ min (before + length (orders_back t row.serial)) (2 ^ 64 - 1))
      (λ t. after ≡ min (order_count t (take j rows)) (2 ^ 64 - 1)) (one_counted before after) old was
      (subst (λ (o : Option Tables). IfSome o (λ t. after ≡ min (before + length (orders_back t row.serial)) (2 ^ 64 - 1))) unchanged more)

  one_listed : (next : List ℕ → ℕ → ℕ) (before after : List Flaw) (t : Tables) → before ≡ flat_map (row_flaws next t) (take i rows)
      → after ≡ before ++ row_flaws next t row → after ≡ flat_map (row_flaws next t) (take j rows)
  one_listed next before after t was more =
      more ∙ ap (λ (fs : List Flaw). fs ++ row_flaws next t row) was
      ∙ flat_map_more (row_flaws next t) [] (take i rows) row
      ∙ sym (ap (λ (rs : List Row). flat_map (row_flaws next t) rs) here)

  -- and what is wrong with them
  pub flaws_more : (next : List ℕ → ℕ → ℕ) (before after : List Flaw) → IfSome old (λ t. before ≡ flat_map (row_flaws next t) (take i rows))
      → IfSome now (λ t. after ≡ before ++ row_flaws next t row)
      → IfSome old (λ t. after ≡ flat_map (row_flaws next t) (take j rows))
  flaws_more next before after was more =
      if_told (λ t. before ≡ flat_map (row_flaws next t) (take i rows)) (λ t. after ≡ before ++ row_flaws next t row)
      (λ t. after ≡ flat_map (row_flaws next t) (take j rows)) (one_listed next before after) old was
      (subst (λ (o : Option Tables). IfSome o (λ t. after ≡ before ++ row_flaws next t row)) unchanged more)
