-- What a statement finds that asks a table for the rows of a serial.
use Rattle.std.proofs.Common.{◌≡◌, ℕ, Bool, cond, ◌&&◌, true, List, [], ◌∷◌, map, filter, ap, ◌∙◌}
use Rattle.std.specs.List.{flat_map}
use Rattle.std.specs.Prelude.{reverse}
use Rattle.sqlite_value.specs.Order.{column}
use Rattle.sqlite_keyed.proofs.ListLemmas.{map-map, map_same}
use Rattle.sqlite.specs.declared.types.Value.TheVariants.{Text}
use Rattle.sqlite.specs.Order.{Row as Columns}
use Rattle.sqlite.specs.Ops.{binary, is_true}
use Rattle.sqlite_sql.specs.declared.ops.BinaryOp.TheVariants.{Compare}
use Rattle.sqlite_sql.specs.declared.ops.CompareOp.TheVariants.{Eq}
use Rattle.sqlite.specs.Collation.TheVariants.{Binary}
use Rattle.sqlite.specs.Term.{Env}
use Rattle.sqlite.specs.Query.{Query, matches, output, Output, inner, end}
use Rattle.sqlite.specs.Program.{overlay}
use Rattle.sqlite.specs.Tree.{Trees}
use Rattle.ledger_spec.specs.Names.{same_name}
use Rattle.shop_tables.specs.Stored.{count, stored_by, raised_columns}
use Rattle.shop_tables.proofs.Finding.{hits, found_in, same_text}
use Rattle.shop_tables.proofs.Raised.{and_true}
use Rattle.shop_tables.proofs.ListingShown.{hits_as, map_reverse}
use Rattle.shop_tables.proofs.ListingStatements.{of_given}

module _ {X : Type 0} (columns : X → Columns) (serial_of : X → List ℕ) (place : ℕ) (stands : (n : ℕ) (x : X) → column (count n ∷ columns x) place ≡ Text (serial_of x)) (serial : List ℕ) where
  -- what the search sees of a row with its number
  abbrev pub seen : ℕ × X → Env
  seen h = raised_columns serial ∷ (count h.0 ∷ columns h.1) ∷ []

  abbrev pub is_of : X → Bool
  is_of x = same_name (serial_of x) serial

  module _ (db : Trees) where
    abbrev find_in : Columns → List Env
    find_in r = matches (overlay db []) (of_given place) end (raised_columns serial ∷ r ∷ [])

    each : (n : ℕ) (x : X) → find_in (count n ∷ columns x) ≡ cond (is_of x) (seen (n, x) ∷ []) []
    each n x =
        let env : Env = seen (n, x) in
        ap (λ v. cond (is_true (binary (Compare Eq Binary) v (Text serial)) && true) (env ∷ []) []) (stands n x)
        ∙ ap (λ t. cond (t && true) (env ∷ []) []) (same_text (serial_of x) serial)
        ∙ ap (λ t. cond t (env ∷ []) []) (and_true (is_of x))

    pub asked_in : (tree : ℕ) (xs : List X) → overlay db [] tree ≡ stored_by columns xs → matches (overlay db []) (of_given place) (inner tree end) (raised_columns serial ∷ []) ≡ reverse (map seen (hits is_of xs))
    asked_in tree xs holds = ap (flat_map find_in) holds ∙ found_in columns find_in is_of (λ n x. seen (n, x)) each xs

-- what is shown of hits, by what is shown of each
module _ {X : Type 0} (q : Query) (seen : ℕ × X → Env) (test : X → Bool) where
  pub hits_shown : (out : ℕ × X → Output) → ((h : ℕ × X) → output q (seen h) ≡ out h) → (xs : List X) → map (output q) (reverse (map seen (hits test xs))) ≡ reverse (map out (hits test xs))
  hits_shown out shows xs = map_reverse (output q) (map seen (hits test xs)) ∙ ap reverse (map-map (output q) seen (hits test xs) ∙ map_same (λ h. output q (seen h)) out shows (hits test xs))

  pub all_shown : (out : X → Output) → ((h : ℕ × X) → output q (seen h) ≡ out h.1) → (xs : List X) → map (output q) (reverse (map seen (hits test xs))) ≡ reverse (map out (filter test xs))
  all_shown out shows xs = hits_shown (λ h. out h.1) shows xs ∙ ap reverse (hits_as test out xs)
