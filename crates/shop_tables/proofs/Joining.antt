-- What the statement shows that asks for an order with the row of its device.
use Rattle.std.proofs.Common.{length, min, ◌≡◌, ℕ, suc, List, [], ◌∷◌, ◌++◌, map, filter, Bool, true, false, cond, ◌&&◌, Some, None, refl, sym, ap, subst, ◌∙◌, append-nil}
use Rattle.std.specs.List.{flat_map, list_all}
use Rattle.std.specs.Prelude.{reverse, find}
use Rattle.std.specs.List.Sorted.{IsPermutation}
use Rattle.std.proofs.lemmas.List.Concat.{flat_map-append}
use Rattle.std.proofs.lemmas.List.Sorted.{length_permutation}
use Rattle.sqlite.specs.declared.types.Value.TheVariants.{Null}
use Rattle.sqlite.specs.Order.{Row as Columns}
use Rattle.sqlite.specs.Term.{Env, col, holds}
use Rattle.sqlite.specs.Query.{IsAnswer, matches, output, page, Output, end, or_nulls}
use Rattle.sqlite.specs.Program.{overlay}
use Rattle.sqlite.specs.Tree.{Trees}
use Rattle.sqlite.specs.Command.TheVariants.{Select}
use Rattle.sqlite_schema.specs.declared.program.Program.{Program}
use Rattle.sqlite.specs.State.{State, Shown}
use Rattle.sqlite.proofs.Callers.{reads_as, one_permutation}
use Rattle.ledger_spec.specs.declared.Row.{Row}
use Rattle.ledger_spec.specs.declared.Order.{Order}
use Rattle.ledger_spec.specs.Names.{same_name}
use Rattle.ledger_spec.specs.Tables.{has_serial, has_id, row_in, order_in, AreRows, AreOrders}
use Rattle.ledger_spec.proofs.NameLemmas.{same_is}
use Rattle.shop_tables.specs.Schema.{shop_schema, device_tree, order_tree, raised_tree}
use Rattle.shop_tables.specs.Stored.{count, stored_by, device_columns, order_columns, raised_columns}
use Rattle.shop_tables.specs.declared.statements.TheConstants.{ORDER}
use Rattle.shop_tables.proofs.Commands.{same}
use Rattle.shop_tables.proofs.JoiningStatement.{order_query, order_names, order_flag, order_rows, order_is, order_plain, order_unlisted}
use Rattle.shop_tables.proofs.Finding.{hits, found_in, same_text, one_hit}
use Rattle.shop_tables.proofs.Raised.{raised_or_not, and_true}
use Rattle.shop_tables.proofs.Putting.{nothing_left}
use Rattle.shop_tables.proofs.Asking.{is_among, given}

-- no element passes the test
pub no_hit : {X : Type 0} (test : X → Bool) (xs : List X) → find test xs ≡ None → hits test xs ≡ []
no_hit test [] none = refl
no_hit test (x ∷ xs) none = (elim (test x) as (λ t. cond t (Some x) (find test xs) ≡ None → cond t ((suc (length xs), x) ∷ hits test xs) (hits test xs) ≡ []) [
  | true ↦ λ bad. absurd (let e : Some x ≡ None = bad in cc)
  | false ↦ λ none. no_hit test xs none
]) none

-- one order has the id
pub one_order : (rows : List Row) (orders : List Order) (id : List ℕ) (order : Order) → AreOrders rows orders → order_in orders id ≡ Some order → (n : ℕ) × (hits (has_id id) orders ≡ (n, order) ∷ [])
one_order rows [] id order are is = absurd (let e : None ≡ Some order = is in cc)
one_order rows (first ∷ orders) id order are is = (elim (same_name first.id id) as (λ t. same_name first.id id ≡ t → cond t (Some first) (order_in orders id) ≡ Some order
    → (n : ℕ) × (cond t ((suc (length orders), first) ∷ hits (has_id id) orders) (hits (has_id id) orders) ≡ (n, order) ∷ [])) [
      | true ↦ λ same found.
          let one : first ≡ order = cc in
          let others : order_in orders id ≡ None = ap (order_in orders) (sym (same_is first.id id same)) ∙ are.1 in
          (suc (length orders), rw (no_hit (has_id id) orders others, one) refl)
      | false ↦ λ other found. one_order rows orders id order are.3 found
    ]) refl is

-- a search that finds nothing where the test fails
module _ {X : Type 0} {A : Type 0} (columns : X → Columns) (find_in : Columns → List A) (test : X → Bool)
    (other : (n : ℕ) (x : X) → test x ≡ false → find_in (count n ∷ columns x) ≡ []) where
  -- finds nothing where no element passes
  pub found_none : (xs : List X) → hits test xs ≡ [] → flat_map find_in (stored_by columns xs) ≡ []
  found_none [] none = refl
  found_none (x ∷ xs) none = (elim (test x) as (λ t. test x ≡ t → cond t ((suc (length xs), x) ∷ hits test xs) (hits test xs) ≡ [] → flat_map find_in (stored_by columns (x ∷ xs)) ≡ []) [
    | true ↦ λ is bad. absurd (let e : (suc (length xs), x) ∷ hits test xs ≡ [] = bad in cc)
    | false ↦ λ is none. flat_map-append find_in (stored_by columns xs) _ ∙ rw (found_none xs none, append-nil (find_in (count (suc (length xs)) ∷ columns x))) (other (suc (length xs)) x is)
  ]) refl none

  -- and what it finds at the one that passes
  pub found_one : (xs : List X) (n : ℕ) (x : X) → hits test xs ≡ (n, x) ∷ [] → flat_map find_in (stored_by columns xs) ≡ find_in (count n ∷ columns x)
  found_one [] n x one = absurd (let e : [] ≡ (n, x) ∷ [] = one in cc)
  found_one (y ∷ ys) n x one = (elim (test y) as (λ t. test y ≡ t → cond t ((suc (length ys), y) ∷ hits test ys) (hits test ys) ≡ (n, x) ∷ []
      → flat_map find_in (stored_by columns (y ∷ ys)) ≡ find_in (count n ∷ columns x)) [
        | true ↦ λ is one.
            let rest : hits test ys ≡ [] = cc in
            let pair : (suc (length ys), y) ≡ (n, x) = cc in
            let place : suc (length ys) ≡ n = ap (λ (h : ℕ × X). h.0) pair in
            let at : y ≡ x = ap (λ (h : ℕ × X). h.1) pair in
            flat_map-append find_in (stored_by columns ys) _ ∙ rw (found_none ys rest, append-nil (find_in (count (suc (length ys)) ∷ columns y)), place, at) refl
        | false ↦ λ is one.
            flat_map-append find_in (stored_by columns ys) _
            ∙ rw (found_one ys n x one, append-nil (find_in (count (suc (length ys)) ∷ columns y)), other (suc (length ys)) y is) (append-nil _)
      ]) refl one

-- a filter is a search
filter_is : {X : Type 0} (test : X → Bool) (xs : List X) → filter test xs ≡ flat_map (λ x. cond (test x) (x ∷ []) []) xs
filter_is test [] = refl
filter_is test (x ∷ xs) = elim (test x) as (λ t. cond t (x ∷ filter test xs) (filter test xs) ≡ cond t (x ∷ []) [] ++ flat_map (λ y. cond (test y) (y ∷ []) []) xs) [
  | true ↦ ap (λ l. x ∷ l) (filter_is test xs)
  | false ↦ filter_is test xs
]

-- where nothing is found anywhere
nowhere : {X A : Type 0} (find_in : X → List A) (xs : List X) → ((x : X) → find_in x ≡ []) → flat_map find_in xs ≡ []
nowhere find_in [] none = refl
nowhere find_in (x ∷ xs) none = rw (none x, nowhere find_in xs none) refl

module _ (id : List ℕ) (db : Trees) (serials : List (List ℕ)) (raised : db raised_tree ≡ stored_by raised_columns serials) where
  -- what the search sees of an order and a row
  abbrev pub seen : Columns → Columns → List ℕ → Env
  seen o d serial = given id ∷ o ∷ d ∷ (count (cond (is_among serials serial) 1 0) ∷ []) ∷ []

  -- what it finds at an order and a row
  abbrev find_both : Columns → Columns → List Env
  find_both o d = matches (overlay db []) order_query.filter order_flag (given id ∷ o ∷ d ∷ [])

  -- what it finds at an order
  abbrev find_at : Columns → List Env
  find_at o = matches (overlay db []) order_query.filter order_rows (given id ∷ o ∷ [])

  -- the raised rows of the order's serial
  abbrev raised_in : Columns → Columns → Columns → List Env
  raised_in o d s = matches (overlay db []) (same (col 3 1) (col 1 2) ∷ []) end (given id ∷ o ∷ d ∷ s ∷ [])

  raised_each : (n : ℕ) (x : Order) (d : Columns) (k : ℕ) (s : List ℕ) → raised_in (count n ∷ order_columns x) d (count k ∷ raised_columns s)
      ≡ cond (same_name s x.serial) ((given id ∷ (count n ∷ order_columns x) ∷ d ∷ (count k ∷ raised_columns s) ∷ []) ∷ []) []
  raised_each n x d k s =
      let env : Env = given id ∷ (count n ∷ order_columns x) ∷ d ∷ (count k ∷ raised_columns s) ∷ [] in
      ap (λ t. cond (t && true) (env ∷ []) []) (same_text s x.serial) ∙ ap (λ t. cond t (env ∷ []) []) (and_true (same_name s x.serial))

  -- at an order and a row: both, if the order has the id
  both : (n : ℕ) (x : Order) (d : Columns) → find_both (count n ∷ order_columns x) d ≡ cond (has_id id x) (seen (count n ∷ order_columns x) d x.serial ∷ []) []
  both n x d =
      let o : Columns = count n ∷ order_columns x in
      let env : Env = seen o d x.serial in
      let c : min 1 (length (flat_map (raised_in o d) (db raised_tree))) ≡ cond (is_among serials x.serial) 1 0 =
      ap (λ l. min 1 (length (flat_map (raised_in o d) l))) raised ∙ raised_or_not x.serial (raised_in o d) (λ k s. given id ∷ o ∷ d ∷ (count k ∷ raised_columns s) ∷ []) (raised_each n x d) serials in
      ap (λ k. matches (overlay db []) order_query.filter end (given id ∷ o ∷ d ∷ (count k ∷ []) ∷ [])) c
      ∙ ap (λ t. cond (t && true) (env ∷ []) []) (same_text x.id id)
      ∙ ap (λ t. cond t (env ∷ []) []) (and_true (same_name x.id id))

  -- at an order of another id nothing is found
  at_other : (n : ℕ) (x : Order) → has_id id x ≡ false → find_at (count n ∷ order_columns x) ≡ []
  at_other n x is = nowhere (find_both (count n ∷ order_columns x)) _ (λ d. both n x d ∙ ap (λ t. cond t (seen (count n ∷ order_columns x) d x.serial ∷ []) []) is)

  -- whether a row is joined to an order
  abbrev joins : Columns → Columns → Bool
  joins o d = list_all (holds (given id ∷ o ∷ d ∷ [])) (same (col 2 1) (col 1 2) ∷ [])

  joins_if : (n : ℕ) (x : Order) (k : ℕ) (row : Row) → joins (count n ∷ order_columns x) (count k ∷ device_columns row) ≡ has_serial x.serial row
  joins_if n x k row = ap (λ t. t && true) (same_text row.serial x.serial) ∙ and_true (same_name row.serial x.serial)

  module _ (rows : List Row) (devices : db device_tree ≡ stored_by device_columns rows) where
    -- the rows that are joined to an order
    joined : (n : ℕ) (x : Order) → filter (joins (count n ∷ order_columns x)) (db device_tree) ≡ reverse (map (λ h. count h.0 ∷ device_columns h.1) (hits (has_serial x.serial) rows))
    joined n x =
        let o : Columns = count n ∷ order_columns x in
        ap (filter (joins o)) devices ∙ filter_is (joins o) (stored_by device_columns rows)
        ∙ found_in device_columns (λ d. cond (joins o d) (d ∷ []) []) (has_serial x.serial) (λ k row. count k ∷ device_columns row)
        (λ k row. ap (λ t. cond t ((count k ∷ device_columns row) ∷ []) []) (joins_if n x k row)) rows

    -- at the order with the id: it, and the row of its serial
    at_order : (n : ℕ) (x : Order) (k : ℕ) (row : Row) → has_id id x ≡ true → hits (has_serial x.serial) rows ≡ (k, row) ∷ []
        → find_at (count n ∷ order_columns x) ≡ seen (count n ∷ order_columns x) (count k ∷ device_columns row) x.serial ∷ []
    at_order n x k row is hit =
        let o : Columns = count n ∷ order_columns x in
        let d : Columns = count k ∷ device_columns row in
        let one : filter (joins o) (db device_tree) ≡ d ∷ [] = joined n x ∙ ap (λ l. reverse (map (λ (h : ℕ × Row). count h.0 ∷ device_columns h.1) l)) hit in
        ap (λ l. flat_map (find_both o) (or_nulls l)) one ∙ append-nil (find_both o d) ∙ both n x d ∙ ap (λ t. cond t (seen o d x.serial ∷ []) []) is

    module _ (orders : List Order) (stands : db order_tree ≡ stored_by order_columns orders) (shown : List Columns) (a : IsAnswer order_query (overlay db []) (given id) shown) where
      -- nothing is shown where no order has the id
      pub shown_no_order : order_in orders id ≡ None → shown ≡ []
      shown_no_order none =
          let staged : a.staged ≡ [] = a.grouped ∙ (ap (flat_map find_at) stands ∙ found_none order_columns find_at (has_id id) at_other orders (no_hit (has_id id) orders none)) in
          let all : a.kept ≡ [] = a.distinct ∙ ap (map (output order_query)) staged in
          let ordered : a.ordered ≡ [] = nothing_left a.ordered (length_permutation a.kept a.ordered a.same ∙ ap length all) in
          a.shown ∙ ap (λ xs. page order_query (given id) (map (λ (p : Output). p.1) xs)) ordered

      -- the order is shown, and the row of its serial
      pub shown_order : (order : Order) (row : Row) → AreRows rows → AreOrders rows orders → has_id id order ≡ true → order_in orders id ≡ Some order → row_in rows order.serial ≡ Some row
          → shown ≡ (order_columns order ++ (device_columns row ++ count (cond (is_among serials order.serial) 1 0) ∷ [])) ∷ []
      shown_order order row are are_orders is found has =
          let hit = one_order rows orders id order are_orders found in
          let of_row = one_hit rows order.serial row are has in
          let env : Env = seen (count hit.0 ∷ order_columns order) (count of_row.0 ∷ device_columns row) order.serial in
          let staged : a.staged ≡ env ∷ [] =
          a.grouped ∙ (ap (flat_map find_at) stands ∙ (found_one order_columns find_at (has_id id) at_other orders hit.0 order hit.1 ∙ at_order hit.0 order of_row.0 row is of_row.1)) in
          let o : Output = ([], order_columns order ++ (device_columns row ++ count (cond (is_among serials order.serial) 1 0) ∷ [])) in
          let all : a.kept ≡ o ∷ [] = a.distinct ∙ ap (map (output order_query)) staged in
          let ordered = one_permutation o a.ordered (subst (λ k. IsPermutation k a.ordered) all a.same) in
          a.shown ∙ ap (λ xs. page order_query (given id) (map (λ (p : Output). p.1) xs)) ordered

-- What the statement showed is an answer of the query.
pub asked_order : (id : List ℕ) (old new : State) (shown : List Columns) → old.now.schema ≡ shop_schema → Shown ORDER.now (given id) old new shown
    → IsAnswer order_query (overlay old.now.trees []) (given id) shown
asked_order id old new shown has h =
    let q : Program = record { lets = []; body = order_query } in
    (reads_as ORDER.now (given id) old new shop_schema has (Select q order_names) order_is order_plain order_unlisted shown h).answer Null
