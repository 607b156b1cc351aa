-- What a statement with ORDER BY shows of the rows of one table.
use Rattle.std.proofs.Common.{◌≡◌, ℕ, suc, pos, negsuc, Bool, true, false, cond, List, [], ◌∷◌, ◌++◌, map, filter, length, Some, None, refl, sym, ap, subst, ◌∙◌, Ordering, Less, is_gt, is_eq, IsPermutation}
use Rattle.std.specs.Prelude.{reverse, find}
use mathlib.Core.List.{reverse-cons}
use Rattle.std.specs.List.{AllByRecursion}
use Rattle.std.proofs.lemmas.List.{map-append}
use Rattle.std.proofs.lemmas.List.Sorted.{IsPermutation-trans, IsPermutation-reverse}
use Rattle.sqlite_value.specs.declared.keys.Key.{Key}
use Rattle.sqlite_trees.specs.Tree.{Trees, IsAscending}
use Rattle.sqlite_keyed.specs.Lists.{insert_sorted, sort_by}
use Rattle.sqlite_keyed.proofs.ListLemmas.{map-map, ascending-map}
use Rattle.sqlite_keyed.proofs.SortLemmas.{sorted_unique, sorted_is-sort_by, sort_by-map}
use Rattle.sqlite_sql.proofs.QueryLemmas.{output_cmp_total}
use Rattle.sqlite.specs.declared.types.Value.TheVariants.{Int}
use Rattle.sqlite.specs.Order.{Row as Columns}
use Rattle.sqlite.specs.Term.{Term, lit}
use Rattle.sqlite.specs.Query.{Query, Join, IsAnswer, matches, output, output_cmp, Output}
use Rattle.ledger_spec.specs.Putting.{put_among, sorted_by}
use Rattle.shop_tables.proofs.Finding.{hits}

-- where the order by a test is that of a comparison, the ledger's sorted list is that which the comparison gives
module _ {X : Type 0} (before : X → X → Bool) (cmp : X → X → Ordering) (same : (x y : X) → before y x ≡ is_gt (cmp x y)) where
  put_as : (x : X) (ys : List X) → insert_sorted cmp x ys ≡ put_among before x ys
  put_as x [] = refl
  put_as x (y ∷ ys) = rw (put_as x ys) (ap (λ b. cond b (y ∷ put_among before x ys) (x ∷ y ∷ ys)) (sym (same x y)))

  pub sorted_as : (xs : List X) → sort_by cmp xs ≡ sorted_by before xs
  sorted_as [] = refl
  sorted_as (x ∷ xs) = rw (sorted_as xs) (put_as x (sorted_by before xs))

-- a query of one table, with no group and no limit
module _ (from : Join) (test : List Term) (project : List Term) (order : List (Term × Key)) where
  abbrev pub listing : Query
  listing = record {
    from = from;
    filter = test;
    group = None;
    project = project;
    distinct = false;
    collations = [];
    order = order;
    limit = lit (Int (negsuc 0));
    offset = lit (Int (pos 0));
  }

  module _ {X : Type 0} (out : X → Output) (db : Trees) (params : Columns) (shown : List Columns) (xs : List X)
      (met : map (output listing) (matches db test from (params ∷ [])) ≡ reverse (map out xs)) (answer : IsAnswer listing db params shown) where
    -- two elements by what they are sorted by
    abbrev pub out_cmp : X → X → Ordering
    out_cmp x y = output_cmp listing (out x) (out y)

    all_met : IsPermutation (map out xs) answer.ordered
    all_met =
        let kept : answer.kept ≡ reverse (map out xs) = answer.distinct ∙ ap (map (output listing)) answer.grouped ∙ met in
        IsPermutation-trans _ _ _ (IsPermutation-reverse (map out xs)) (subst (λ k. IsPermutation k answer.ordered) kept answer.same)

    tail_of : (ys : List X) → answer.ordered ≡ map out ys → shown ≡ map (λ x. (out x).1) ys
    tail_of ys is = answer.shown ∙ ap (map (λ (o : Output). o.1)) is ∙ map-map (λ (o : Output). o.1) out ys

    -- elements that rise are shown as they stand
    pub shown_rising : IsAscending (λ x y. out_cmp x y ≡ Less) xs → shown ≡ map (λ x. (out x).1) xs
    shown_rising rises = tail_of xs (sorted_unique (output_cmp listing) (output_cmp_total listing) (map out xs) answer.ordered (ascending-map _ out xs rises) all_met answer.sorted)

    -- elements of which no two are alike are shown in their order
    pub shown_sorted : (before : X → X → Bool) → ((x y : X) → before y x ≡ is_gt (out_cmp x y)) → IsAscending (λ x y. is_eq (out_cmp x y) ≡ false) xs → shown ≡ map (λ x. (out x).1) (sorted_by before xs)
    shown_sorted before same apart =
        tail_of (sorted_by before xs)
        (sorted_is-sort_by (output_cmp listing) (output_cmp_total listing) (map out xs) answer.ordered (ascending-map _ out xs apart) all_met answer.sorted
        ∙ sort_by-map (output_cmp listing) out xs ∙ ap (map out) (sorted_as before out_cmp same xs))

-- the hits without their numbers
module _ {X B : Type 0} (test : X → Bool) (out : X → B) where
  pub hits_as : (xs : List X) → map (λ (h : ℕ × X). out h.1) (hits test xs) ≡ map out (filter test xs)
  hits_as [] = refl
  hits_as (x ∷ xs) = elim (test x) as (λ t. map (λ (h : ℕ × X). out h.1) (cond t ((suc (length xs), x) ∷ hits test xs) (hits test xs)) ≡ map out (cond t (x ∷ filter test xs) (filter test xs))) [
    | true ↦ ap (λ l. out x ∷ l) (hits_as xs)
    | false ↦ hits_as xs
  ]

pub map_reverse : {A B : Type 0} (f : A → B) (xs : List A) → map f (reverse xs) ≡ reverse (map f xs)
map_reverse f [] = refl
map_reverse f (x ∷ xs) = ap (map f) (reverse-cons x xs) ∙ map-append f (reverse xs) (x ∷ []) ∙ ap (λ l. l ++ f x ∷ []) (map_reverse f xs) ∙ sym (reverse-cons (f x) (map f xs))

-- what isn't found is nowhere
pub none_found : {X : Type 0} (p : X → Bool) (xs : List X) → find p xs ≡ None → AllByRecursion (λ x. p x ≡ false) xs
none_found p [] is = tt
none_found p (x ∷ xs) is = (elim (p x) as (λ t. p x ≡ t → cond t (Some x) (find p xs) ≡ None → (p x ≡ false) × AllByRecursion (λ x. p x ≡ false) xs) [
  | true ↦ λ passes found. absurd (let bad : Some x ≡ None = found in cc)
  | false ↦ λ fails found. (fails, none_found p xs found)
]) refl is
