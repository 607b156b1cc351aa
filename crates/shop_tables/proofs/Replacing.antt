-- A row is put in the place of another.
use Rattle.std.proofs.Common.{length, ◌≡◌, ℕ, suc, ◌<◌, ◌≤◌, pos, List, [], ◌∷◌, ◌++◌, map, Bool, true, false, cond, refl, sym, ap, ◌∙◌, arith, append-nil}
use Rattle.std.specs.Ordering.{int_cmp, match_ordering}
use Rattle.std.specs.declared.cmp.Ordering.TheVariants.{Less, Equal, Greater}
use Rattle.std.proofs.lemmas.Bool.Decides.{nat_tests}
use Rattle.std.proofs.lemmas.List.{length-map}
use Rattle.std.proofs.lemmas.List.Elements.{filter-append}
use Rattle.sqlite_value.proofs.OrderLemmas.{value_cmp-Int}
use Rattle.sqlite_value.specs.Order.{value_cmp}
use Rattle.sqlite.specs.Order.{Row as Columns}
use Rattle.sqlite.specs.Tree.{put_row, rowid, without_rowid}
use Rattle.shop_tables.specs.Stored.{count, stored_by}
use Rattle.shop_tables.proofs.Finding.{hits}
use Rattle.shop_tables.proofs.Pushing.{behind, below, less}

greater_numbers : (a b : ℕ) → b < a → int_cmp (pos a) (pos b) ≡ Greater
greater_numbers a b h = grind (arith, nat_tests)

equal_numbers : (a : ℕ) → int_cmp (pos a) (pos a) ≡ Equal
equal_numbers a = grind (arith, nat_tests)

greater : (a b : ℕ) → b < a → value_cmp (count a) (count b) ≡ Greater
greater a b h = value_cmp-Int (pos a) (pos b) ∙ greater_numbers a b h

equal : (a : ℕ) → value_cmp (count a) (count a) ≡ Equal
equal a = value_cmp-Int (pos a) (pos a) ∙ equal_numbers a

-- before the last row, if that has a higher number
before_last : (new last : Columns) (rows : List Columns) → value_cmp (rowid last) (rowid new) ≡ Greater → put_row new (rows ++ last ∷ []) ≡ put_row new rows ++ last ∷ []
before_last new last [] high = rw high refl
before_last new last (r ∷ rows) high = (elim (value_cmp (rowid r) (rowid new)) as (λ o. match_ordering o (r ∷ put_row new (rows ++ last ∷ [])) (new ∷ rows ++ last ∷ []) (new ∷ r ∷ rows ++ last ∷ [])
    ≡ match_ordering o (r ∷ put_row new rows) (new ∷ rows) (new ∷ r ∷ rows) ++ last ∷ []) [
      | Less ↦ ap (λ l. r ∷ l) (before_last new last rows high)
      | Equal ↦ refl
      | Greater ↦ refl
    ])

module _ {X : Type 0} (columns : X → Columns) where
  -- rows with lower numbers stay
  kept_lower : (xs : List X) (n : ℕ) → length xs < n → without_rowid (pos n) (stored_by columns xs) ≡ stored_by columns xs
  kept_lower [] n h = refl
  kept_lower (x ∷ xs) n h = filter-append _ (stored_by columns xs) _ ∙ rw (kept_lower xs n (omega (arith, h)), less (suc (length xs)) n h) refl

  module _ (test : X → Bool) (new : X) where
    abbrev pub put : X → X
    put old = cond (test old) new old

    pub no_hit : (xs : List X) → hits test xs ≡ [] → map put xs ≡ xs
    no_hit [] none = refl
    no_hit (x ∷ xs) none = (elim (test x) as (λ t. cond t ((suc (length xs), x) ∷ hits test xs) (hits test xs) ≡ [] → cond t new x ∷ map put xs ≡ x ∷ xs) [
      | true ↦ λ bad. absurd (let e : (suc (length xs), x) ∷ hits test xs ≡ [] = bad in cc)
      | false ↦ λ none. ap (λ l. x ∷ l) (no_hit xs none)
    ]) none

    hit_within : (xs : List X) (n : ℕ) (x : X) → hits test xs ≡ (n, x) ∷ [] → n ≤ length xs
    hit_within [] n x is = absurd (let e : [] ≡ (n, x) ∷ [] = is in cc)
    hit_within (first ∷ xs) n x is = (elim (test first) as (λ t. cond t ((suc (length xs), first) ∷ hits test xs) (hits test xs) ≡ (n, x) ∷ [] → n ≤ suc (length xs)) [
      | true ↦ λ is. let e : ◌≡◌ {A = ℕ × X} (suc (length xs), first) (n, x) = cc in let k : suc (length xs) ≡ n = ap (λ p. p.0) e in omega (arith, k)
      | false ↦ λ is. omega (arith, hit_within xs n x is)
    ]) is

    -- The row that was hit is put in its place.
    pub replaced : (xs : List X) (n : ℕ) (x : X) → hits test xs ≡ (n, x) ∷ [] → put_row (count n ∷ columns new) (without_rowid (pos n) (stored_by columns xs)) ≡ stored_by columns (map put xs)
    replaced [] n x is = absurd (let e : [] ≡ (n, x) ∷ [] = is in cc)
    replaced (first ∷ xs) n x is = (elim (test first) as (λ t. cond t ((suc (length xs), first) ∷ hits test xs) (hits test xs) ≡ (n, x) ∷ []
        → put_row (count n ∷ columns new) (without_rowid (pos n) (stored_by columns (first ∷ xs))) ≡ stored_by columns (cond t new first ∷ map put xs)) [
          | true ↦ λ is.
              let e : ◌≡◌ {A = ℕ × X} (suc (length xs), first) (n, x) = cc in
              let k : n ≡ suc (length xs) = sym (ap (λ p. p.0) e) in
              let none : hits test xs ≡ [] = cc in
              rw k (ap (put_row _) (filter-append _ (stored_by columns xs) _) ∙ rw (kept_lower xs (suc (length xs)) (omega arith), equal (suc (length xs)), append-nil (stored_by columns xs), no_hit xs none)
              (behind (count (suc (length xs)) ∷ columns new) (stored_by columns xs) (below columns xs (suc (length xs)) (omega arith))))
          | false ↦ λ is.
              let within = hit_within xs n x is in
              ap (put_row _) (filter-append _ (stored_by columns xs) _) ∙ rw (greater (suc (length xs)) n (omega (arith, within)))
              (before_last (count n ∷ columns new) (count (suc (length xs)) ∷ columns first) (without_rowid (pos n) (stored_by columns xs)) (greater (suc (length xs)) n (omega (arith, within)))
              ∙ rw (replaced xs n x is, length-map xs put) refl)
        ]) is
