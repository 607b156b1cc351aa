-- The keys of the lists that are kept, after a use of one and after a new one.
use Rattle.std.proofs.Common.{◌≡◌, ◌⊎◌, inl, inr, ℕ, ◌-◌, Bool, true, false, ◌&&◌, ◌||◌, ◌==◌, cond, nat_eq, Option, Some, None, is_some, List, [], ◌∷◌, take, Contains, Vec, refl, sym, ap, ◌∙◌, eqb-true}
use Rattle.std.specs.declared.alloc.Global.{Global}
use Rattle.std.specs.Cmp.Lexicographic.{pointwise}
use Rattle.std.specs.Map.{keys_of, lookup, lookup_entry, remove_entry}
use Rattle.std.specs.Option.{option_map_or}
use Rattle.std.proofs.lemmas.List.{take-map}
use Rattle.lru.specs.LruCache.{LruCache, promoted, put_entries}
use Rattle.lru.proofs.CallerLemmas.{Contains-lookup, Contains-lookup_entry, Contains-promoted, Contains-put_entries}
use Rattle.token_issue.specs.declared.table_key.TableKey.{TableKey}
use Rattle.token_issue.specs.Lists.{tokens_from}
use Rattle.token_issue.specs.Kept.{same_table, is_kept, without, front, AreTables}

both : (a b : Bool) → (a && b) ≡ true → (a ≡ true) × (b ≡ true)
both true b h = (refl, h)
both false b h = cc

same_bytes : (a b : List ℕ) → pointwise nat_eq a b ≡ true → a ≡ b
same_bytes [] [] h = refl
same_bytes [] (y ∷ ys) h = cc
same_bytes (x ∷ xs) [] h = cc
same_bytes (x ∷ xs) (y ∷ ys) h =
    let parts = both (nat_eq x y) (pointwise nat_eq xs ys) h in
    ap (λ z. z ∷ xs) (eqb-true x y parts.0) ∙ ap (λ zs. y ∷ zs) (same_bytes xs ys parts.1)

-- keys of one list are one key
pub same_is : (a b : TableKey) → same_table a b ≡ true → a ≡ b
same_is a b h =
    let parts = both (pointwise nat_eq a.key b.key) ((a.code == b.code) && (a.counts == b.counts)) h in
    let numbers = both (a.code == b.code) (a.counts == b.counts) parts.1 in
    ap (λ k. record { key = k; code = a.code; counts = a.counts }) (same_bytes a.key b.key parts.0)
    ∙ ap (λ n. record { key = b.key; code = n; counts = a.counts }) (eqb-true a.code b.code numbers.0)
    ∙ ap (λ n. record { key = b.key; code = b.code; counts = n }) (eqb-true a.counts b.counts numbers.1)

module _ {X : Type 0} (s : TableKey) where
  keys_remove : (es : List (TableKey × X)) → keys_of (remove_entry (same_table s) es) ≡ without s (keys_of es)
  keys_remove [] = refl
  keys_remove (e ∷ es) = elim (same_table s e.0) as (λ b. keys_of (cond b es (e ∷ remove_entry (same_table s) es)) ≡ cond b (keys_of es) (e.0 ∷ without s (keys_of es))) [
    | true ↦ refl
    | false ↦ ap (λ ks. e.0 ∷ ks) (keys_remove es)
  ]

  kept_is : (es : List (TableKey × X)) → is_kept s (keys_of es) ≡ is_some (lookup_entry (same_table s) es)
  kept_is [] = refl
  kept_is (e ∷ es) = elim (same_table s e.0) as (λ b. (b || is_kept s (keys_of es)) ≡ is_some (cond b (Some e) (lookup_entry (same_table s) es))) [
    | true ↦ refl
    | false ↦ kept_is es
  ]

  -- a key is kept where the cache has a list of it
  pub kept_lookup : (es : List (TableKey × X)) → is_kept s (keys_of es) ≡ is_some (lookup (same_table s) es)
  kept_lookup [] = refl
  kept_lookup (e ∷ es) = elim (same_table s e.0) as (λ b. (b || is_kept s (keys_of es)) ≡ is_some (cond b (Some e.1) (lookup (same_table s) es))) [
    | true ↦ refl
    | false ↦ kept_lookup es
  ]

  promoted_at : (es : List (TableKey × X)) (o : Option (TableKey × X)) → lookup_entry (same_table s) es ≡ o → is_some o ≡ true
      → keys_of (option_map_or (λ e. e ∷ remove_entry (same_table s) es) o es) ≡ front s (keys_of es)
  promoted_at es None h k = cc
  promoted_at es (Some e) h k =
      let was = Contains-lookup_entry (same_table s) es e h in
      ap (λ t. t ∷ keys_of (remove_entry (same_table s) es)) (sym (same_is s e.0 was.1)) ∙ ap (λ ks. s ∷ ks) (keys_remove es)

  -- the keys after a use of one that is kept
  pub keys_promoted : (es : List (TableKey × X)) → is_kept s (keys_of es) ≡ true → keys_of (promoted (same_table s) es) ≡ front s (keys_of es)
  keys_promoted es kept = promoted_at es (lookup_entry (same_table s) es) refl (sym (kept_is es) ∙ kept)

  put_at : (c : LruCache TableKey X) (v : X) → c.cap ≡ 8 → (o : Option (TableKey × X)) → is_some o ≡ false
      → keys_of (option_map_or (λ e. (e.0, v) ∷ remove_entry (same_table s) c.entries) o ((s, v) ∷ take (c.cap - 1) c.entries)) ≡ s ∷ take 7 (keys_of c.entries)
  put_at c v eight None new = rw eight (ap (λ ks. s ∷ ks) (sym (take-map (λ e. e.0) 7 c.entries)))
  put_at c v eight (Some e) new = cc

  -- the keys after a new one comes
  pub keys_put : (c : LruCache TableKey X) (v : X) → c.cap ≡ 8 → is_kept s (keys_of c.entries) ≡ false → keys_of (put_entries same_table c s v) ≡ s ∷ take 7 (keys_of c.entries)
  keys_put c v eight new = put_at c v eight (lookup_entry (same_table s) c.entries) (sym (kept_is c.entries) ∙ new)

module _ (next : List ℕ → ℕ → ℕ) (s : TableKey) where
  pub tables_promoted : (es : List (TableKey × Vec ℕ Global)) → AreTables next es → AreTables next (promoted (same_table s) es)
  tables_promoted es h e c = h e (Contains-promoted (same_table s) es e c)

  of_put : (v : Vec ℕ Global) (e : TableKey × Vec ℕ Global) (es : List (TableKey × Vec ℕ Global)) → v.items ≡ tokens_from (next s.key) s.code s.counts → e.1 ≡ v → (e.0 ≡ s) ⊎ ((w : Vec ℕ Global) × Contains es (e.0, w) × (same_table s e.0 ≡ true)) → e.1.items ≡ tokens_from (next e.0.key) e.0.code e.0.counts
  of_put v e es t is (inl k) = ap (λ x. x.items) is ∙ t ∙ ap (λ z. tokens_from (next z.key) z.code z.counts) (sym k)
  of_put v e es t is (inr r) = ap (λ x. x.items) is ∙ t ∙ ap (λ z. tokens_from (next z.key) z.code z.counts) (same_is s e.0 r.2)

  pub tables_put : (c : LruCache TableKey (Vec ℕ Global)) (v : Vec ℕ Global) → AreTables next c.entries → v.items ≡ tokens_from (next s.key) s.code s.counts → AreTables next (put_entries same_table c s v)
  tables_put c v h t e m = elim (Contains-put_entries same_table c s v e m) [
    | inl old ↦ h e old
    | inr new ↦ of_put v e c.entries t new.0 new.1
  ]

  -- the list that is kept of a key has its tokens
  pub table_found : (es : List (TableKey × Vec ℕ Global)) (v : Vec ℕ Global) → AreTables next es → lookup (same_table s) es ≡ Some v → v.items ≡ tokens_from (next s.key) s.code s.counts
  table_found es v h l =
      let at = Contains-lookup (same_table s) es v l in
      h (at.0, v) at.1 ∙ ap (λ z. tokens_from (next z.key) z.code z.counts) (sym (same_is s at.0 at.2))
