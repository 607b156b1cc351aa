-- Places that each stand once: sums over them don't depend on their order.
use Rattle.std.proofs.Common.{◌≡◌, ℕ, ◌+◌, true, false, not, ◌==◌, List, [], ◌∷◌, refl, sym, ap, ◌∙◌, subst, ⊎_elim}
use Rattle.std.proofs.Common.{arith}
use Rattle.std.specs.Prelude.{◌&&◌, ◌||◌, length, if◌then◌else◌}
use Rattle.std.proofs.lemmas.Bool.{cases_Bool, and_parts, not-true}
use Rattle.std.proofs.lemmas.Bool.Decides.{nat_tests}
use Rattle.ledger_spec.specs.Names.{same_name}
use Rattle.ledger_spec.proofs.NameLemmas.{same_is, self_same}
use Rattle.sheet_book.specs.declared.places.Key.{Key}
use Rattle.sheet_book.specs.Reports.{same_key, has_key, is_distinct, sum_over}

pub key_is : (a b : Key) → same_key a b ≡ true → a ≡ b
key_is a b h =
    let p = and_parts (same_name a.sheet b.sheet) (a.place == b.place) h in
    let s = same_is a.sheet b.sheet p.0 in
    let q = p.1 in
    let n : a.place ≡ b.place = grind (arith, nat_tests) in
    ap (λ x. record { sheet = x; place = a.place }) s ∙ ap (λ x. record { sheet = b.sheet; place = x }) n

pub key_self : (a : Key) → same_key a a ≡ true
key_self a = let s = self_same a.sheet in let n : (a.place == a.place) ≡ true = grind (arith, nat_tests) in
    rw (s, n) refl

pub key_turn : (a b : Key) → same_key a b ≡ false → same_key b a ≡ false
key_turn a b f =
    ⊎_elim
    (λ (t : same_key b a ≡ true). let e = key_is b a t in
    let q : same_key a b ≡ true = subst (λ k. same_key a k ≡ true) (sym e) (key_self a) in
    absurd (let x : true ≡ false = sym q ∙ f in cc))
    (λ (g : same_key b a ≡ false). g)
    (cases_Bool (same_key b a))

-- the places without this one
abbrev without : Key → List Key → List Key
without key [] = []
without key (first ∷ keys) = if same_key key first then keys else first ∷ without key keys

-- of distinct places, those behind the first are distinct, and the first isn't among them
pub distinct_parts : (key : Key) (keys : List Key) → is_distinct (key ∷ keys) ≡ true
    → (has_key keys key ≡ false) × (is_distinct keys ≡ true)
distinct_parts key keys d = let p = and_parts (not (has_key keys key)) (is_distinct keys) d in
    (not-true (has_key keys key) p.0, p.1)

has_same : (keys : List Key) (a b : Key) → a ≡ b → has_key keys a ≡ has_key keys b
has_same keys a b e = ap (λ k. has_key keys k) e

sum_without : (f : Key → ℕ) (keys : List Key) (key : Key) → has_key keys key ≡ true
    → sum_over f keys ≡ f key + sum_over f (without key keys)
sum_without f [] key h = cc
sum_without f (first ∷ keys) key h =
    ⊎_elim
    (λ (t : same_key key first ≡ true). let e = key_is key first t in rw t (ap (λ k. f k + sum_over f keys) (sym e)))
    (λ (n : same_key key first ≡ false).
    let rest = sum_without f keys key (rw n at h) in
    rw n (omega (arith, rest)))
    (cases_Bool (same_key key first))

has_without : (keys : List Key) (key other : Key) → is_distinct keys ≡ true
    → has_key (without key keys) other ≡ (has_key keys other && not (same_key other key))
has_without [] key other d = refl
has_without (first ∷ keys) key other d =
    let parts = distinct_parts first keys d in
    ⊎_elim
    (λ (t : same_key key first ≡ true).
    let e = key_is key first t in
    ⊎_elim
    (λ (s : same_key other key ≡ true).
    let q = key_is other key s in
    let gone : has_key keys other ≡ false = has_same keys other first (q ∙ e) ∙ parts.0 in
    rw (t, s, gone) (⊎_elim (λ (x : same_key other first ≡ true). rw x refl)
    (λ (x : same_key other first ≡ false). rw x refl) (cases_Bool (same_key other first))))
    (λ (s : same_key other key ≡ false).
    let n : same_key other first ≡ false = subst (λ k. same_key other k ≡ false) e s in
    rw (t, s, n) (⊎_elim (λ (x : has_key keys other ≡ true). rw x refl)
    (λ (x : has_key keys other ≡ false). rw x refl) (cases_Bool (has_key keys other))))
    (cases_Bool (same_key other key)))
    (λ (n : same_key key first ≡ false).
    let rest = has_without keys key other parts.1 in
    ⊎_elim
    (λ (s : same_key other first ≡ true).
    let e = key_is other first s in
    let m : same_key other key ≡ false = subst (λ k. same_key k key ≡ false) (sym e) (key_turn key first n) in
    rw (n, s, m) refl)
    (λ (s : same_key other first ≡ false). rw (n, s) rest)
    (cases_Bool (same_key other first)))
    (cases_Bool (same_key key first))

distinct_without : (keys : List Key) (key : Key) → is_distinct keys ≡ true → is_distinct (without key keys) ≡ true
distinct_without [] key d = refl
distinct_without (first ∷ keys) key d =
    let parts = distinct_parts first keys d in
    ⊎_elim
    (λ (t : same_key key first ≡ true). rw t parts.1)
    (λ (n : same_key key first ≡ false).
    let gone : has_key (without key keys) first ≡ false = has_without keys key first parts.1
    ∙ (let g = parts.0 in rw g refl) in
    let rest = distinct_without keys key parts.1 in
    rw (n, gone, rest) refl)
    (cases_Bool (same_key key first))

-- the same places have the same sum
pub sum_same : (f : Key → ℕ) (ks ls : List Key) → is_distinct ks ≡ true → is_distinct ls ≡ true
    → ((key : Key) → has_key ks key ≡ has_key ls key) → sum_over f ks ≡ sum_over f ls
sum_same f [] [] d e same = refl
sum_same f [] (first ∷ ls) d e same = let s = key_self first in let h : false ≡ true = same first ∙ rw s refl in cc
sum_same f (first ∷ ks) ls d e same =
    let parts = distinct_parts first ks d in
    let s = key_self first in
    let there : has_key ls first ≡ true = sym (same first) ∙ rw s refl in
    let rest = sum_same f ks (without first ls) parts.1 (distinct_without ls first e)
    (λ key. sym (has_without ls first key e ∙ ap (λ b. b && not (same_key key first)) (sym (same key))
    ∙ here ks first key parts.0)) in
    ap (λ n. f first + n) rest ∙ sym (sum_without f ls first there)
  where
    here : (keys : List Key) (one key : Key) → has_key keys one ≡ false
        → ((same_key key one || has_key keys key) && not (same_key key one)) ≡ has_key keys key
    here keys one key gone =
        ⊎_elim
        (λ (t : same_key key one ≡ true). let q = has_same keys key one (key_is key one t) ∙ gone in rw (t, q) refl)
        (λ (n : same_key key one ≡ false). rw n (⊎_elim (λ (x : has_key keys key ≡ true). rw x refl)
        (λ (x : has_key keys key ≡ false). rw x refl) (cases_Bool (has_key keys key))))
        (cases_Bool (same_key key one))

pub sum_pointwise : (f g : Key → ℕ) (keys : List Key) → ((key : Key) → f key ≡ g key)
    → sum_over f keys ≡ sum_over g keys
sum_pointwise f g [] same = refl
sum_pointwise f g (key ∷ keys) same = let a = same key in let b = sum_pointwise f g keys same in omega arith

-- how many places are the sum of 1 over them
pub count_over : (keys : List Key) → length keys ≡ sum_over (λ key. 1) keys
count_over [] = refl
count_over (key ∷ keys) = let rest = count_over keys in omega (arith, rest)
