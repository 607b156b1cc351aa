-- The order of sales is a total one.
use Rattle.std.proofs.Common.{◌≡◌, ℕ, ◌<◌, true, false, ◌==◌, List, refl, sym, ap, ◌∙◌, subst, inl, inr, ⊎_elim}
use Rattle.std.proofs.Common.{arith}
use Rattle.std.specs.Prelude.{◌&&◌, ◌⊎◌, nat_lt}
use Rattle.std.specs.Ordering.{is_lt, is_eq, nat_cmp, ordering_reverse}
use Rattle.std.specs.declared.cmp.Ordering.{Ordering}
use Rattle.std.specs.declared.cmp.Ordering.TheVariants.{Less, Equal, Greater}
use Rattle.std.specs.Cmp.Lexicographic.{slice_cmp}
use Rattle.std.proofs.lemmas.Bool.{cases_Bool, and_parts, or_parts}
use Rattle.std.proofs.lemmas.Bool.Decides.{nat_tests}
use Rattle.std.proofs.lemmas.Cmp.{nat_list_cmp_total}
use Rattle.std.proofs.lemmas.Map.Text.{is_eq-slice_cmp}
use Rattle.std.proofs.lemmas.Slice.Eq.{bytes_eq-Decides}
use Rattle.ledger_spec.specs.Names.{same_name}
use Rattle.ledger_spec.specs.Sorted.{name_before}
use Rattle.ledger_spec.proofs.NameLemmas.{same_is, self_same}
use Rattle.sheet_book.specs.declared.sales.Sale.{Sale}
use Rattle.sheet_book.specs.Reports.{same_sale, sale_before}

lt_is : (o : Ordering) → is_lt o ≡ true → o ≡ Less
lt_is Less h = refl
lt_is Equal h = cc
lt_is Greater h = cc

-- both ways not before: equal
both_ways : (o p : Ordering) → o ≡ ordering_reverse p → is_lt o ≡ false → is_lt p ≡ false → is_eq o ≡ true
both_ways Less p e f g = cc
both_ways Equal p e f g = refl
both_ways Greater Less e f g = cc
both_ways Greater Equal e f g = cc
both_ways Greater Greater e f g = cc

own_way : (o : Ordering) → o ≡ ordering_reverse o → is_lt o ≡ false
own_way Less e = cc
own_way Equal e = refl
own_way Greater e = refl

name_self : (a : List ℕ) → name_before a a ≡ false
unfolding name_before
name_self a = own_way (slice_cmp nat_cmp a a) (nat_list_cmp_total.antisymm a a)

name_on : (a b c : List ℕ) → name_before a b ≡ true → name_before b c ≡ true → name_before a c ≡ true
unfolding name_before
name_on a b c x y = ap is_lt (nat_list_cmp_total.trans a b c (lt_is _ x) (lt_is _ y))

name_total : (a b : List ℕ) → name_before a b ≡ false → name_before b a ≡ false → a ≡ b
unfolding name_before
name_total a b x y =
    (bytes_eq-Decides a b).0 (sym (is_eq-slice_cmp a b)
    ∙ both_ways (slice_cmp nat_cmp a b) (slice_cmp nat_cmp b a) (nat_list_cmp_total.antisymm a b) x y)

-- two sales with one name and the same money are one
one_sale : (a b : Sale) → a.name ≡ b.name → a.money ≡ b.money → a ≡ b
one_sale a b e n = ap (λ x. record { name = x; money = a.money }) e ∙ ap (λ x. record { name = b.name; money = x }) n

pub sale_is : (a b : Sale) → same_sale a b ≡ true → a ≡ b
sale_is a b h =
    let p = and_parts (same_name a.name b.name) (a.money == b.money) h in
    let s = same_is a.name b.name p.0 in
    let q = p.1 in
    let n : a.money ≡ b.money = grind (arith, nat_tests) in
    one_sale a b s n

pub sale_self : (a : Sale) → same_sale a a ≡ true
sale_self a = let s = self_same a.name in let n : (a.money == a.money) ≡ true = grind (arith, nat_tests) in
    rw (s, n) refl

pub before_self : (a : Sale) → sale_before a a ≡ false
before_self a = let s = name_self a.name in let n : nat_lt a.money a.money ≡ false = grind (arith, nat_tests) in
    let t = self_same a.name in rw (s, t, n) refl

-- before by name, or of one name with less money
before_parts : (a b : Sale) → sale_before a b ≡ true
    → (name_before a.name b.name ≡ true) ⊎ ((a.name ≡ b.name) × (a.money < b.money))
before_parts a b h =
    ⊎_elim
    (λ (t : name_before a.name b.name ≡ true). inl t)
    (λ (f : name_before a.name b.name ≡ false).
    let p = and_parts (same_name a.name b.name) (nat_lt a.money b.money) (rw f at h) in
    let q = p.1 in
    inr (same_is a.name b.name p.0, let l : a.money < b.money = grind (arith, nat_tests) in l))
    (cases_Bool (name_before a.name b.name))

by_name : (a b : Sale) → name_before a.name b.name ≡ true → sale_before a b ≡ true
by_name a b t = rw t refl

by_money : (a b : Sale) → a.name ≡ b.name → a.money < b.money → sale_before a b ≡ true
by_money a b e l =
    let s : same_name a.name b.name ≡ true = subst (λ n. same_name a.name n ≡ true) e (self_same a.name) in
    let n : nat_lt a.money b.money ≡ true = grind (arith, nat_tests) in
    ⊎_elim (λ (t : name_before a.name b.name ≡ true). rw t refl)
    (λ (f : name_before a.name b.name ≡ false). rw (f, s, n) refl) (cases_Bool (name_before a.name b.name))

pub before_on : (a b c : Sale) → sale_before a b ≡ true → sale_before b c ≡ true → sale_before a c ≡ true
before_on a b c x y =
    ⊎_elim
    (λ (s : name_before a.name b.name ≡ true). ⊎_elim
    (λ (t : name_before b.name c.name ≡ true). by_name a c (name_on a.name b.name c.name s t))
    (λ (t : (b.name ≡ c.name) × (b.money < c.money)). by_name a c (subst (λ n. name_before a.name n ≡ true) t.0 s))
    (before_parts b c y))
    (λ (s : (a.name ≡ b.name) × (a.money < b.money)). ⊎_elim
    (λ (t : name_before b.name c.name ≡ true). by_name a c (subst (λ n. name_before n c.name ≡ true) (sym s.0) t))
    (λ (t : (b.name ≡ c.name) × (b.money < c.money)). by_money a c (s.0 ∙ t.0)
    (let l = s.1 in let m = t.1 in omega arith))
    (before_parts b c y))
    (before_parts a b x)

pub before_total : (a b : Sale) → sale_before a b ≡ false → sale_before b a ≡ false → a ≡ b
before_total a b x y =
    let p = or_parts (name_before a.name b.name) (same_name a.name b.name && nat_lt a.money b.money) x in
    let q = or_parts (name_before b.name a.name) (same_name b.name a.name && nat_lt b.money a.money) y in
    let e = name_total a.name b.name p.0 q.0 in
    let n : a.money ≡ b.money = ⊎_elim
    (λ (t : nat_lt a.money b.money ≡ true). let l : a.money < b.money = grind (arith, nat_tests) in
    absurd (let r = by_money a b e l in let z : true ≡ false = sym r ∙ x in cc))
    (λ (f : nat_lt a.money b.money ≡ false). ⊎_elim
    (λ (t : nat_lt b.money a.money ≡ true). let l : b.money < a.money = grind (arith, nat_tests) in
    absurd (let r = by_money b a (sym e) l in let z : true ≡ false = sym r ∙ y in cc))
    (λ (g : nat_lt b.money a.money ≡ false). grind (arith, nat_tests))
    (cases_Bool (nat_lt b.money a.money)))
    (cases_Bool (nat_lt a.money b.money)) in
    one_sale a b e n
