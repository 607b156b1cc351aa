-- A value that stands once in a list of values is that of one number of the list alone.
use Rattle.std.proofs.Common.{◌≡◌, ◌⊎◌, inl, inr, ℕ, zero, suc, ◌+◌, ◌<◌, Bool, true, false, ◌&&◌, ◌==◌, cond, nat_lt, refl, sym, ap, ◌∙◌, subst, add-one, arith}
use Rattle.std.specs.List.{count_by}
use Rattle.std.proofs.lemmas.Bool.{cases_Bool, cases_eq}
use Rattle.std.proofs.lemmas.Bool.Decides.{nat_tests}
use Rattle.std.proofs.lemmas.List.FromFn.{sum_by-map-range_with_len_more}
use Rattle.ledger_spec.specs.Issuing.{differs, stands_alone}
use Rattle.token_issue.specs.Lists.{values_below}
use Rattle.token_issue.proofs.Ranges.{all_more}

and_true : (b : Bool) → (b && true) ≡ b
and_true true = refl
and_true false = refl

-- one number more to be told apart from
alone_next : (f : ℕ → ℕ) (n m : ℕ) → stands_alone f n (m + 1) ≡ (stands_alone f n m && differs f n m)
unfolding stands_alone
alone_next f n m = all_more (differs f n) m

-- how often a value is had below the bound
abbrev times : (ℕ → ℕ) → ℕ → ℕ → ℕ
times f x bound = count_by (λ y. y == x) (values_below f bound)

times_next : (f : ℕ → ℕ) (x m : ℕ) → times f x (m + 1) ≡ times f x m + cond (f m == x) 1 0
unfolding values_below
times_next f x m = sum_by-map-range_with_len_more (λ y. cond (y == x) 1 0) f 0 m m (omega arith)

-- how often n itself has its value below the bound
abbrev own : ℕ → ℕ → ℕ
own n bound = cond (nat_lt n bound) 1 0

own_itself : (n m : ℕ) → m ≡ n → own n (m + 1) ≡ own n m + 1
own_itself n m same = grind (arith, nat_tests)

own_other : (n m : ℕ) → (m ≡ n → ⊥) → own n (m + 1) ≡ own n m
own_other n m other = grind (arith, nat_tests)

-- the value of n is had by n alone, or by others too
abbrev Tally : (ℕ → ℕ) → ℕ → ℕ → Type 0
Tally f n bound = ((stands_alone f n bound ≡ true) × (times f (f n) bound ≡ own n bound)) ⊎ ((stands_alone f n bound ≡ false) × (own n bound < times f (f n) bound))

own_none : (n : ℕ) → own n 0 ≡ 0
own_none n = grind (arith, nat_tests)

tally_none : (f : ℕ → ℕ) (n : ℕ) → Tally f n 0
unfolding stands_alone values_below
tally_none f n = inl (refl, sym (own_none n))

and_more : (a b : Bool) → b ≡ true → (a && b) ≡ a
and_more a b h = rw h (and_true a)

and_less : (a b : Bool) → b ≡ false → (a && b) ≡ false
and_less true b h = h
and_less false b h = refl

-- n itself comes
tally_itself : (f : ℕ → ℕ) (n m : ℕ) → m ≡ n → Tally f n m → Tally f n (m + 1)
tally_itself f n m same before =
    let differ : differs f n m ≡ true = grind (arith, nat_tests) in
    let equal : (f m == f n) ≡ true = rw same (grind (arith, nat_tests)) in
    let alone : stands_alone f n (m + 1) ≡ stands_alone f n m = alone_next f n m ∙ and_more _ _ differ in
    let more : times f (f n) (m + 1) ≡ times f (f n) m + 1 = times_next f (f n) m ∙ ap (λ b. times f (f n) m + cond b 1 0) equal in
    let mine : own n (m + 1) ≡ own n m + 1 = own_itself n m same in
    elim before [
      | inl h ↦ inl (alone ∙ h.0, omega (arith, h.1))
      | inr h ↦ inr (alone ∙ h.0, omega (arith, h.1))
    ]

-- another number with the value comes
tally_again : (f : ℕ → ℕ) (n m : ℕ) → (m ≡ n → ⊥) → (f m == f n) ≡ true → Tally f n m → Tally f n (m + 1)
tally_again f n m other equal before =
    let differ : differs f n m ≡ false = grind (arith, nat_tests) in
    let alone : stands_alone f n (m + 1) ≡ false = alone_next f n m ∙ and_less _ _ differ in
    let more : times f (f n) (m + 1) ≡ times f (f n) m + 1 = times_next f (f n) m ∙ ap (λ b. times f (f n) m + cond b 1 0) equal in
    let mine : own n (m + 1) ≡ own n m = own_other n m other in
    elim before [
      | inl h ↦ inr (alone, omega (arith, h.1))
      | inr h ↦ inr (alone, omega (arith, h.1))
    ]

-- a number with another value comes
tally_apart : (f : ℕ → ℕ) (n m : ℕ) → (m ≡ n → ⊥) → (f m == f n) ≡ false → Tally f n m → Tally f n (m + 1)
tally_apart f n m other apart before =
    let differ : differs f n m ≡ true = grind (arith, nat_tests) in
    let alone : stands_alone f n (m + 1) ≡ stands_alone f n m = alone_next f n m ∙ and_more _ _ differ in
    let more : times f (f n) (m + 1) ≡ times f (f n) m + 0 = times_next f (f n) m ∙ ap (λ b. times f (f n) m + cond b 1 0) apart in
    let mine : own n (m + 1) ≡ own n m = own_other n m other in
    elim before [
      | inl h ↦ inl (alone ∙ h.0, omega (arith, h.1))
      | inr h ↦ inr (alone ∙ h.0, omega (arith, h.1))
    ]

tally_more : (f : ℕ → ℕ) (n m : ℕ) → Tally f n m → Tally f n (m + 1)
tally_more f n m before =
    elim (cases_eq m n) [
      | inl same ↦ tally_itself f n m same before
      | inr other ↦ elim (cases_Bool (f m == f n)) [
        | inl equal ↦ tally_again f n m other equal before
        | inr apart ↦ tally_apart f n m other apart before
      ]
    ]

tally : (f : ℕ → ℕ) (n bound : ℕ) → Tally f n bound
tally f n zero = tally_none f n
tally f n (suc m) = subst (λ (k : ℕ). Tally f n k) (add-one m) (tally_more f n m (tally f n m))

-- A number below the bound stands alone exactly where its value is had once.
pub once_is_alone : (f : ℕ → ℕ) (n bound : ℕ) → n < bound → (times f (f n) bound == 1) ≡ stands_alone f n bound
once_is_alone f n bound below =
    let mine : own n bound ≡ 1 = grind (arith, nat_tests) in
    elim (tally f n bound) [
      | inl h ↦ (let once : times f (f n) bound ≡ 1 = h.1 ∙ mine in rw once (sym h.0))
      | inr h ↦ (let often : 1 < times f (f n) bound = omega (arith, h.1) in
          let not_once : (times f (f n) bound == 1) ≡ false = grind (arith, nat_tests) in
          not_once ∙ sym h.0)
    ]
