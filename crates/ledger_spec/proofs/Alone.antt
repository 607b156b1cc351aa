-- A number stands alone where no other number below the bound has its value.
use Rattle.std.proofs.Common.{◌≡◌, inl, inr, ℕ, zero, suc, ◌+◌, ◌<◌, Bool, true, false, ◌&&◌, [], ◌∷◌, ◌++◌, refl, sym, ap, ◌∙◌, add-one, arith}
use Rattle.std.specs.List.{list_all, range_with_len}
use Rattle.std.proofs.lemmas.Bool.{and_parts, and_from, cases_eq}
use Rattle.std.proofs.lemmas.Bool.Decides.{nat_tests}
use Rattle.std.proofs.lemmas.List.{map-id}
use Rattle.std.proofs.lemmas.List.Folds.{list_all-append}
use Rattle.std.proofs.lemmas.List.FromFn.{map-range_with_len_more}
use Rattle.ledger_spec.specs.Issuing.{differs, stands_alone}

range_more : (n : ℕ) → range_with_len 0 (n + 1) ≡ range_with_len 0 n ++ n ∷ []
range_more n = simp map-id at (map-range_with_len_more (λ (k : ℕ). k) 0 n n (omega arith))

and_true : (b : Bool) → (b && true) ≡ b
and_true true = refl
and_true false = refl

next_alone : (f : ℕ → ℕ) (n m : ℕ) → stands_alone f n (m + 1) ≡ (stands_alone f n m && differs f n m)
unfolding stands_alone
next_alone f n m =
    ap (λ xs. list_all (differs f n) xs) (range_more m) ∙ list_all-append (differs f n) (range_with_len 0 m) (m ∷ [])
    ∙ ap (λ b. list_all (differs f n) (range_with_len 0 m) && b) (and_true (differs f n m))

pub alone_none : (f : ℕ → ℕ) (n : ℕ) → stands_alone f n 0 ≡ true
unfolding stands_alone
alone_none f n = refl

pub alone_more : (f : ℕ → ℕ) (n m : ℕ) → stands_alone f n m ≡ true → differs f n m ≡ true → stands_alone f n (m + 1) ≡ true
alone_more f n m alone differ = next_alone f n m ∙ and_from _ _ alone differ

-- while every number differs
each_differs : (f : ℕ → ℕ) (n bound : ℕ) → stands_alone f n bound ≡ true → (m : ℕ) → m < bound → differs f n m ≡ true
each_differs f n zero alone m below = absurd (omega arith)
each_differs f n (suc bound) alone m below =
    let both = and_parts _ _ (sym (next_alone f n bound) ∙ ap (λ k. stands_alone f n k) (add-one bound) ∙ alone) in
    elim (cases_eq m bound) [
      | inl same ↦ ap (λ k. differs f n k) same ∙ both.1
      | inr other ↦ each_differs f n bound both.0 m (omega arith)
    ]

not_true : (b : Bool) → (b ≡ true → ⊥) → b ≡ false
not_true true never = absurd (never refl)
not_true false never = refl

pub alone_not : (f : ℕ → ℕ) (n m bound : ℕ) → m < bound → differs f n m ≡ false → stands_alone f n bound ≡ false
alone_not f n m bound below not = not_true (stands_alone f n bound) (λ alone. let yes : differs f n m ≡ true = each_differs f n bound alone m below in cc)

differs_says : (f : ℕ → ℕ) (n m : ℕ) → differs f n m ≡ true → f m ≡ f n → m ≡ n
differs_says f n m differ same = grind (arith, nat_tests)

pub alone_says : (f : ℕ → ℕ) (n bound : ℕ) → stands_alone f n bound ≡ true → (m : ℕ) → m < bound → f m ≡ f n → m ≡ n
alone_says f n bound alone m below same = differs_says f n m (each_differs f n bound alone m below) same

pub differs_not : (f : ℕ → ℕ) (n m : ℕ) → (m ≡ n → ⊥) → f m ≡ f n → differs f n m ≡ false
differs_not f n m other same = grind (arith, nat_tests)
