-- The least number that passes a test: how a search that counts up finds it, and what its answer means.
use Rattle.std.proofs.Common.{◌≡◌, ℕ, zero, suc, ◌+◌, ◌-◌, ◌<◌, ◌≤◌, Bool, true, false, cond, Option, Some, None, List, [], ◌∷◌, ◌++◌, slice_get, refl, sym, ap, ◌∙◌, subst, add-one, add-zero, arith}
use Rattle.std.proofs.lemmas.List.{map-id}
use Rattle.std.proofs.lemmas.List.FromFn.{filter_of_map_range_with_len_more}
use borrow.Author.Count.{below_more}
use Rattle.paygo_spec.specs.Least.{passing, least, IsLeast}

-- one number more is at the end, if it passes
passing_more : (p : ℕ → Bool) (n : ℕ) → passing p (n + 1) ≡ passing p n ++ cond (p n) (n ∷ []) []
passing_more p n =
    let more = filter_of_map_range_with_len_more p (λ (k : ℕ). k) 0 n n (omega arith) in
    simp map-id at more

-- the first of some numbers stays the first when others come after them
first_kept : (xs ys : List ℕ) (n : ℕ) → slice_get xs 0 ≡ Some n → slice_get (xs ++ ys) 0 ≡ Some n
first_kept [] ys n is = cc
first_kept (x ∷ xs) ys n is = is

-- where there is no first number, it comes from the others
first_new : (xs ys : List ℕ) → slice_get xs 0 ≡ None → slice_get (xs ++ ys) 0 ≡ slice_get ys 0
first_new [] ys none = refl
first_new (x ∷ xs) ys none = cc

-- no number is below 0
pub least_none : (p : ℕ → Bool) → least p 0 ≡ None
unfolding least
least_none p = refl

-- where none passed so far, a number that passes is the least
pub least_more_yes : (p : ℕ → Bool) (n : ℕ) → least p n ≡ None → p n ≡ true → least p (n + 1) ≡ Some n
unfolding least
least_more_yes p n none passes =
    rw passing_more (first_new (passing p n) (cond (p n) (n ∷ []) []) none ∙ rw passes refl)

-- where none passed so far, a number that fails leaves none
pub least_skip : (p : ℕ → Bool) (n : ℕ) → least p n ≡ None → p n ≡ false → least p (n + 1) ≡ None
unfolding least
least_skip p n none fails =
    rw passing_more (first_new (passing p n) (cond (p n) (n ∷ []) []) none ∙ rw fails refl)

-- the least stays the least when one number more comes
pub least_more_kept : (p : ℕ → Bool) (n found : ℕ) → least p n ≡ Some found → least p (n + 1) ≡ Some found
unfolding least
least_more_kept p n found is =
    rw passing_more (first_kept (passing p n) (cond (p n) (n ∷ []) []) found is)

-- it stays the least over a number of steps
kept_over : (p : ℕ → Bool) (n found more : ℕ) → least p n ≡ Some found → least p (n + more) ≡ Some found
kept_over p n found zero is = rw add-zero is
kept_over p n found (suc more) is =
    let onward : (n + more) + 1 ≡ n + suc more = omega arith in
    subst (λ (k : ℕ). least p k ≡ Some found) onward (least_more_kept p (n + more) found (kept_over p n found more is))

-- the least stays the least under a higher bound
pub least_kept : (p : ℕ → Bool) (n bound found : ℕ) → n ≤ bound → least p n ≡ Some found → least p bound ≡ Some found
least_kept p n bound found within is =
    let whole : n + (bound - n) ≡ bound = omega arith in
    subst (λ (k : ℕ). least p k ≡ Some found) whole (kept_over p n found (bound - n) is)

-- a search that stops at the first number that passes has found the least under its bound
pub least_found : (p : ℕ → Bool) (n bound : ℕ) → least p n ≡ None → p n ≡ true → n < bound → least p bound ≡ Some n
least_found p n bound none passes below =
    least_kept p (n + 1) bound n (omega arith) (least_more_yes p n none passes)

-- two tests that agree below a bound are passed by the same numbers
passing_same : (p q : ℕ → Bool) (n : ℕ) → ((m : ℕ) → m < n → p m ≡ q m) → passing p n ≡ passing q n
passing_same p q zero same = refl
passing_same p q (suc n) same =
    let before = passing_same p q n (λ m below. same m (omega arith)) in
    let here = same n (omega arith) in
    subst (λ (k : ℕ). passing p k ≡ passing q k) (add-one n)
    (passing_more p n ∙ rw (before, here) (sym (passing_more q n)))

-- and have the same least number there
pub least_same : (p q : ℕ → Bool) (bound : ℕ) → ((m : ℕ) → m < bound → p m ≡ q m) → least p bound ≡ least q bound
unfolding least
least_same p q bound same = ap (λ (xs : List ℕ). slice_get xs 0) (passing_same p q bound same)

-- where none passes below n + 1, none passes below n, and n fails
none_before : (p : ℕ → Bool) (n : ℕ) (before : Option ℕ) (here : Bool) → least p n ≡ before → p n ≡ here → least p (n + 1) ≡ None → (least p n ≡ None) × (p n ≡ false)
none_before p n None false none fails all = (none, fails)
none_before p n None true none passes all = let found = least_more_yes p n none passes in cc
none_before p n (Some m) here is _ all = let found = least_more_kept p n m is in cc

-- where there is no least number, each number below the bound fails
pub least_says_none : (p : ℕ → Bool) (bound : ℕ) → least p bound ≡ None → (m : ℕ) → m < bound → p m ≡ false
least_says_none p zero none m below = absurd (omega arith)
least_says_none p (suc n) none m below =
    let last = none_before p n (least p n) (p n) refl refl (rw add-one none) in
    below_more (λ (k : ℕ). p k ≡ false) n (least_says_none p n last.0) last.1 m (omega arith)

-- the least number below n + 1, by what is known below n
least_before : (p : ℕ → Bool) (n found : ℕ) (before : Option ℕ) (here : Bool) → least p n ≡ before → p n ≡ here → (least p n ≡ Some found → IsLeast p n found) → least p (n + 1) ≡ Some found → IsLeast p (n + 1) found
least_before p n found None false none fails known is = let skipped = least_skip p n none fails in cc
least_before p n found None true none passes known is =
    let new = least_more_yes p n none passes in
    let same : n ≡ found = cc in
    subst (λ (k : ℕ). IsLeast p (n + 1) k) same (record {
      below = omega arith;
      passes = passes;
      first = least_says_none p n none;
    })
least_before p n found (Some m) here old _ known is =
    let kept = least_more_kept p n m old in
    let it = known (cc) in
    record { below = omega (arith, it.below); passes = it.passes; first = it.first }

-- where there is a least number, it is below the bound and passes, and each one before it fails
pub least_says_some : (p : ℕ → Bool) (bound n : ℕ) → least p bound ≡ Some n → IsLeast p bound n
least_says_some p zero n is = let none = least_none p in cc
least_says_some p (suc bound) n is =
    let whole = least_before p bound n (least p bound) (p bound) refl refl (least_says_some p bound n) (rw add-one is) in
    subst (λ (k : ℕ). IsLeast p k n) (add-one bound) whole

-- where each number below the bound fails, there is no least one
pub least_of_none : (p : ℕ → Bool) (bound : ℕ) → ((m : ℕ) → m < bound → p m ≡ false) → least p bound ≡ None
least_of_none p zero fails = least_none p
least_of_none p (suc n) fails =
    subst (λ (k : ℕ). least p k ≡ None) (add-one n)
    (least_skip p n (least_of_none p n (λ m below. fails m (omega arith))) (fails n (omega arith)))

-- what is meant by the least number is what `least` gives
pub least_of_some : (p : ℕ → Bool) (bound n : ℕ) → IsLeast p bound n → least p bound ≡ Some n
least_of_some p bound n is = least_found p n bound (least_of_none p n is.first) is.passes is.below
