-- A test of all numbers below a bound.
use Rattle.std.proofs.Common.{◌≡◌, ℕ, ◌+◌, Bool, true, false, ◌&&◌, [], ◌∷◌, ◌++◌, refl, ap, ◌∙◌, arith}
use Rattle.std.specs.List.{list_all, range_with_len}
use Rattle.std.proofs.lemmas.List.{map-id}
use Rattle.std.proofs.lemmas.List.Folds.{list_all-append}
use Rattle.std.proofs.lemmas.List.FromFn.{map-range_with_len_more}

range_more : (n : ℕ) → range_with_len 0 (n + 1) ≡ range_with_len 0 n ++ n ∷ []
range_more n = simp map-id at (map-range_with_len_more (λ (k : ℕ). k) 0 n n (omega arith))

and_true : (b : Bool) → (b && true) ≡ b
and_true true = refl
and_true false = refl

-- one number more is tested
pub all_more : (p : ℕ → Bool) (m : ℕ) → list_all p (range_with_len 0 (m + 1)) ≡ (list_all p (range_with_len 0 m) && p m)
all_more p m =
    ap (λ xs. list_all p xs) (range_more m) ∙ list_all-append p (range_with_len 0 m) (m ∷ [])
    ∙ ap (λ b. list_all p (range_with_len 0 m) && b) (and_true (p m))
