-- A count by parts of a list.
use Rattle.std.proofs.Common.{◌≡◌, ℕ, ◌+◌, ◌-◌, ◌*◌, ◌==◌, cond, List, length, take, drop, arith, length-drop}
use Rattle.std.specs.List.{count_by}
use Rattle.std.proofs.Math.Seq.{take-add}
use Rattle.std.proofs.lemmas.List.{take_all}
use Rattle.std.proofs.lemmas.List.Sums.{sum_by-append, sum_by-take-drop}

-- the count of a longer part, by that of the part and of what comes after it
pub count_more : (x block : ℕ) (xs : List ℕ) → count_by (λ y. y == x) (take (8 * (block + 1)) xs) ≡ count_by (λ y. y == x) (take (8 * block) xs) + count_by (λ y. y == x) (take 8 (drop (8 * block) xs))
count_more x block xs =
    let at : 8 * (block + 1) ≡ 8 * block + 8 = omega arith in
    rw at (rw take-add (sum_by-append (λ y. cond (y == x) 1 0) (take (8 * block) xs) (take 8 (drop (8 * block) xs))))

-- the count of the whole, by its two parts
pub count_parts : (x at : ℕ) (xs : List ℕ) → count_by (λ y. y == x) (take at xs) + count_by (λ y. y == x) (drop at xs) ≡ count_by (λ y. y == x) xs
count_parts x at xs = sum_by-take-drop (λ y. cond (y == x) 1 0) xs at

-- a slice from a place on is all that is left from there
pub rest_is : (at : ℕ) (xs : List ℕ) → take (length xs - at) (drop at xs) ≡ drop at xs
rest_is at xs = take_all (length xs - at) (drop at xs) (omega (arith, length-drop at xs))
