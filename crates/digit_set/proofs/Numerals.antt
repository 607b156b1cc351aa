-- Numerals in any radix and with any first key, and the first place where a test passes.
use Rattle.std.proofs.Common.{◌≡◌, ℕ, zero, suc, Bool, true, false, not, cond, ◌&&◌, ◌+◌, ◌-◌, ◌*◌, ◌/◌, ◌%◌, ◌^◌, ◌<◌, ◌≤◌, nat_le, nat_lt, List, [], ◌∷◌, ◌++◌, length, slice_index, refl, arith, sym, ◌∙◌, ap, subst, ⊎_elim, Some, None}
use Rattle.std.specs.declared.option.Option.{Option}
use Rattle.std.specs.List.{position_from}
use Rattle.std.proofs.lemmas.List.{length-append}
use Rattle.std.proofs.lemmas.Bool.Decides.{nat_tests}
use Rattle.std.proofs.lemmas.Nat.{div_below, mod_below, div-add-mod', div-mul-add, mod-mul-add, mul-add-lt}
use Rattle.std.proofs.Math.ListN.{get_or-append}
use Rattle.std.proofs.Math.Seq.{get_or-append_seam}
use Rattle.std.proofs.lemmas.Bool.{cases_lt}
use Rattle.std.proofs.Math.Nat.{pow-suc, pow-succ', pow-zero, div-one, div-div-eq-div-mul}
use Rattle.paygo_spec.specs.Digits.{numeral, number_after}

-- one digit more at the end
pub number_after-snoc : (r z acc : ℕ) (xs : List ℕ) (d : ℕ) → number_after r z acc (xs ++ d ∷ []) ≡ number_after r z acc xs * r + (d - z)
number_after-snoc r z acc [] d = refl
number_after-snoc r z acc (x ∷ xs) d = number_after-snoc r z (acc * r + (x - z)) xs d

pub length-numeral : (r z n x : ℕ) → length (numeral r z n x) ≡ n
unfolding numeral
length-numeral r z zero x = refl
length-numeral r z (suc n) x =
    length-append (numeral r z n (x / r)) ((z + x % r) ∷ []) ∙ (rw (length-numeral r z n (x / r)) (omega arith))

-- the last digit stands at the end
pub numeral-suc : (r z n x : ℕ) → numeral r z (suc n) x ≡ numeral r z n (x / r) ++ (z + x % r) ∷ []
unfolding numeral
numeral-suc r z n x = refl

pub numeral-zero : (r z x : ℕ) → numeral r z 0 x ≡ []
unfolding numeral
numeral-zero r z x = refl

-- a numeral says its number
pub number_after-numeral : (r z n x : ℕ) → 0 < r → x < r ^ n → number_after r z 0 (numeral r z n x) ≡ x
unfolding numeral
number_after-numeral r z zero x p h = let e : r ^ 0 ≡ 1 = pow-zero r in omega arith
number_after-numeral r z (suc n) x p h =
    let below : x / r < r ^ n = div_below x r (r ^ n) p (subst (λ y. x < y) (pow-suc r n) h) in
    let whole : x / r * r + x % r ≡ x = div-add-mod' x r in
    number_after-snoc r z 0 (numeral r z n (x / r)) (z + x % r)
    ∙ rw (number_after-numeral r z n (x / r) p below) (omega arith)

-- where the test passes nowhere
clear_head : (b : Bool) (i : ℕ) (o : Option ℕ) → cond b (Some i) o ≡ None → (b ≡ false) × (o ≡ None)
clear_head true i o h = absurd (cc)
clear_head false i o h = (refl, h)

pub position_from-snoc : (p : ℕ → Bool) (i : ℕ) (xs : List ℕ) (d : ℕ) → position_from p i xs ≡ None → p d ≡ false → position_from p i (xs ++ d ∷ []) ≡ None
position_from-snoc p i [] d h e = rw e refl
position_from-snoc p i (x ∷ xs) d h e =
    let k : (p x ≡ false) × (position_from p (i + 1) xs ≡ None) = clear_head (p x) i _ h in
    rw k.0 (position_from-snoc p (i + 1) xs d k.1 e)

pub position_from-front : (p : ℕ → Bool) (i : ℕ) (xs : List ℕ) (d : ℕ) → position_from p i (xs ++ d ∷ []) ≡ None → (position_from p i xs ≡ None) × (p d ≡ false)
position_from-front p i [] d h = (refl, (clear_head (p d) i None h).0)
position_from-front p i (x ∷ xs) d h =
    let k : (p x ≡ false) × (position_from p (i + 1) (xs ++ d ∷ []) ≡ None) = clear_head (p x) i _ h in
    let m : (position_from p (i + 1) xs ≡ None) × (p d ≡ false) = position_from-front p (i + 1) xs d k.1 in
    (rw k.0 m.0, m.1)

-- the keys of a numeral are digits, each of them
pub key_is : (z r d : ℕ) → d < r → not (nat_le z (z + d) && nat_lt (z + d) (z + r)) ≡ false
key_is z r d h = grind (arith, nat_tests)

pub is_key : (z r b : ℕ) → not (nat_le z b && nat_lt b (z + r)) ≡ false → (z ≤ b) × (b < z + r)
is_key z r b h = grind (arith, nat_tests)

pub numeral_is_clear : (r z n x i : ℕ) → 0 < r → position_from (λ b. not (nat_le z b && nat_lt b (z + r))) i (numeral r z n x) ≡ None
unfolding numeral
numeral_is_clear r z zero x i p = refl
numeral_is_clear r z (suc n) x i p =
    position_from-snoc (λ b. not (nat_le z b && nat_lt b (z + r))) i (numeral r z n (x / r)) (z + x % r)
    (numeral_is_clear r z n (x / r) i p) (key_is z r (x % r) (mod_below x r p))

-- a list that isn't empty has a last element
snoc : (xs : List ℕ) (n : ℕ) → length xs ≡ suc n → (ys : List ℕ) × (d : ℕ) × (xs ≡ ys ++ d ∷ []) × (length ys ≡ n)
snoc [] n h = absurd (omega arith)
snoc (x ∷ []) zero h = ([], x, refl, refl)
snoc (x ∷ []) (suc n) h = absurd (omega arith)
snoc (x ∷ (y ∷ xs)) zero h = absurd (omega arith)
snoc (x ∷ (y ∷ xs)) (suc n) h =
    let k : (ys : List ℕ) × (d : ℕ) × (y ∷ xs ≡ ys ++ d ∷ []) × (length ys ≡ n) = snoc (y ∷ xs) n (omega arith) in
    (x ∷ k.0, k.1, ap (λ l. x ∷ l) k.2, ap suc k.3)

-- digits are the numeral of their number
more : (r z n : ℕ) (ys : List ℕ) (d : ℕ) → z ≤ d → d < z + r → number_after r z 0 ys < r ^ n → ys ≡ numeral r z n (number_after r z 0 ys) → (number_after r z 0 (ys ++ d ∷ []) < r ^ suc n) × (ys ++ d ∷ [] ≡ numeral r z (suc n) (number_after r z 0 (ys ++ d ∷ [])))
more r z n ys d a b h e =
    let w : number_after r z 0 (ys ++ d ∷ []) ≡ number_after r z 0 ys * r + (d - z) = number_after-snoc r z 0 ys d in
    let small : d - z < r = omega arith in
    let q : (number_after r z 0 ys * r + (d - z)) / r ≡ number_after r z 0 ys = div-mul-add (number_after r z 0 ys) r (d - z) small in
    let m : (number_after r z 0 ys * r + (d - z)) % r ≡ d - z = mod-mul-add (number_after r z 0 ys) r (d - z) small in
    let back : z + (d - z) ≡ d = omega arith in (
      subst (λ x. x < r ^ suc n) (sym w)
          (subst (λ y. number_after r z 0 ys * r + (d - z) < y) (sym (pow-succ' r n)) (mul-add-lt (number_after r z 0 ys) r (d - z) (r ^ n) h small)),
      ap (λ l. l ++ d ∷ []) e
          ∙ sym (rw (w, numeral-suc r z n (number_after r z 0 ys * r + (d - z)), q, m, back) refl),
    )

pub numeral_of : (r z n i : ℕ) (xs : List ℕ) → length xs ≡ n → position_from (λ b. not (nat_le z b && nat_lt b (z + r))) i xs ≡ None → (number_after r z 0 xs < r ^ n) × (xs ≡ numeral r z n (number_after r z 0 xs))
numeral_of r z zero i [] l h = (rw (pow-zero r) (omega arith), sym (numeral-zero r z 0))
numeral_of r z zero i (x ∷ xs) l h = absurd (omega arith)
numeral_of r z (suc n) i xs l h =
    let k : (ys : List ℕ) × (d : ℕ) × (xs ≡ ys ++ d ∷ []) × (length ys ≡ n) = snoc xs n l in
    let g : (position_from (λ b. not (nat_le z b && nat_lt b (z + r))) i k.0 ≡ None) × (not (nat_le z k.1 && nat_lt k.1 (z + r)) ≡ false) =
    position_from-front (λ b. not (nat_le z b && nat_lt b (z + r))) i k.0 k.1
    (subst (λ l. position_from (λ b. not (nat_le z b && nat_lt b (z + r))) i l ≡ None) k.2 h) in
    let f : (number_after r z 0 k.0 < r ^ n) × (k.0 ≡ numeral r z n (number_after r z 0 k.0)) = numeral_of r z n i k.0 k.3 g.0 in
    let b : (z ≤ k.1) × (k.1 < z + r) = is_key z r k.1 g.1 in
    subst (λ l. (number_after r z 0 l < r ^ suc n) × (l ≡ numeral r z (suc n) (number_after r z 0 l))) (sym k.2)
    (more r z n k.0 k.1 b.0 b.1 f.0 f.1)

-- the first place, by its offset
abbrev pub IsOffset : (ℕ → Bool) → ℕ → List ℕ → ℕ → ℕ → Type 0
IsOffset p i xs k j = (k ≡ i + j) × (j < length xs) × (p (slice_index xs j) ≡ true) × ((m : ℕ) → m < j → p (slice_index xs m) ≡ false)

offset_here : (p : ℕ → Bool) (i : ℕ) (x : ℕ) (xs : List ℕ) (k : ℕ) → p x ≡ true → Some i ≡ Some k → IsOffset p i (x ∷ xs) k 0
offset_here p i x xs k e h =
    let w : i ≡ k = cc in
    (omega arith, omega arith, e, λ m l. absurd (omega arith))

offset_later : (p : ℕ → Bool) (i : ℕ) (x : ℕ) (xs : List ℕ) (k j : ℕ) → p x ≡ false → IsOffset p (i + 1) xs k j → IsOffset p i (x ∷ xs) k (suc j)
offset_later p i x xs k j e h =
    let sum : k ≡ i + 1 + j = h.0 in
    let inside : j < length xs = h.1 in (
      omega arith,
      omega arith,
      h.2,
      λ m. elim m as (λ v. v < suc j → p (slice_index (x ∷ xs) v) ≡ false) [ zero ↦ λ l. e | suc m' ↦ λ l. h.3 m' (omega arith) ],
    )

offset_by : (p : ℕ → Bool) (i : ℕ) (x : ℕ) (xs : List ℕ) (k : ℕ) (b : Bool) → p x ≡ b → cond b (Some i) (position_from p (i + 1) xs) ≡ Some k → (position_from p (i + 1) xs ≡ Some k → (j : ℕ) × IsOffset p (i + 1) xs k j) → (j : ℕ) × IsOffset p i (x ∷ xs) k j
offset_by p i x xs k true e h again = (0, offset_here p i x xs k e h)
offset_by p i x xs k false e h again =
    let w : (j : ℕ) × IsOffset p (i + 1) xs k j = again h in
    (suc w.0, offset_later p i x xs k w.0 e w.1)

pub offset_of : (p : ℕ → Bool) (i : ℕ) (xs : List ℕ) (k : ℕ) → position_from p i xs ≡ Some k → (j : ℕ) × IsOffset p i xs k j
offset_of p i [] k h = absurd (cc)
offset_of p i (x ∷ xs) k h = offset_by p i x xs k (p x) refl h (offset_of p (i + 1) xs k)

pub position_at : (p : ℕ → Bool) (i : ℕ) (xs : List ℕ) (j : ℕ) → j < length xs → p (slice_index xs j) ≡ true → ((m : ℕ) → m < j → p (slice_index xs m) ≡ false) → position_from p i xs ≡ Some (i + j)
position_at p i [] j l e b = absurd (omega arith)
position_at p i (x ∷ xs) zero l e b = rw e (ap (λ n. Some n) (omega arith))
position_at p i (x ∷ xs) (suc j) l e b =
    let first : p x ≡ false = b 0 (omega arith) in
    let moved : i + 1 + j ≡ i + suc j = omega arith in
    rw first (position_at p (i + 1) xs j (omega arith) e (λ m h. b (suc m) (omega arith)) ∙ ap (λ n. Some n) moved)

-- the digit at each place
pub slice_index-numeral : (r z n x i : ℕ) → i < n → slice_index (numeral r z n x) i ≡ z + x / r ^ (n - 1 - i) % r
unfolding numeral
slice_index-numeral r z zero x i h = absurd (omega arith)
slice_index-numeral r z (suc n) x i h =
    ⊎_elim
    (λ (l : i < n).
    let j : suc n - 1 - i ≡ suc (n - 1 - i) = omega arith in
    let inside : i < length (numeral r z n (x / r)) = rw (length-numeral r z n (x / r)) l in
    get_or-append (numeral r z n (x / r)) ((z + x % r) ∷ []) 0 i inside
    ∙ (slice_index-numeral r z n (x / r) i l
    ∙ ap (λ y. z + y % r)
    (div-div-eq-div-mul x r (r ^ (n - 1 - i)) ∙ ap (λ y. x / y) (sym (pow-succ' r (n - 1 - i)) ∙ ap (λ k. r ^ k) (sym j)))))
    (λ (g : n ≤ i).
    let j : suc n - 1 - i ≡ 0 = omega arith in
    let end : length (numeral r z n (x / r)) ≡ i = length-numeral r z n (x / r) ∙ (let e : n ≡ i = omega arith in e) in
    subst (λ k. slice_index (numeral r z n (x / r) ++ (z + x % r) ∷ []) k ≡ z + x % r) end
    (get_or-append_seam (numeral r z n (x / r)) (z + x % r) [] 0)
    ∙ ap (λ y. z + y % r) (sym (ap (λ y. x / y) (ap (λ k. r ^ k) j ∙ pow-zero r) ∙ div-one x)))
    (cases_lt i n)
