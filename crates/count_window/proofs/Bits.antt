-- What the operations on sixteen bits do to each bit.
use Rattle.std.proofs.Common.{◌≡◌, ℕ, ◌-◌, ◌*◌, ◌%◌, ◌^◌, ◌<◌, ◌≤◌, ◌==◌, nat_lt, if◌then◌else◌, min, max, refl, arith, bit_and, bit_or, ◌∙◌, ⊎_elim, w16, lit<, add-zero}
use Rattle.std.proofs.lemmas.Bool.{cases_lt, cases_eq}
use Rattle.std.proofs.lemmas.Nat.{pow_below}
use Rattle.std.proofs.Math.Pow.{pow_pos}
use Rattle.std.proofs.Math.Nat.{mod-eq_of_lt}
use Rattle.std.proofs.lemmas.Bool.Decides.{nat_tests}
use Rattle.std.proofs.lemmas.Nat.Bits.{bit_at_and, bit_at_or, bit_at_ones, bit_at_ones_above, bit_at-lt, bit_at_set_same, bit_at_set_other, bit_at_cat_low, bit_at_cat_high, bit_at-pow_other, bit_at-zero}
use Rattle.std.specs.Int.Bits.{and_mask, or_lt}
use Rattle.std.specs.Int.{bit_at}
use Rattle.count_window.specs.Bits.{HasBits}

-- the low 16 bits
low_bit : (n i : ℕ) → i < 16 → bit_at (n % 65536) i ≡ bit_at n i
low_bit n i h =
    let a : bit_at (bit_and n (2 ^ 16 - 1)) i ≡ min (bit_at n i) (bit_at (2 ^ 16 - 1) i) = bit_at_and n (2 ^ 16 - 1) i in
    let b : bit_at (2 ^ 16 - 1) i ≡ 1 = bit_at_ones 16 i h in
    let d : bit_at n i < 2 = bit_at-lt n i in
    let e : bit_and n (2 ^ 16 - 1) ≡ n % 65536 = and_mask n 16 in
    rw (← e) (rw (a, b) (omega arith))

-- one bit more
pub marked_bits : (n at : ℕ) → n < 65536 → at < 16 → HasBits (bit_or n (1 * 2 ^ at % 65536)) (λ i. if i == at then 1 else bit_at n i)
marked_bits n at f h = (
  or_lt 16 n (1 * 2 ^ at % 65536) f (omega arith),
  λ i k. ⊎_elim
      (λ (e : i ≡ at). rw e (grind (arith, nat_tests, bit_at_set_same w16 n at h)))
      (λ (ne : i ≡ at → ⊥). grind (arith, nat_tests, bit_at_set_other w16 n at h i ne))
      (cases_eq i at),
)

-- ones below a place
pub ones_bits : (n : ℕ) → n < 16 → HasBits (1 * 2 ^ n % 65536 - 1) (λ i. if nat_lt i n then 1 else 0)
ones_bits n h =
    let p : 2 ^ n < 65536 = pow_below n 16 h in
    let e : 1 * 2 ^ n % 65536 ≡ 2 ^ n = grind (arith, mod-eq_of_lt) in
    rw e (
      omega arith,
      λ i k. ⊎_elim
          (λ (l : i < n). grind (arith, nat_tests, bit_at_ones n i l))
          (λ (g : n ≤ i). grind (arith, nat_tests, bit_at_ones_above n i g))
          (cases_lt i n),
    )

pub full_bits : (n : ℕ) → 16 ≤ n → HasBits 65535 (λ i. if nat_lt i n then 1 else 0)
full_bits n h = (lit< tt, λ i k. let b : bit_at 65535 i ≡ 1 = bit_at_ones 16 i k in grind (arith, nat_tests))

-- all bits moved up
bit_of_one : (i : ℕ) → bit_at 1 i ≡ (if i == 0 then 1 else 0)
bit_of_one i =
    ⊎_elim (λ (e : i ≡ 0). rw e refl)
    (λ (ne : i ≡ 0 → ⊥). let z : bit_at 1 i ≡ 0 = bit_at-pow_other 0 i ne in grind (arith, nat_tests))
    (cases_eq i 0)

pub one_bits : (n step : ℕ) → 16 ≤ step → HasBits 1 (λ i. if i == 0 then 1 else if nat_lt i step then 0 else bit_at n (i - step))
one_bits n step h = (lit< tt, λ i k. let b : bit_at 1 i ≡ (if i == 0 then 1 else 0) = bit_of_one i in grind (arith, nat_tests))

pub moved_bits : (n step : ℕ) → 1 ≤ step → step < 16 → HasBits (bit_or (n * 2 ^ step % 65536) 1) (λ i. if i == 0 then 1 else if nat_lt i step then 0 else bit_at n (i - step))
moved_bits n step l h = (
  or_lt 16 _ 1 (omega arith) (lit< tt),
  λ i k.
      let o : bit_at (bit_or (n * 2 ^ step % 65536) 1) i ≡ max (bit_at (n * 2 ^ step % 65536) i) (bit_at 1 i) = bit_at_or _ 1 i in
      let m : bit_at (n * 2 ^ step % 65536) i ≡ bit_at (n * 2 ^ step) i = low_bit _ i k in
      let b : bit_at 1 i ≡ (if i == 0 then 1 else 0) = bit_of_one i in
      let two : bit_at n (i - step) < 2 = bit_at-lt n (i - step) in
      ⊎_elim
      (λ (s : i < step). let z : bit_at (n * 2 ^ step) i ≡ 0 = (rw add-zero at (bit_at_cat_low n step 0 i s)) ∙ bit_at-zero i in grind (arith, nat_tests))
      (λ (g : step ≤ i). let z : bit_at (n * 2 ^ step) i ≡ bit_at n (i - step) = rw add-zero at (bit_at_cat_high n step 0 i (pow_pos step) g) in grind (arith, nat_tests))
      (cases_lt i step),
)
