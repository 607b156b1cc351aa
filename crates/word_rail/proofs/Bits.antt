-- Railed and paired words, bit by bit.
use Rattle.std.proofs.Common.{◌≡◌, ℕ, true, ◌+◌, ◌-◌, ◌*◌, ◌/◌, ◌%◌, ◌^◌, ◌<◌, ◌≤◌, ◌⊎◌, inl, inr, min, max, arith, bit_and, bit_or, sym, ◌∙◌, ap, subst, ⊎_elim, w32, lit<, ◌↔◌}
use Rattle.std.proofs.lemmas.Bool.{cases_lt, cases_eq, eq-eqb, eqb-true}
use Rattle.std.proofs.lemmas.Bool.Decides.{nat_tests}
use Rattle.std.proofs.lemmas.Nat.Bits.{bit_at_and, bit_at_or, bit_at_ones, bit_at-lt, bit_at_not, bit_at_cat_low, bit_at_cat_high, same_from_bits_below}
use Rattle.std.specs.Int.Bits.{and_mask, and_le_r, or_lt}
use Rattle.std.specs.Int.{bit_at}
use Rattle.paygo_spec.specs.Flash.{HasOnesOf}
use Rattle.paygo_spec.specs.Rail.{railed, IsRailed, IsPaired, HasEachOneOf, is_railed, is_paired, number_in}

-- the bits of the halves
low_half : (w i : ℕ) → i < 32 → bit_at w i ≡ bit_at (w % 2 ^ 32) i
low_half w i h =
    let e : w ≡ w / 2 ^ 32 * 2 ^ 32 + w % 2 ^ 32 = omega arith in
    subst (λ x. bit_at x i ≡ bit_at (w % 2 ^ 32) i) (sym e) (bit_at_cat_low (w / 2 ^ 32) 32 (w % 2 ^ 32) i h)

high_half : (w i : ℕ) → bit_at w (i + 32) ≡ bit_at (w / 2 ^ 32) i
high_half w i =
    let e : w ≡ w / 2 ^ 32 * 2 ^ 32 + w % 2 ^ 32 = omega arith in
    let k : i + 32 - 32 ≡ i = omega arith in
    subst (λ x. bit_at x (i + 32) ≡ bit_at (w / 2 ^ 32) i) (sym e)
    (bit_at_cat_high (w / 2 ^ 32) 32 (w % 2 ^ 32) (i + 32) (omega arith) (omega arith) ∙ ap (λ y. bit_at (w / 2 ^ 32) y) k)

-- of each pair of a railed word exactly one bit is 1
one_of_pair : (w i : ℕ) → w < 2 ^ 64 → IsRailed w → i < 32 → bit_at w i + bit_at w (i + 32) ≡ 1
one_of_pair w i f r h =
    let x : w / 2 ^ 32 < 2 ^ 32 = omega arith in
    let e : w % 2 ^ 32 ≡ 2 ^ 32 - 1 - w / 2 ^ 32 = omega arith in
    let n : bit_at (2 ^ 32 - 1 - w / 2 ^ 32) i ≡ 1 - bit_at (w / 2 ^ 32) i = bit_at_not w32 (w / 2 ^ 32) i x h in
    let b : bit_at (w / 2 ^ 32) i < 2 = bit_at-lt (w / 2 ^ 32) i in
    rw (low_half w i h, high_half w i, e, n) (omega arith)

-- a railed word is paired
pub railed_is_paired : (w : ℕ) → w < 2 ^ 64 → IsRailed w → IsPaired w
railed_is_paired w f r i h =
    let p : bit_at w i + bit_at w (i + 32) ≡ 1 = one_of_pair w i f r h in
    ⊎_elim (λ (e : bit_at w i ≡ 1). inl e) (λ (e : bit_at w i ≡ 1 → ⊥). inr (omega arith)) (cases_eq (bit_at w i) 1)

-- every 1 bit, by `bit_and` and bit by bit
pub each_one : (w t : ℕ) → HasOnesOf w t → HasEachOneOf w t
each_one w t k i h b =
    let a : bit_at (bit_and t w) i ≡ min (bit_at t i) (bit_at w i) = bit_at_and t w i in
    let e : bit_at (bit_and t w) i ≡ bit_at w i = ap (λ x. bit_at x i) k in
    let l : bit_at t i < 2 = bit_at-lt t i in
    omega arith

pub has_ones : (w t : ℕ) → w < 2 ^ 64 → HasEachOneOf w t → HasOnesOf w t
has_ones w t f k =
    let below : bit_and t w < 2 ^ 64 = omega (arith, and_le_r t w) in
    same_from_bits_below 64 (bit_and t w) w below f
    (λ i h.
    let a : bit_at (bit_and t w) i ≡ min (bit_at t i) (bit_at w i) = bit_at_and t w i in
    let l : bit_at w i < 2 = bit_at-lt w i in
    ⊎_elim (λ (e : bit_at w i ≡ 1). (let o : bit_at t i ≡ 1 = k i h e in omega arith))
    (λ (e : bit_at w i ≡ 1 → ⊥). omega arith)
    (cases_eq (bit_at w i) 1))

-- a word torn from a paired one is paired
pub torn_paired : (w t : ℕ) → IsPaired w → HasOnesOf w t → IsPaired t
torn_paired w t p k i h =
    ⊎_elim (λ (e : bit_at w i ≡ 1). inl (each_one w t k i (omega arith) e))
    (λ (e : bit_at w (i + 32) ≡ 1). inr (each_one w t k (i + 32) (omega arith) e))
    (p i h)

-- a word torn from a paired one is railed only where nothing was torn
agree : (w t i : ℕ) → t < 2 ^ 64 → IsPaired w → HasEachOneOf w t → IsRailed t → i < 32 → (bit_at t i ≡ bit_at w i) × (bit_at t (i + 32) ≡ bit_at w (i + 32))
agree w t i f p k r h =
    let o : bit_at t i + bit_at t (i + 32) ≡ 1 = one_of_pair t i f r h in
    let a : bit_at w i ≡ 1 → bit_at t i ≡ 1 = k i (omega arith) in
    let b : bit_at w (i + 32) ≡ 1 → bit_at t (i + 32) ≡ 1 = k (i + 32) (omega arith) in
    let c : bit_at w i < 2 = bit_at-lt w i in
    let d : bit_at w (i + 32) < 2 = bit_at-lt w (i + 32) in
    let q : (bit_at w i ≡ 1) ⊎ (bit_at w (i + 32) ≡ 1) = p i h in
    grind arith

pub torn_railed : (w t : ℕ) → w < 2 ^ 64 → t < 2 ^ 64 → IsPaired w → HasOnesOf w t → IsRailed t → t ≡ w
torn_railed w t f g p k r =
    let each : HasEachOneOf w t = each_one w t k in
    same_from_bits_below 64 t w g f
    (λ i h. ⊎_elim (λ (l : i < 32). (agree w t i g p each r l).0)
    (λ (m : 32 ≤ i). let e : i - 32 + 32 ≡ i = omega arith in subst (λ y. bit_at t y ≡ bit_at w y) e (agree w t (i - 32) g p each r (omega arith)).1)
    (cases_lt i 32))

-- the tests and the facts agree
pub railed_is : (w : ℕ) → ((is_railed w ≡ true) ↔ IsRailed w)
railed_is w = (λ e. eqb-true _ _ e, λ r. eq-eqb _ _ r)

pub railed_number : (w : ℕ) → w < 2 ^ 64 → is_railed w ≡ true → w ≡ railed (number_in w)
railed_number w f r = let q : IsRailed w = eqb-true _ _ r in omega arith

pub paired_is : (w : ℕ) → w < 2 ^ 64 → ((is_paired w ≡ true) ↔ IsPaired w)
paired_is w f = (
  λ e i h.
      let q : bit_or (w / 2 ^ 32) (w % 2 ^ 32) ≡ 2 ^ 32 - 1 = grind (arith, nat_tests) in
      let o : bit_at (bit_or (w / 2 ^ 32) (w % 2 ^ 32)) i ≡ max (bit_at (w / 2 ^ 32) i) (bit_at (w % 2 ^ 32) i) = bit_at_or _ _ i in
      let one : bit_at (2 ^ 32 - 1) i ≡ 1 = bit_at_ones 32 i h in
      let z : max (bit_at (w / 2 ^ 32) i) (bit_at (w % 2 ^ 32) i) ≡ 1 = sym o ∙ (ap (λ y. bit_at y i) q ∙ one) in
      rw (low_half w i h, high_half w i) (grind arith),
  λ p. eq-eqb _ _ (same_from_bits_below 32 (bit_or (w / 2 ^ 32) (w % 2 ^ 32)) (2 ^ 32 - 1)
      (or_lt 32 (w / 2 ^ 32) (w % 2 ^ 32) (omega arith) (omega arith)) (lit< tt)
      (λ i h.
      let o : bit_at (bit_or (w / 2 ^ 32) (w % 2 ^ 32)) i ≡ max (bit_at (w / 2 ^ 32) i) (bit_at (w % 2 ^ 32) i) = bit_at_or _ _ i in
      let one : bit_at (2 ^ 32 - 1) i ≡ 1 = bit_at_ones 32 i h in
      let a : bit_at (w / 2 ^ 32) i < 2 = bit_at-lt (w / 2 ^ 32) i in
      let b : bit_at (w % 2 ^ 32) i < 2 = bit_at-lt (w % 2 ^ 32) i in
      let u : bit_at w i ≡ bit_at (w % 2 ^ 32) i = low_half w i h in
      let v : bit_at w (i + 32) ≡ bit_at (w / 2 ^ 32) i = high_half w i in
      let q : (bit_at w i ≡ 1) ⊎ (bit_at w (i + 32) ≡ 1) = p i h in
      o ∙ (let z : max (bit_at (w / 2 ^ 32) i) (bit_at (w % 2 ^ 32) i) ≡ 1 = grind arith in z ∙ sym one))),
)

-- what the code computes of the low half
pub low_mask : (w : ℕ) → bit_and w 4294967295 ≡ w % 4294967296
low_mask w = and_mask w 32

-- the laws for whoever goes by the tests
pub torn_of_railed : (w t : ℕ) → w < 2 ^ 64 → t < 2 ^ 64 → is_railed w ≡ true → HasOnesOf w t → is_paired t ≡ true
torn_of_railed w t f g r k = (paired_is t g).1 (torn_paired w t (railed_is_paired w f (eqb-true _ _ r)) k)

pub railed_if_same : (w t : ℕ) → w < 2 ^ 64 → t < 2 ^ 64 → is_paired w ≡ true → HasOnesOf w t → is_railed t ≡ true → t ≡ w
railed_if_same w t f g p k r = torn_railed w t f g ((paired_is w f).0 p) k (eqb-true _ _ r)

pub torn_of_paired : (w t : ℕ) → w < 2 ^ 64 → t < 2 ^ 64 → is_paired w ≡ true → HasOnesOf w t → is_paired t ≡ true
torn_of_paired w t f g p k = (paired_is t g).1 (torn_paired w t ((paired_is w f).0 p) k)
