-- The rule on windows and its test agree.
use Rattle.std.proofs.Common.{◌≡◌, ℕ, zero, suc, Bool, true, false, not, ◌-◌, ◌^◌, ◌<◌, ◌≤◌, ◌&&◌, ◌||◌, ◌==◌, nat_lt, nat_le, refl, arith, sym, subst, ⊎_elim, ◌↔◌, IsTrue}
use Rattle.std.proofs.lemmas.Bool.{and_parts, cases_Bool, cases_eq, and_from}
use Rattle.std.proofs.lemmas.Bool.Decides.{nat_tests}
use Rattle.std.specs.Int.{bit_at}
use Rattle.paygo_spec.specs.History.{is_odd}
use Rattle.paygo_spec.specs.Window.{bit, IsWindow, is_window, all_below}

-- the test of all numbers below n
pub all_at : (f : ℕ → Bool) (n k : ℕ) → all_below f n ≡ true → k < n → f k ≡ true
unfolding all_below
all_at f zero k h l = absurd (omega arith)
all_at f (suc n) k h l = let p = and_parts (f n) (all_below f n) h in ⊎_elim (λ (e : k ≡ n). subst (λ x. f x ≡ true) (sym e) p.0) (λ (b : k ≡ n → ⊥). all_at f n k p.1 (omega arith)) (cases_eq k n)

pub all_from : (f : ℕ → Bool) (n : ℕ) → ((k : ℕ) → k < n → f k ≡ true) → all_below f n ≡ true
unfolding all_below
all_from f zero h = refl
all_from f (suc n) h = and_from (f n) (all_below f n) (h n (omega arith)) (all_from f n (λ k l. h k (omega arith)))

pub window_test : (limit last bits : ℕ) → ((is_window limit last bits ≡ true) ↔ IsWindow limit last bits)
window_test limit last bits = (
  λ e.
      let a = and_parts _ _ e in
      let b = and_parts _ _ a.0 in
      let c = and_parts _ _ b.0 in
      let d = and_parts _ _ c.0 in
      let small : nat_le last limit ≡ true = d.0 in
      let sixteen : nat_lt bits (2 ^ 16) ≡ true = d.1 in
      let first : (bit_at bits 0 == bit (nat_lt 0 last)) ≡ true = c.1 in
      record {
        in_range = grind (arith, nat_tests);
        fits = grind (arith, nat_tests);
        last_spent = grind (arith, nat_tests);
        no_count = λ i l g. let t : (nat_lt i last || bit_at bits i == 0) ≡ true = all_at _ 16 i b.1 l in grind (arith, nat_tests);
        overtaken = λ i j m l h k q o s.
            let t : all_below (λ i. not (nat_lt j last && is_odd (last - i) && bit_at bits i == 1) || bit_at bits j == 1) j ≡ true = all_at _ 16 j a.1 h in
            let u : (not (nat_lt j last && is_odd (last - i) && bit_at bits i == 1) || bit_at bits j == 1) ≡ true = all_at _ j i t l in
            let z : last - i ≡ m = omega arith in
            let o2 : is_odd (last - i) ≡ true = rw z o in
            grind (arith, nat_tests);
      },
  λ w.
      let small : nat_le last limit ≡ true = (let s = w.in_range in grind (arith, nat_tests)) in
      let sixteen : nat_lt bits (2 ^ 16) ≡ true = (let s = w.fits in grind (arith, nat_tests)) in
      let first : (bit_at bits 0 == bit (nat_lt 0 last)) ≡ true = (let s = w.last_spent in grind (arith, nat_tests)) in
      and_from _ _ (and_from _ _ (and_from _ _ (and_from _ _ small sixteen) first)
      (all_from _ 16 (λ i l. let t : last ≤ i → bit_at bits i ≡ 0 = w.no_count i l in grind (arith, nat_tests))))
      (all_from _ 16 (λ j h. all_from _ j (λ i l.
      let t : j < last → is_odd (last - i) ≡ true → bit_at bits i ≡ 1 → bit_at bits j ≡ 1 = λ k o s. w.overtaken i j (last - i) l h k (omega arith) o s in
      grind (arith, nat_tests)))),
)

-- whatever decides the rule is the test
pub test_is : (limit last bits : ℕ) (b : Bool) → (IsTrue b ↔ IsWindow limit last bits) → b ≡ is_window limit last bits
test_is limit last bits true h = sym ((window_test limit last bits).1 (h.0 refl))
test_is limit last bits false h =
    ⊎_elim (λ (e : is_window limit last bits ≡ true). (let t : IsTrue false = h.1 ((window_test limit last bits).0 e) in cc)) (λ (e : is_window limit last bits ≡ false). sym e) (cases_Bool (is_window limit last bits))
