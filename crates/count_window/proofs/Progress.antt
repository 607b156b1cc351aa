-- How far the test of the rule on windows has come: the bits below i are looked at.
use Rattle.std.proofs.Common.{◌≡◌, ℕ, Bool, true, false, ◌+◌, ◌-◌, ◌<◌, ◌≤◌, ◌||◌, arith, sym, ◌∙◌, subst, ⊎_elim}
use Rattle.std.proofs.lemmas.Bool.{cases_lt, both_ways, or_cases, or_parts}
use borrow.Author.Count.{below_more}
use Rattle.std.specs.Int.{bit_at}
use Rattle.std.proofs.lemmas.Bool.Decides.{nat_tests}
use Rattle.paygo_spec.specs.History.{is_odd}

pub record Progress (last bits i : ℕ) (now : Bool) : Type 0 where
  pub no_count : (k : ℕ) → k < i → last ≤ k → bit_at bits k ≡ 0
  pub overtaken : (a j m : ℕ) → a < j → j < i → j < last → a + m ≡ last → is_odd m ≡ true → bit_at bits a ≡ 1 → bit_at bits j ≡ 1
  pub seen : now ≡ true → (a : ℕ) × (m : ℕ) × (a < i) × (a + m ≡ last) × (is_odd m ≡ true) × (bit_at bits a ≡ 1)
  pub unseen : now ≡ false → (a m : ℕ) → a < i → a + m ≡ last → is_odd m ≡ true → bit_at bits a ≡ 1 → ⊥

module _ (last bits i : ℕ) (before : Bool) (p : Progress last bits i before) where
  -- a place of no count
  pub past : last ≤ i → bit_at bits i ≡ 0 → Progress last bits (i + 1) before
  past h z = record {
    no_count = below_more _ _ p.no_count (λ l. z);
    overtaken = λ a j m x y w q o b. p.overtaken a j m x (omega arith) w q o b;
    seen = λ e. let s = p.seen e in (s.0, s.1, omega arith, s.3, s.4, s.5);
    unseen = λ e a m x q o b. ⊎_elim (λ (l : a < i). p.unseen e a m l q o b) (λ (g : i ≤ a). let u : a ≡ i = omega arith in grind (arith, nat_tests)) (cases_lt a i);
  }

  -- a count that isn't spent
  pub clear : i < last → bit_at bits i ≡ 0 → before ≡ false → Progress last bits (i + 1) before
  clear h z f = record {
    no_count = λ k x y. ⊎_elim (λ (l : k < i). p.no_count k l y) (λ (g : i ≤ k). absurd (omega arith)) (cases_lt k i);
    overtaken = λ a j m x y w q o b. ⊎_elim (λ (l : j < i). p.overtaken a j m x l w q o b) (λ (g : i ≤ j). absurd (p.unseen f a m (omega arith) q o b)) (cases_lt j i);
    seen = λ e. absurd (both_ways before f e);
    unseen = λ e a m x q o b. ⊎_elim (λ (l : a < i). p.unseen e a m l q o b) (λ (g : i ≤ a). let u : a ≡ i = omega arith in let v : bit_at bits i ≡ 1 = subst (λ y. bit_at bits y ≡ 1) u b in absurd (omega arith)) (cases_lt a i);
  }

  -- a spent count
  pub used : (now : Bool) → i < last → bit_at bits i ≡ 1 → now ≡ (before || is_odd (last - i)) → Progress last bits (i + 1) now
  used now h z n = record {
    no_count = λ k x y. ⊎_elim (λ (l : k < i). p.no_count k l y) (λ (g : i ≤ k). absurd (omega arith)) (cases_lt k i);
    overtaken = λ a j m x y w q o b. ⊎_elim (λ (l : j < i). p.overtaken a j m x l w q o b) (λ (g : i ≤ j). let u : j ≡ i = omega arith in rw u z) (cases_lt j i);
    seen = λ e. ⊎_elim (λ (t : before ≡ true). let s = p.seen t in (s.0, s.1, omega arith, s.3, s.4, s.5))
        (λ (t : is_odd (last - i) ≡ true). (i, last - i, omega arith, omega arith, t, z))
        (or_cases before (is_odd (last - i)) (sym n ∙ e));
    unseen = λ e a m x q o b.
        let parts = or_parts before (is_odd (last - i)) (sym n ∙ e) in
        ⊎_elim (λ (l : a < i). p.unseen parts.0 a m l q o b)
        (λ (g : i ≤ a). let u : m ≡ last - i = omega arith in both_ways (is_odd (last - i)) parts.1 (subst (λ y. is_odd y ≡ true) u o)) (cases_lt a i);
  }
