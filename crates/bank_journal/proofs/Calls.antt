-- How many calls of the flash were made.
use Rattle.std.proofs.Common.{◌≡◌, ℕ, ◌+◌, ◌-◌, ◌<◌, ◌≤◌, Option, Some, None, true, arith, refl, ◌∙◌, sym, ap, subst}
use Rattle.paygo_spec.specs.Faults.{raised}
use Rattle.paygo_spec.specs.Flash.{FlashView, DueAfter, DueWithin, Passed, Failed}

pub after_none : (a : Option (Option ℕ)) → DueAfter 0 a a
after_none None = refl
after_none (Some None) = refl
after_none (Some (Some d)) = (omega arith, ap (λ (n : ℕ). Some (Some n)) (omega arith))

after_more : (m n k : ℕ) (a b c : Option (Option ℕ)) → k ≡ m + n → DueAfter m a b → DueAfter n b c → DueAfter k a c
after_more m n k None b c q h = subst (λ x. DueAfter n x c → c ≡ None) (sym h) (λ z. z)
after_more m n k (Some None) b c q h = subst (λ x. DueAfter n x c → c ≡ Some None) (sym h) (λ z. z)
after_more m n k (Some (Some d)) b c q h =
    subst (λ x. DueAfter n x c → DueAfter k (Some (Some d)) c) (sym h.1)
    (λ z. (let l : m ≤ d = h.0 in let r : n ≤ d - m = z.0 in omega arith, z.1 ∙ ap (λ (i : ℕ). Some (Some i)) (let l : m ≤ d = h.0 in omega arith)))

after_within : (m n k : ℕ) (a b c : Option (Option ℕ)) → m + n ≤ k → DueAfter m a b → DueWithin n b c → DueWithin k a c
after_within m n k None b c q h = subst (λ x. DueWithin n x c → c ≡ None) (sym h) (λ z. z)
after_within m n k (Some None) b c q h = subst (λ x. DueWithin n x c → ⊥) (sym h) (λ z. z)
after_within m n k (Some (Some d)) b c q h =
    subst (λ x. DueWithin n x c → DueWithin k (Some (Some d)) c) (sym h.1)
    (λ z. (let l : m ≤ d = h.0 in let r : d - m < n = z.0 in omega arith, z.1))

-- no call yet
pub passed_none : (a : FlashView) → a.up ≡ true → Passed 0 a a
passed_none a u = record { up = u; due = after_none a.due; faults = refl }

-- calls that passed after calls that passed
pub passed_more : (m n k : ℕ) (a b c : FlashView) → k ≡ m + n → Passed m a b → Passed n b c → Passed k a c
passed_more m n k a b c q x y = record { up = y.up; due = after_more m n k a.due b.due c.due q x.due y.due; faults = y.faults ∙ x.faults }

-- a call that failed after calls that passed
pub passed_failed : (m n k : ℕ) (a b c : FlashView) → m + n ≤ k → Passed m a b → Failed n b c → Failed k a c
passed_failed m n k a b c q x y = record {
  down = y.down;
  due = after_within m n k a.due b.due c.due q x.due y.due;
  rose = y.rose ∙ ap (λ (n : ℕ). raised n 1) x.faults;
}
