-- How often a lawful history accepts a count.
use Rattle.std.proofs.Common.{◌≡◌, ℕ, true, ◌<◌, ◌≤◌, ◌&&◌, ◌||◌, ◌==◌, inl, inr, ◌↔◌, nat_lt, List, [], ◌∷◌, refl, arith, sym, subst, ⊎_elim}
use Rattle.std.proofs.lemmas.Bool.{cases_lt, cases_eq, or_cases, and_parts}
use Rattle.std.proofs.lemmas.Bool.Decides.{nat_tests}
use Rattle.paygo_spec.specs.declared.Entry.{Entry}
use Rattle.paygo_spec.specs.declared.Entry.TheVariants.{Accept}
use Rattle.paygo_spec.specs.History.{Summary, top, spent, is_odd, accepts, IsSpent, Valid}
use Rattle.paygo_spec.specs.Lawful.{Lawful}

-- an accepted count is spent, and not above the greatest
pub accepted_spent : (start : Summary) (entries : List Entry) (n : ℕ) → 1 ≤ accepts n entries → (spent start entries n ≡ true) × (n ≤ top start entries)
accepted_spent start [] n h = absurd (omega arith)
accepted_spent start (Accept m v ∷ entries) n h =
    ⊎_elim
    (λ (e : m ≡ n). (grind (arith, nat_tests), omega arith))
    (λ (ne : m ≡ n → ⊥). let q : 1 ≤ accepts n entries = grind (arith, nat_tests) in let i = accepted_spent start entries n q in let a = i.0 in let b = i.1 in (grind (arith, nat_tests), omega arith))
    (cases_eq m n)
accepted_spent start (_ ∷ entries) n h = accepted_spent start entries n h

-- what is spent stays spent
pub stays_spent : (start : Summary) (entries : List Entry) (n : ℕ) → spent start [] n ≡ true → (spent start entries n ≡ true) × (n ≤ top start entries)
stays_spent start [] n h = (h, grind (arith, nat_tests))
stays_spent start (Accept m v ∷ entries) n h = let i = stays_spent start entries n h in let a = i.0 in let b = i.1 in (grind (arith, nat_tests), omega arith)
stays_spent start (_ ∷ entries) n h = stays_spent start entries n h

-- what is spent isn't valid
spent_refused : (start : Summary) (entries : List Entry) (n v : ℕ) → spent start entries n ≡ true → n ≤ top start entries → Valid start entries n v → ⊥
spent_refused start entries n v a b w = ⊎_elim (λ o. omega (arith, o.1)) (λ o. (let x = o.2 in cc)) w.3

-- a count is accepted at most once, and never where the start has it as spent
pub once : (unit : ℕ) (start : Summary) (entries : List Entry) (n : ℕ) → Lawful unit start entries → accepts n entries ≤ 1
once unit start [] n h = omega arith
once unit start (Accept m v ∷ entries) n h =
    ⊎_elim
    (λ (e : m ≡ n).
    let none : accepts n entries ≡ 0 =
    ⊎_elim (λ (z : accepts n entries < 1). omega arith)
    (λ (z : 1 ≤ accepts n entries). let i = accepted_spent start entries n z in
    absurd (spent_refused start entries n v i.0 i.1 (subst (λ x. Valid start entries x v) e h.1.1)))
    (cases_lt (accepts n entries) 1) in
    grind (arith, nat_tests))
    (λ (ne : m ≡ n → ⊥). let i : accepts n entries ≤ 1 = once unit start entries n h.0 in grind (arith, nat_tests))
    (cases_eq m n)
once unit start (_ ∷ entries) n h = once unit start entries n h.0

pub never : (unit : ℕ) (start : Summary) (entries : List Entry) (n : ℕ) → Lawful unit start entries → spent start [] n ≡ true → accepts n entries ≡ 0
never unit start [] n h p = refl
never unit start (Accept m v ∷ entries) n h p =
    ⊎_elim
    (λ (e : m ≡ n). let i = stays_spent start entries n p in
    absurd (spent_refused start entries n v i.0 i.1 (subst (λ x. Valid start entries x v) e h.1.1)))
    (λ (ne : m ≡ n → ⊥). let i : accepts n entries ≡ 0 = never unit start entries n h.0 p in grind (arith, nat_tests))
    (cases_eq m n)
never unit start (_ ∷ entries) n h p = never unit start entries n h.0 p

-- the test of what is spent is the fact
more_spent : (start : Summary) (entries : List Entry) (n v m : ℕ) → IsSpent start entries m → IsSpent start (Accept n v ∷ entries) m
more_spent start entries n v m h =
    ⊎_elim (λ (a : 1 ≤ accepts m entries). inl (omega arith))
    (λ r. ⊎_elim (λ o. inr (inl (o.0, o.1, o.2, omega (arith, o.3)))) (λ z. inr (inr z)) r) h

pub is_spent : (start : Summary) (entries : List Entry) (m : ℕ) → spent start entries m ≡ true → IsSpent start entries m
is_spent start [] m h = inr (inr h)
is_spent start (Accept n v ∷ entries) m h =
    ⊎_elim
    (λ (now : (m == n || (is_odd n && nat_lt m n)) ≡ true).
    ⊎_elim
    (λ (e : (m == n) ≡ true). inl (grind (arith, nat_tests)))
    (λ (o : (is_odd n && nat_lt m n) ≡ true).
    let p = and_parts (is_odd n) (nat_lt m n) o in
    let l : nat_lt m n ≡ true = p.1 in
    inr (inl (n, grind (arith, nat_tests), p.0, grind (arith, nat_tests))))
    (or_cases (m == n) (is_odd n && nat_lt m n) now))
    (λ (before : spent start entries m ≡ true). more_spent start entries n v m (is_spent start entries m before))
    (or_cases (m == n || (is_odd n && nat_lt m n)) (spent start entries m) h)
is_spent start (_ ∷ entries) m h = is_spent start entries m h

accepted : (start : Summary) (entries : List Entry) (m : ℕ) → 1 ≤ accepts m entries → spent start entries m ≡ true
accepted start entries m h = let r = accepted_spent start entries m h in r.0

overtaken : (start : Summary) (entries : List Entry) (n m : ℕ) → m < n → is_odd n ≡ true → 1 ≤ accepts n entries → spent start entries m ≡ true
overtaken start [] n m l o h = absurd (omega arith)
overtaken start (Accept k v ∷ entries) n m l o h =
    ⊎_elim
    (λ (e : k ≡ n). let p : is_odd k ≡ true = subst (λ x. is_odd x ≡ true) (sym e) o in grind (arith, nat_tests))
    (λ (ne : k ≡ n → ⊥). let q : 1 ≤ accepts n entries = grind (arith, nat_tests) in let i : spent start entries m ≡ true = overtaken start entries n m l o q in grind (arith, nat_tests))
    (cases_eq k n)
overtaken start (_ ∷ entries) n m l o h = overtaken start entries n m l o h

pub spent_is : (start : Summary) (entries : List Entry) (m : ℕ) → ((spent start entries m ≡ true) ↔ IsSpent start entries m)
spent_is start entries m = (
  is_spent start entries m,
  λ h. ⊎_elim (λ a. accepted start entries m a) (λ r. ⊎_elim (λ o. overtaken start entries o.0 m o.1 o.2 o.3) (λ z. let k = stays_spent start entries m z in k.0) r) h,
)
