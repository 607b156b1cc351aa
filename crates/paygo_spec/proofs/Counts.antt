-- Which counts are spent in a history.
use Rattle.std.proofs.Common.{◌≡◌, ℕ, Bool, true, false, ◌-◌, ◌<◌, ◌≤◌, List, [], ◌∷◌, refl, arith, subst, ⊎_elim}
use Rattle.std.proofs.lemmas.Bool.{cases_lt, cases_eq}
use Rattle.std.proofs.lemmas.Bool.Decides.{nat_tests}
use Rattle.std.specs.Int.{bit_at}
use Rattle.paygo_spec.specs.declared.Entry.{Entry}
use Rattle.paygo_spec.specs.declared.Entry.TheVariants.{Accept}
use Rattle.paygo_spec.specs.History.{Summary, top, spent, is_odd}
use Rattle.paygo_spec.specs.Window.{bit, IsWindow}

-- a fact is read from its bit
pub bit_false : (b : Bool) → bit b ≡ 0 → b ≡ false
bit_false true h = cc
bit_false false h = refl

pub bit_true : (b : Bool) → bit b ≡ 1 → b ≡ true
bit_true true h = refl
bit_true false h = cc

-- a count above the greatest accepted one isn't spent
pub unspent_above : (start : Summary) (entries : List Entry) (m : ℕ) → top start entries < m → spent start entries m ≡ false
unspent_above start [] m h = grind (arith, nat_tests)
unspent_above start (Accept n v ∷ entries) m h = grind (arith, nat_tests, unspent_above start entries m (omega arith))
unspent_above start (_ ∷ entries) m h = unspent_above start entries m h

-- below a spent odd count every count is spent
pub spent_below : (start : Summary) (entries : List Entry) (m k : ℕ) → IsWindow start.limit start.last start.bits → is_odd m ≡ true → spent start entries m ≡ true → 1 ≤ k → k < m → spent start entries k ≡ true
spent_below start [] m k w o h l b =
    let t : (start.last - k < 16) → (m ≤ start.last) → bit_at start.bits (start.last - m) ≡ 1 → bit_at start.bits (start.last - k) ≡ 1 =
    λ p q r. w.overtaken (start.last - m) (start.last - k) m (omega arith) p (omega arith) (omega arith) o r in
    grind (arith, nat_tests)
spent_below start (Accept n v ∷ entries) m k w o h l b =
    let i : spent start entries m ≡ true → spent start entries k ≡ true = λ g. spent_below start entries m k w o g l b in
    ⊎_elim
    (λ (e : m ≡ n). let p : is_odd n ≡ true = subst (λ x. is_odd x ≡ true) e o in grind (arith, nat_tests))
    (λ (ne : m ≡ n → ⊥). grind (arith, nat_tests))
    (cases_eq m n)
spent_below start (_ ∷ entries) m k w o h l b = spent_below start entries m k w o h l b

-- the greatest accepted count is spent
pub top_spent : (start : Summary) (entries : List Entry) (m : ℕ) → m ≡ top start entries → IsWindow start.limit start.last start.bits → 1 ≤ m → spent start entries m ≡ true
top_spent start [] m e w l =
    let z : start.last - m ≡ 0 = omega arith in
    rw z (rw w.last_spent (grind (arith, nat_tests)))
top_spent start (Accept n v ∷ entries) m e w l =
    ⊎_elim
    (λ (a : n < m). let i : spent start entries m ≡ true = top_spent start entries m (omega arith) w l in grind (arith, nat_tests))
    (λ (a : m ≤ n). let q : m ≡ n = omega arith in grind (arith, nat_tests))
    (cases_lt n m)
top_spent start (_ ∷ entries) m e w l = top_spent start entries m e w l
