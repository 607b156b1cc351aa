-- Erased words among those of a bank's entries.
use Rattle.std.proofs.Common.{◌≡◌, ℕ, zero, suc, ◌+◌, ◌*◌, ◌<◌, ◌≤◌, List, Ok, Err, Result, refl, arith, ◌∙◌, ap, ⊎_elim}
use Rattle.std.proofs.lemmas.Bool.{cases_lt, cases_eq}
use Rattle.std.proofs.lemmas.Bool.Decides.{nat_tests}
use Rattle.paygo_spec.specs.Flash.{erased_word}
use Rattle.paygo_spec.specs.History.{Summary}
use Rattle.paygo_spec.specs.Recovery.{word_at, after_word, summary_after, used}

-- an erased word is passed over
pub after_erased : (unit at : ℕ) (r : Result Summary ℕ) → after_word unit at erased_word r ≡ r
after_erased unit at (Ok s) = refl
after_erased unit at (Err e) = refl

-- from the next place on each word is erased
pub erased_above : (ws : List ℕ) (bank m k : ℕ) → used ws bank m ≤ k → k < m → word_at ws bank (12 + k) ≡ erased_word
unfolding used
erased_above ws bank zero k h l = absurd (omega arith)
erased_above ws bank (suc m) k h l =
    ⊎_elim
    (λ (e : word_at ws bank (12 + m) ≡ erased_word).
    let q : used ws bank (suc m) ≡ used ws bank m = grind (arith, nat_tests) in
    ⊎_elim
    (λ (b : k < m). erased_above ws bank m k (omega arith) b)
    (λ (b : m ≤ k). let z : k ≡ m = omega arith in rw z e)
    (cases_lt k m))
    (λ (ne : word_at ws bank (12 + m) ≡ erased_word → ⊥). let q : used ws bank (suc m) ≡ suc m = grind (arith, nat_tests) in absurd (omega arith))
    (cases_eq (word_at ws bank (12 + m)) erased_word)

-- erased words behind the first n change nothing
pub summary_tail : (ws : List ℕ) (bank unit : ℕ) (s : Summary) (n m : ℕ) → n ≤ m → ((k : ℕ) → n ≤ k → k < m → word_at ws bank (12 + k) ≡ erased_word) → summary_after ws bank unit s m ≡ summary_after ws bank unit s n
unfolding summary_after
summary_tail ws bank unit s n zero h e = let z : n ≡ 0 = omega arith in rw z refl
summary_tail ws bank unit s n (suc m) h e =
    ⊎_elim
    (λ (b : m < n). let z : n ≡ suc m = omega arith in rw z refl)
    (λ (b : n ≤ m).
    let w : word_at ws bank (12 + m) ≡ erased_word = e m b (omega arith) in
    ap (λ x. after_word unit (512 * bank + (12 + m)) x (summary_after ws bank unit s m)) w
    ∙ after_erased unit (512 * bank + (12 + m)) (summary_after ws bank unit s m)
    ∙ summary_tail ws bank unit s n m b (λ k x y. e k x (omega arith)))
    (cases_lt m n)

pub used_tail : (ws : List ℕ) (bank n m : ℕ) → n ≤ m → ((k : ℕ) → n ≤ k → k < m → word_at ws bank (12 + k) ≡ erased_word) → used ws bank m ≡ used ws bank n
unfolding used
used_tail ws bank n zero h e = let z : n ≡ 0 = omega arith in rw z refl
used_tail ws bank n (suc m) h e =
    ⊎_elim
    (λ (b : m < n). let z : n ≡ suc m = omega arith in rw z refl)
    (λ (b : n ≤ m).
    let w : word_at ws bank (12 + m) ≡ erased_word = e m b (omega arith) in
    let q : used ws bank (suc m) ≡ used ws bank m = grind (arith, nat_tests) in
    q ∙ used_tail ws bank n m b (λ k x y. e k x (omega arith)))
    (cases_lt m n)
