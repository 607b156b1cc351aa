-- The words of a bank's entries, one by one: the summary that they lead to, and how many places they use.
use Rattle.std.proofs.Common.{◌≡◌, ℕ, zero, suc, ◌+◌, ◌*◌, ◌<◌, ◌==◌, if◌then◌else◌, List, Ok, refl, arith, ◌∙◌, ap, add-one}
use Rattle.paygo_spec.specs.Flash.{erased_word}
use Rattle.paygo_spec.specs.History.{Summary}
use Rattle.paygo_spec.specs.Recovery.{word_at, after_word, summary_after, used}

-- one word more
pub summary_step : (ws : List ℕ) (bank unit : ℕ) (s : Summary) (n : ℕ) → summary_after ws bank unit s (n + 1) ≡ after_word unit (512 * bank + (12 + n)) (word_at ws bank (12 + n)) (summary_after ws bank unit s n)
unfolding summary_after
summary_step ws bank unit s n = rw add-one refl

pub used_step : (ws : List ℕ) (bank n : ℕ) → used ws bank (n + 1) ≡ (if word_at ws bank (12 + n) == erased_word then used ws bank n else n + 1)
unfolding used
used_step ws bank n = rw add-one refl

-- no word yet
pub summary_none : (ws : List ℕ) (bank unit : ℕ) (s : Summary) → summary_after ws bank unit s 0 ≡ Ok s
unfolding summary_after
summary_none ws bank unit s = refl

pub used_none : (ws : List ℕ) (bank : ℕ) → used ws bank 0 ≡ 0
unfolding used
used_none ws bank = refl

-- what isn't read doesn't matter
pub summary_same : (ws vs : List ℕ) (bank unit : ℕ) (s : Summary) (n : ℕ) → ((k : ℕ) → k < n → word_at vs bank (12 + k) ≡ word_at ws bank (12 + k)) → summary_after vs bank unit s n ≡ summary_after ws bank unit s n
unfolding summary_after
summary_same ws vs bank unit s zero e = refl
summary_same ws vs bank unit s (suc n) e =
    let w : word_at vs bank (12 + n) ≡ word_at ws bank (12 + n) = e n (omega arith) in
    let i : summary_after vs bank unit s n ≡ summary_after ws bank unit s n = summary_same ws vs bank unit s n (λ k l. e k (omega arith)) in
    ap (λ x. after_word unit (512 * bank + (12 + n)) x (summary_after vs bank unit s n)) w ∙ ap (after_word unit (512 * bank + (12 + n)) (word_at ws bank (12 + n))) i

pub used_same : (ws vs : List ℕ) (bank n : ℕ) → ((k : ℕ) → k < n → word_at vs bank (12 + k) ≡ word_at ws bank (12 + k)) → used vs bank n ≡ used ws bank n
unfolding used
used_same ws vs bank zero e = refl
used_same ws vs bank (suc n) e =
    let w : word_at vs bank (12 + n) ≡ word_at ws bank (12 + n) = e n (omega arith) in
    let i : used vs bank n ≡ used ws bank n = used_same ws vs bank n (λ k l. e k (omega arith)) in
    ap (λ x. if x == erased_word then used vs bank n else suc n) w ∙ ap (λ x. if word_at ws bank (12 + n) == erased_word then x else suc n) i
