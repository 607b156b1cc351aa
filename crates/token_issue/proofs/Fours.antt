-- Four elements, one by one.
use Rattle.std.proofs.Common.{◌≡◌, ℕ, zero, suc, ◌<◌, get_or, [], ◌∷◌, arith}

pub four_same : {A : Type 0} (a b c d : A) (a' b' c' d' : A) → a ≡ a' → b ≡ b' → c ≡ c' → d ≡ d' → (a ∷ b ∷ c ∷ d ∷ []) ≡ (a' ∷ b' ∷ c' ∷ d' ∷ [])
four_same a b c d a' b' c' d' p q r s = cc

pub four_below : (a b c d bound : ℕ) → a < bound → b < bound → c < bound → d < bound → (i : ℕ) → i < 4 → get_or (a ∷ b ∷ c ∷ d ∷ []) i 0 < bound
four_below a b c d bound p q r s zero below = p
four_below a b c d bound p q r s (suc zero) below = q
four_below a b c d bound p q r s (suc (suc zero)) below = r
four_below a b c d bound p q r s (suc (suc (suc zero))) below = s
four_below a b c d bound p q r s (suc (suc (suc (suc i)))) below = absurd (omega arith)
