-- The header of the bank that isn't in use, and what becomes of it.
use Rattle.std.proofs.Common.{◌≡◌, ℕ, true, false, ◌^◌, ◌<◌, arith, refl, sym, subst, ⊎_elim}
use Rattle.std.proofs.lemmas.Bool.{cases_Bool}
use Rattle.paygo_spec.specs.Flash.{HasOnesOf, erased_word}
use Rattle.paygo_spec.specs.Rail.{is_railed, is_paired}
use Rattle.paygo_spec.specs.Recovery.{is_header}
use Rattle.word_rail.proofs.Bits.{railed_if_same, torn_of_paired}
use Rattle.journal_laws.specs.Banks.{IsBehind, IsQuiet}

-- a header is paired
pub header_paired : (w : ℕ) → is_header w ≡ true → is_paired w ≡ true
header_paired w h = grind (arith, h)

-- a paired word that isn't railed is a header, and counts for nothing
pub quiet_is : (w : ℕ) → is_paired w ≡ true → is_railed w ≡ false → IsQuiet w
quiet_is w p r = record { sound = rw (p, r) refl; unrailed = r }

pub quiet_erased : IsQuiet erased_word
quiet_erased = quiet_is erased_word refl refl

-- so it counts for less than every number
pub quiet_behind : (w number : ℕ) → IsQuiet w → IsBehind w number
quiet_behind w number q = record { sound = q.sound; older = λ r. absurd (let u = q.unrailed in cc) }

-- a header that is torn is the same, or quiet
pub quiet_torn : (w t : ℕ) → w < 2 ^ 64 → t < 2 ^ 64 → HasOnesOf w t → IsQuiet w → IsQuiet t
quiet_torn w t f g ones q =
    let p = header_paired w q.sound in
    ⊎_elim
    (λ (r : is_railed t ≡ true). subst (λ x. IsQuiet x) (sym (railed_if_same w t f g p ones r)) q)
    (λ (r : is_railed t ≡ false). quiet_is t (torn_of_paired w t f g p ones) r)
    (cases_Bool (is_railed t))

pub behind_torn : (w t number : ℕ) → w < 2 ^ 64 → t < 2 ^ 64 → HasOnesOf w t → IsBehind w number → IsBehind t number
behind_torn w t number f g ones b =
    let p = header_paired w b.sound in
    ⊎_elim
    (λ (r : is_railed t ≡ true). subst (λ x. IsBehind x number) (sym (railed_if_same w t f g p ones r)) b)
    (λ (r : is_railed t ≡ false). quiet_behind t number (quiet_is t (torn_of_paired w t f g p ones) r))
    (cases_Bool (is_railed t))
