-- A flash on which no device was made, as its headers show it.
use Rattle.std.proofs.Common.{◌≡◌, ℕ, List, Option, Some, None, Ok, Err, IfSome, sym, ◌∙◌}
use Rattle.paygo_spec.specs.Recovery.{Unmade, word_at, number_at, newest_bank, recover}
use Rattle.journal_laws.proofs.Recovered.{headers_unmade}

pub newest_unmade : (words : List ℕ) → recover words ≡ Unmade → newest_bank (word_at words 0 0) (word_at words 1 0) ≡ Ok None
unfolding recover
newest_unmade words is = headers_unmade words (newest_bank (word_at words 0 0) (word_at words 1 0)) is

-- headers that are damaged, or name a bank, are those of another flash
pub other_damaged : (words : Option (List ℕ)) (place : ℕ) → IfSome words (λ words. recover words ≡ Unmade) → IfSome words (λ words. newest_bank (word_at words 0 0) (word_at words 1 0) ≡ Err place)
    → IfSome words (λ words. ⊥)
other_damaged None place unmade is = tt
other_damaged (Some words) place unmade is = let bad : Err place ≡ Ok None = sym is ∙ newest_unmade words unmade in cc

pub other_made : (words : Option (List ℕ)) (number : ℕ) → IfSome words (λ words. recover words ≡ Unmade)
    → IfSome words (λ words. (bank : ℕ) × (newest_bank (word_at words 0 0) (word_at words 1 0) ≡ Ok (Some bank)) × (number ≡ number_at words bank 0)) → IfSome words (λ words. ⊥)
other_made None number unmade is = tt
other_made (Some words) number unmade is = let bad : Ok (Some is.0) ≡ Ok None = sym is.1 ∙ newest_unmade words unmade in cc
