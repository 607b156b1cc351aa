-- What is known of the words of a flash, where it tells them.
use Rattle.std.proofs.Common.{◌≡◌, ℕ, List, Option, Some, None, subst}
use Rattle.std.specs.Prelude.{IfSome}

-- a fact on all words
pub told_always : (told : Option (List ℕ)) (P : List ℕ → Type 0) → ((words : List ℕ) → P words) → IfSome told P
told_always None P f = tt
told_always (Some words) P f = f words

both_told : (told : Option (List ℕ)) (P Q R : List ℕ → Type 0) → ((words : List ℕ) → P words → Q words → R words) → IfSome told P → IfSome told Q → IfSome told R
both_told None P Q R f p q = tt
both_told (Some words) P Q R f p q = f words p q

-- two facts on the same words, known of them at two times
pub told_two : (before now : Option (List ℕ)) (P Q R : List ℕ → Type 0) → now ≡ before → ((words : List ℕ) → P words → Q words → R words) → IfSome before P → IfSome now Q → IfSome before R
told_two before now P Q R same f p q = both_told before P Q R f p (subst (λ told. IfSome told Q) same q)
