-- Two names are one exactly where the test says so.
use Rattle.std.proofs.Common.{◌≡◌, ℕ, List, Bool, true, false, ◌⊎◌, inl, inr, refl}
use Rattle.std.proofs.lemmas.Slice.Eq.{bytes_eq-Decides}
use Rattle.ledger_spec.specs.Names.{same_name}

pub same_is : (a b : List ℕ) → same_name a b ≡ true → a ≡ b
unfolding same_name
same_is a b h = (bytes_eq-Decides a b).0 h

pub is_same : (a b : List ℕ) → a ≡ b → same_name a b ≡ true
unfolding same_name
is_same a b h = (bytes_eq-Decides a b).1 h

pub self_same : (a : List ℕ) → same_name a a ≡ true
self_same a = is_same a a refl

by_test : (a b : List ℕ) (t : Bool) → same_name a b ≡ t → (a ≡ b) ⊎ (same_name a b ≡ false)
by_test a b true is = inl (same_is a b is)
by_test a b false is = inr is

-- two names are one, or the test says that they aren't
pub same_or_not : (a b : List ℕ) → (a ≡ b) ⊎ (same_name a b ≡ false)
same_or_not a b = by_test a b (same_name a b) refl
