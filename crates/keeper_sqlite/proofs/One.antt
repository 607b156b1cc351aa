-- Columns that are the only ones.
use Rattle.std.proofs.Common.{◌≡◌, ℕ, List, [], ◌∷◌, length, map, get_or, Option, Some, refl, sym, ap, ◌∙◌, arith}

-- What they say is all that is said.
pub one_said : {C X : Type 0} (f : C → Option X) (all : List C) (c : C) (x : X) → length all ≡ 1 → c ≡ get_or all 0 c → f c ≡ Some x → map f all ≡ Some x ∷ []
one_said f [] c x one here is = absurd (omega (arith, one))
one_said f (d ∷ []) c x one here is = ap (λ o. o ∷ []) (sym (ap f here) ∙ is)
one_said f (d ∷ e ∷ all) c x one here is = absurd (omega (arith, one))
