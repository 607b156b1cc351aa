-- Words of no form.
use Rattle.std.proofs.Common.{◌≡◌, ℕ, ◌≤◌, List, [], ◌∷◌, length, map, None, refl, arith, ap, ◌∙◌}
use Rattle.std.proofs.lemmas.List.{length-map}
use Rattle.command_words.specs.Forms.{work_of}

pub none_long : (words : List (List ℕ)) → 5 ≤ length words → work_of words ≡ None
none_long [] long = absurd (omega (arith, long))
none_long (a ∷ []) long = absurd (omega (arith, long))
none_long (a ∷ b ∷ []) long = absurd (omega (arith, long))
none_long (a ∷ b ∷ c ∷ []) long = absurd (omega (arith, long))
none_long (a ∷ b ∷ c ∷ d ∷ []) long = absurd (omega (arith, long))
none_long (a ∷ b ∷ c ∷ d ∷ e ∷ words) long = refl

pub none_of : {A : Type 0} (f : A → List ℕ) (words : List A) → 5 ≤ length words → work_of (map f words) ≡ None
none_of f words long = none_long (map f words) (omega (arith, long, length-map words f))
