-- Four steps side by side are four steps.
use Rattle.std.proofs.Common.{◌≡◌, ℕ, List, [], ◌∷◌, length, map, get_or, refl, ap, ◌∙◌, arith}
use Rattle.std.specs.Simd.Lanes.{zip2}
use Rattle.paygo_spec.specs.Chain.{folded, plain_next}
use Rattle.paygo_spec.specs.Sip.{sip}
use Rattle.sip_lanes.specs.Side.{lanes, key_lanes, hash_of_word, word_of}

-- a list of four elements, element by element
four_elements : {A : Type 0} (d : A) (xs : List A) → length xs ≡ 4 → get_or xs 0 d ∷ get_or xs 1 d ∷ get_or xs 2 d ∷ get_or xs 3 d ∷ [] ≡ xs
four_elements d [] long = absurd (omega arith)
four_elements d (a ∷ []) long = absurd (omega arith)
four_elements d (a ∷ b ∷ []) long = absurd (omega arith)
four_elements d (a ∷ b ∷ c ∷ []) long = absurd (omega arith)
four_elements d (a ∷ b ∷ c ∷ e ∷ []) long = refl
four_elements d (a ∷ b ∷ c ∷ e ∷ f ∷ xs) long = absurd (omega arith)

-- the next codes, by the messages as numbers
next_lanes : (keys : List (List ℕ)) (codes : List ℕ) → map folded (zip2 hash_of_word (key_lanes keys) (map word_of (lanes codes))) ≡ zip2 plain_next (key_lanes keys) (lanes codes)
unfolding plain_next sip hash_of_word
next_lanes keys codes = refl

pub next_four : (keys : List (List ℕ)) (codes : List ℕ) → length keys ≡ 4 → length codes ≡ 4 → map folded (zip2 hash_of_word (key_lanes keys) (map word_of (lanes codes))) ≡ zip2 plain_next keys codes
next_four keys codes four_keys four_codes =
    next_lanes keys codes
    ∙ ap (λ (ks : List (List ℕ)). zip2 plain_next ks (lanes codes)) (four_elements [] keys four_keys)
    ∙ ap (λ (cs : List ℕ). zip2 plain_next keys cs) (four_elements 0 codes four_codes)
