-- Words that are taken one after another.
use Rattle.std.proofs.Common.{◌≡◌, ℕ, ◌+◌, ◌<◌, List, [], ◌∷◌, ◌++◌, map, take, length, get_or, ap, sym, ◌∙◌}
use Rattle.std.proofs.lemmas.List.{take_more, map-append}

pub one_more : {S W : Type 0} (text : S → List ℕ) (now : W → List ℕ) (all : List S) (i : ℕ) (one : S) (old new : List W) (word : W)
    → i < length all → one ≡ get_or all i one → map now old ≡ map text (take i all) → now word ≡ text one → new ≡ old ++ word ∷ []
    → map now new ≡ map text (take (i + 1) all)
one_more text now all i one old new word within is before same grown =
    let more : take (i + 1) all ≡ take i all ++ one ∷ [] = take_more all i one within ∙ ap (λ s. take i all ++ s ∷ []) (sym is) in
    ap (map now) grown ∙ map-append now old (word ∷ []) ∙ (λ k. before k ++ same k ∷ []) ∙ sym (map-append text (take i all) (one ∷ [])) ∙ ap (map text) (sym more)
