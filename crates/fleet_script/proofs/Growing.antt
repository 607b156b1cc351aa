-- One device more, and one day more.
use Rattle.std.proofs.Common.{◌≡◌, ℕ, ◌+◌, List, [], ◌∷◌, ◌++◌, map, refl, ap, sym, ◌∙◌, arith}
use Rattle.std.specs.List.{flat_map, range_with_len}
use Rattle.std.proofs.lemmas.List.{flat_map_more}
use Rattle.std.proofs.lemmas.List.FromFn.{map-range_with_len_more}
use Rattle.ledger_spec.specs.declared.Enrol.{Enrol}
use Rattle.fleet_spec.specs.declared.Step.{Step}
use Rattle.fleet_spec.specs.Words.{word_on}
use Rattle.fleet_spec.specs.Script.{enrol_of, enrols_of, steps_by, steps_of_day, steps_of}

-- each element as it is
map_same : (ns : List ℕ) → map (λ n. n) ns ≡ ns
map_same [] = refl
map_same (n ∷ ns) = ap (λ l. n ∷ l) (map_same ns)

-- one number more
range_more : (n : ℕ) → range_with_len 0 (n + 1) ≡ range_with_len 0 n ++ n ∷ []
range_more n = sym (map_same (range_with_len 0 (n + 1))) ∙ map-range_with_len_more (λ k. k) 0 n n (omega arith) ∙ ap (λ l. l ++ n ∷ []) (map_same (range_with_len 0 n))

-- what is drawn for one number more stands behind the others
flat_more : {X : Type 0} (f : ℕ → List X) (front : List X) (n : ℕ) → (front ++ flat_map f (range_with_len 0 n)) ++ f n ≡ front ++ flat_map f (range_with_len 0 (n + 1))
flat_more f front n = flat_map_more f front (range_with_len 0 n) n ∙ ap (λ l. front ++ flat_map f l) (sym (range_more n))

-- one device more that is sold
pub enrols_more : (seed n : ℕ) (enrols : List Enrol) (enrol : Enrol) → enrols ≡ enrols_of seed n → enrol ≡ enrol_of seed n → enrols ++ enrol ∷ [] ≡ enrols_of seed (n + 1)
enrols_more seed n enrols enrol are is = ap (λ l. l ++ enrol ∷ []) are ∙ ap (λ e. enrols_of seed n ++ e ∷ []) is ∙ sym (map-range_with_len_more (enrol_of seed) 0 n n (omega arith))

-- the steps of the first n devices on a day
abbrev pub steps_of_first : ℕ → ℕ → ℕ → ℕ → List Step
steps_of_first seed devices day n = flat_map (λ device. steps_by (word_on seed devices day device) day device) (range_with_len 0 n)

-- one device more on a day
pub device_more : (seed devices day n drawn : ℕ) (front steps more : List Step) → steps ≡ front ++ steps_of_first seed devices day n → drawn ≡ word_on seed devices day n → more ≡ steps ++ steps_by drawn day n → more ≡ front ++ steps_of_first seed devices day (n + 1)
device_more seed devices day n drawn front steps more are is put =
    put ∙ ap (λ l. l ++ steps_by drawn day n) are ∙ ap (λ w. (front ++ steps_of_first seed devices day n) ++ steps_by w day n) is
    ∙ flat_more (λ device. steps_by (word_on seed devices day device) day device) front n

-- one day more
pub day_more : (seed devices n : ℕ) (front steps more : List Step) → steps ≡ front ++ steps_of seed devices n → more ≡ steps ++ steps_of_day seed devices n → more ≡ front ++ steps_of seed devices (n + 1)
day_more seed devices n front steps more are put = put ∙ ap (λ l. l ++ steps_of_day seed devices n) are ∙ flat_more (steps_of_day seed devices) front n
