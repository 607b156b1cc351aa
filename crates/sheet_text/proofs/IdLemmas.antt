-- The id of a place is a name, and tells the sheet and the place.
use Rattle.std.proofs.Common.{◌≡◌, ℕ, ◌+◌, ◌≤◌, Bool, true, ◌&&◌, List, [], ◌∷◌}
use Rattle.std.proofs.Common.{length, take, drop, refl, ap, sym, ◌∙◌, arith, length-append}
use Rattle.std.specs.Prelude.{if◌then◌else◌, IsSome, is_some, Some, None}
use Rattle.std.specs.declared.option.Option.{Option}
use Rattle.std.specs.List.{list_all}
use Rattle.std.proofs.lemmas.List.{take_at, drop_at}
use Rattle.std.proofs.lemmas.List.Folds.{list_all-append}
use Rattle.std.proofs.lemmas.Bool.{le-leb}
use Rattle.std.proofs.lemmas.Bool.Decides.{nat_tests}
use Rattle.ledger_spec.specs.Names.{is_name_byte, may_be_name, name_in}
use Rattle.sheet_text.specs.Ids.{id_of}

-- both tests pass
both : (a b : Bool) → a ≡ true → b ≡ true → (a && b) ≡ true
both a b one two = ap (λ x. x && b) one ∙ two

-- the digit of a place may stand in a name
digit_is_name_byte : (place : ℕ) → place ≤ 8 → is_name_byte (48 + place) ≡ true
digit_is_name_byte place few = grind (arith, nat_tests)

-- two bytes longer than the sheet's name
length_of_id : (sheet : List ℕ) (place : ℕ) → length (id_of sheet place) ≡ length sheet + 2
length_of_id sheet place = length-append sheet (45 ∷ (48 + place) ∷ [])

-- the id of a place is a name
id_is_name : (sheet : List ℕ) (place : ℕ) → list_all is_name_byte sheet ≡ true → length sheet ≤ 30 → place ≤ 8
    → may_be_name 32 (id_of sheet place) ≡ true
id_is_name sheet place allowed short few =
    let size : length (id_of sheet place) ≡ length sheet + 2 = length_of_id sheet place in
    let some : 1 ≤ length (id_of sheet place) = omega (arith, size) in
    let fits : length (id_of sheet place) ≤ 32 = omega (arith, size, short) in
    let digit : list_all is_name_byte ((48 + place) ∷ []) ≡ true = both _ true (digit_is_name_byte place few) refl in
    let all : list_all is_name_byte (id_of sheet place) ≡ true =
    list_all-append is_name_byte sheet (45 ∷ (48 + place) ∷ []) ∙ both _ _ allowed digit in
    both _ _ (le-leb _ _ some) (both _ _ (le-leb _ _ fits) all)

-- what is read of it is there
pub id_is_there : (sheet : List ℕ) (place : ℕ) (bytes : List ℕ) (name : Option (List ℕ))
    → list_all is_name_byte sheet ≡ true → length sheet ≤ 30 → place ≤ 8 → bytes ≡ id_of sheet place → name ≡ name_in 32 bytes → IsSome name
id_is_there sheet place bytes name allowed short few text is =
    ap is_some is ∙ ap (λ b. is_some (name_in 32 b)) text
    ∙ ap (λ b. is_some (if b then Some (id_of sheet place) else None)) (id_is_name sheet place allowed short few)

-- the digit at the end of two ids
second : (m n : ℕ) → (45 ∷ (48 + m) ∷ []) ≡ (45 ∷ (48 + n) ∷ []) → m ≡ n
second m n is = let same : 48 + m ≡ 48 + n = cc in omega (arith, same)

-- an id tells the sheet and the place
pub id_tells : (a b : List ℕ) (m n : ℕ) → id_of a m ≡ id_of b n → (a ≡ b) × (m ≡ n)
id_tells a b m n is =
    let size : length b ≡ length a = omega (arith, length_of_id a m, length_of_id b n, ap length is) in
    let sheet : a ≡ b =
    sym (take_at a (45 ∷ (48 + m) ∷ []) (length a) refl) ∙ ap (take (length a)) is
    ∙ take_at b (45 ∷ (48 + n) ∷ []) (length a) size in
    let ending : (45 ∷ (48 + m) ∷ []) ≡ (45 ∷ (48 + n) ∷ []) =
    sym (drop_at a (45 ∷ (48 + m) ∷ []) (length a) refl) ∙ ap (drop (length a)) is
    ∙ drop_at b (45 ∷ (48 + n) ∷ []) (length a) size in
    (sheet, second m n ending)
