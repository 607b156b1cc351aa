-- Serials and ids are names.
use Rattle.std.proofs.Common.{◌≡◌, ℕ, zero, suc, ◌/◌, ◌%◌, ◌<◌, ◌≤◌, ◌^◌, Bool, true, false, ◌&&◌, List, [], ◌∷◌, ◌++◌, length, refl, ap, ◌∙◌, arith, length-append}
use Rattle.std.specs.Prelude.{◌==◌, if◌then◌else◌, IsSome, is_some, Some, None}
use Rattle.std.specs.declared.option.Option.{Option}
use Rattle.std.specs.List.{list_all}
use Rattle.std.specs.Fmt.{decimal, digits, digits_onto, digit_glyph}
use Rattle.std.proofs.lemmas.Fmt.{length-decimal-le}
use Rattle.std.proofs.lemmas.List.Folds.{list_all-append}
use Rattle.std.proofs.lemmas.Bool.{le-leb}
use Rattle.std.proofs.lemmas.Bool.Decides.{nat_tests}
use Rattle.ledger_spec.specs.Names.{is_name_byte, may_be_name, name_in}
use Rattle.fleet_spec.specs.Script.{serial_of, id_of}

-- a digit may stand in a name
digit_is_name_byte : (d : ℕ) → d < 10 → is_name_byte (digit_glyph false d) ≡ true
digit_is_name_byte d small = grind (arith, nat_tests)

-- both tests pass
both : (a b : Bool) → a ≡ true → b ≡ true → (a && b) ≡ true
both a b one two = ap (λ x. x && b) one ∙ two

-- the last k digits may stand in a name, where what stands behind them may
digits_are_name_bytes : (k n : ℕ) (acc : List ℕ) → list_all is_name_byte acc ≡ true → list_all is_name_byte (digits_onto k 10 false n acc) ≡ true
digits_are_name_bytes zero n acc all = all
digits_are_name_bytes (suc k) n acc all =
    let last : list_all is_name_byte (digit_glyph false (n % 10) ∷ acc) ≡ true = both _ _ (digit_is_name_byte (n % 10) (omega arith)) all in
    elim (n / 10 == 0) as (λ b. list_all is_name_byte (if b then digit_glyph false (n % 10) ∷ acc else digits_onto k 10 false (n / 10) (digit_glyph false (n % 10) ∷ acc)) ≡ true) [
      | true ↦ last
      | false ↦ digits_are_name_bytes k (n / 10) (digit_glyph false (n % 10) ∷ acc) last
    ]

-- every byte of a number in decimal digits may stand in a name
decimal_is_name : (n : ℕ) → list_all is_name_byte (decimal n) ≡ true
unfolding digits
decimal_is_name n = digits_are_name_bytes 64 n [] refl

-- bytes of which each may stand in a name are one, where there are not too many
is_name : (most : ℕ) (bytes : List ℕ) → 1 ≤ length bytes → length bytes ≤ most → list_all is_name_byte bytes ≡ true → may_be_name most bytes ≡ true
is_name most bytes some few all = both _ _ (le-leb _ _ some) (both _ _ (le-leb _ _ few) all)

-- a number below 2^32 has at most ten digits
ten : (n : ℕ) → n < 2 ^ 32 → length (decimal n) ≤ 10
ten n small = length-decimal-le 10 n (omega arith) (omega arith) (omega arith)

-- a serial is a name, and so is an id
serial_is_name : (device : ℕ) → device < 2 ^ 32 → may_be_name 16 (serial_of device) ≡ true
serial_is_name device small =
    let few = ten device small in
    is_name 16 (serial_of device) (omega arith) (omega arith) (decimal_is_name device)

id_is_name : (device day : ℕ) → device < 2 ^ 32 → day < 2 ^ 32 → may_be_name 32 (id_of device day) ≡ true
id_is_name device day small few =
    let one = ten device small in
    let two = ten day few in
    let rest : List ℕ = decimal device ++ 45 ∷ [] ++ decimal day in
    let long : length rest ≤ 21 = simp length-append (omega arith) in
    let front : list_all is_name_byte (decimal device ++ 45 ∷ []) ≡ true = list_all-append is_name_byte (decimal device) (45 ∷ []) ∙ both _ _ (decimal_is_name device) refl in
    let all : list_all is_name_byte rest ≡ true = list_all-append is_name_byte (decimal device ++ 45 ∷ []) (decimal day) ∙ both _ _ front (decimal_is_name day) in
    is_name 32 (id_of device day) (omega arith) (omega (arith, long)) all

-- a serial is short enough for one
pub serial_is_short : (device : ℕ) → device < 2 ^ 32 → length (serial_of device) ≤ 16
serial_is_short device small = let few = ten device small in omega arith

-- a name that may be one is there
is_there : (most : ℕ) (bytes : List ℕ) → may_be_name most bytes ≡ true → IsSome (name_in most bytes)
is_there most bytes may = ap (λ b. is_some (if b then Some bytes else None)) may

-- the serial's name is there, and so is the id's
pub serial_is_there : (device : ℕ) (bytes : List ℕ) (name : Option (List ℕ)) → device < 2 ^ 32 → bytes ≡ serial_of device → name ≡ name_in 16 bytes → IsSome name
serial_is_there device bytes name small text is = ap is_some is ∙ ap (λ b. is_some (name_in 16 b)) text ∙ is_there 16 (serial_of device) (serial_is_name device small)

pub id_is_there : (device day : ℕ) (bytes : List ℕ) (name : Option (List ℕ)) → device < 2 ^ 32 → day < 2 ^ 32 → bytes ≡ id_of device day → name ≡ name_in 32 bytes → IsSome name
id_is_there device day bytes name small few text is = ap is_some is ∙ ap (λ b. is_some (name_in 32 b)) text ∙ is_there 32 (id_of device day) (id_is_name device day small few)
