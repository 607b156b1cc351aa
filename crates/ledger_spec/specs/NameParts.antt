-- How a name stands in 32 bytes: its bytes in front, and 0 behind them.
use Rattle.std.specs.Prelude.{◌≡◌, ℕ, ◌-◌, ◌≤◌, true, List, ◌++◌, length, take, drop, replicate}
use Rattle.std.specs.List.{list_all}
use Rattle.std.proofs.Common.{arith, refl, ap, sym, ◌∙◌}
use Rattle.std.proofs.lemmas.Bool.Decides.{nat_tests}
use Rattle.std.proofs.lemmas.List.{take-append-drop, take_at, length-take-le, drop-replicate, drop_at, length-append, length-drop}
use Rattle.ledger_spec.specs.Names.{is_name_byte, may_be_name}

-- The bytes in front.
abbrev pub front : ℕ → List ℕ → List ℕ
front n bytes = take n bytes

-- The name and the zeros behind it.
abbrev pub padded : List ℕ → List ℕ
padded name = name ++ replicate (32 - length name) 0

-- A name of n bytes, from 1 to 32, stands in front of these 32 bytes: each of its bytes is one that a name may have, and
-- behind it all are 0.
pub record HoldsName (n : ℕ) (bytes : List ℕ) : Type 0 where
  pub size : length bytes ≡ 32
  pub least : 1 ≤ n
  pub most : n ≤ 32
  pub allowed : list_all is_name_byte (front n bytes) ≡ true
  pub rest : drop n bytes ≡ replicate (32 - n) 0

-- The name in front has n bytes.
pub length_front : (n : ℕ) (bytes : List ℕ) → HoldsName n bytes → length (take n bytes) ≡ n
length_front n bytes is = length-take-le n bytes (omega (arith, is.size, is.most))

-- The name in front gives the bytes back.
pub padded_front : (n : ℕ) (bytes : List ℕ) → HoldsName n bytes → padded (take n bytes) ≡ bytes
padded_front n bytes is =
    ap (λ k. take n bytes ++ replicate (32 - k) 0) (length_front n bytes is) ∙ ap (λ rest. take n bytes ++ rest) (sym is.rest) ∙ take-append-drop n bytes

-- A name that is copied over the front of 32 zeros.
pub copied_is_name : (n : ℕ) (bytes : List ℕ) → length bytes ≡ n → n ≤ 32 → may_be_name 32 bytes ≡ true
    → HoldsName n (bytes ++ drop n (replicate 32 0))
copied_is_name n bytes size fits is =
    let zeros : List ℕ = replicate 32 0 in
    let many : length zeros ≡ 32 = refl in
    let whole : length (bytes ++ drop n zeros) ≡ 32 = length-append bytes (drop n zeros) ∙ omega (arith, length-drop n zeros, many, size, fits) in
    let some : 1 ≤ length bytes = grind (arith, nat_tests) in
    let all : list_all is_name_byte bytes ≡ true = grind (arith, nat_tests) in
    record {
      size = whole;
      least = omega (arith, some, size);
      most = fits;
      allowed = ap (list_all is_name_byte) (take_at bytes (drop n zeros) n size) ∙ all;
      rest = drop_at bytes (drop n zeros) n size ∙ drop-replicate n 32 0;
    }
