-- Bytes cut into lines: what a part of them gives, and what the rest gives behind it.
use Rattle.std.proofs.Common.{◌≡◌, ℕ, suc, ◌+◌, ◌<◌, true, false, ◌==◌, List, [], ◌∷◌, ◌++◌, length, take, drop, if◌then◌else◌, Some, None, refl, sym, ap, ◌∙◌, arith, append_assoc, append-nil, cond, rules}
use Rattle.std.specs.List.{position_from}
use Rattle.std.specs.Prelude.{position}
use Rattle.std.proofs.lemmas.Iterator.Adapters.{position_from-zero}
use Rattle.run_spec.specs.Lines.{lines_from, rest_from, whole_lines}
use Rattle.line_loop.specs.Gather.{is_end}

-- the lines of two parts
pub lines-append : (part xs ys : List ℕ) → lines_from part (xs ++ ys) ≡ lines_from part xs ++ lines_from (rest_from part xs) ys
lines-append part [] ys = refl
lines-append part (x ∷ xs) ys =
    elim (x == 10) as (λ b. (if b then part ∷ lines_from [] (xs ++ ys) else lines_from (part ++ x ∷ []) (xs ++ ys))
    ≡ (if b then part ∷ lines_from [] xs else lines_from (part ++ x ∷ []) xs) ++ lines_from (if b then rest_from [] xs else rest_from (part ++ x ∷ []) xs) ys) [
      | true ↦ ap (λ ls. part ∷ ls) (lines-append [] xs ys)
      | false ↦ lines-append (part ++ x ∷ []) xs ys
    ]

-- what is left of two parts
pub rest-append : (part xs ys : List ℕ) → rest_from part (xs ++ ys) ≡ rest_from (rest_from part xs) ys
rest-append part [] ys = refl
rest-append part (x ∷ xs) ys =
    elim (x == 10) as (λ b. (if b then rest_from [] (xs ++ ys) else rest_from (part ++ x ∷ []) (xs ++ ys))
    ≡ rest_from (if b then rest_from [] xs else rest_from (part ++ x ∷ []) xs) ys) [
      | true ↦ rest-append [] xs ys
      | false ↦ rest-append (part ++ x ∷ []) xs ys
    ]

-- a part with no end of a line leaves itself
pub rest_whole : (part xs : List ℕ) → lines_from part xs ≡ [] → rest_from part xs ≡ part ++ xs
rest_whole part [] none = sym (append-nil part)
rest_whole part (x ∷ xs) none =
    (elim (x == 10) as (λ b. (if b then part ∷ lines_from [] xs else lines_from (part ++ x ∷ []) xs) ≡ []
    → (if b then rest_from [] xs else rest_from (part ++ x ∷ []) xs) ≡ part ++ x ∷ xs) [
      | true ↦ λ e. cc
      | false ↦ λ e. rest_whole (part ++ x ∷ []) xs e ∙ append_assoc part (x ∷ []) xs
    ]) none

-- whether a part has an end of a line doesn't rest on what stands before it
pub none_any : (part other xs : List ℕ) → lines_from part xs ≡ [] → lines_from other xs ≡ []
none_any part other [] none = refl
none_any part other (x ∷ xs) none =
    (elim (x == 10) as (λ b. (if b then part ∷ lines_from [] xs else lines_from (part ++ x ∷ []) xs) ≡ []
    → (if b then other ∷ lines_from [] xs else lines_from (other ++ x ∷ []) xs) ≡ []) [
      | true ↦ λ e. cc
      | false ↦ λ e. none_any (part ++ x ∷ []) (other ++ x ∷ []) xs e
    ]) none

-- two parts with no end of a line
pub none-append : (xs ys : List ℕ) → whole_lines xs ≡ [] → whole_lines ys ≡ [] → whole_lines (xs ++ ys) ≡ []
none-append xs ys a b =
    lines-append [] xs ys ∙ ap (λ ls. ls ++ lines_from (rest_from [] xs) ys) a ∙ none_any [] (rest_from [] xs) ys b

front_nil : (lines others : List (List ℕ)) → lines ++ others ≡ [] → lines ≡ []
front_nil [] others none = refl
front_nil (line ∷ lines) others none = cc

-- where two parts have no end of a line, the first has none
pub none-front : (xs ys : List ℕ) → whole_lines (xs ++ ys) ≡ [] → whole_lines xs ≡ []
none-front xs ys none = front_nil (whole_lines xs) (lines_from (rest_from [] xs) ys) (sym (lines-append [] xs ys) ∙ none)

-- a line and its end, and what follows
pub line-append : (line ys : List ℕ) → whole_lines line ≡ [] → whole_lines (line ++ 10 ∷ ys) ≡ line ∷ whole_lines ys
line-append line ys none =
    lines-append [] line (10 ∷ ys) ∙ ap (λ ls. ls ++ rest_from [] line ∷ lines_from [] ys) none ∙ ap (λ l. l ∷ lines_from [] ys) (rest_whole [] line none)

pub rest-line : (line ys : List ℕ) → rest_from [] (line ++ 10 ∷ ys) ≡ rest_from [] ys
rest-line line ys = rest-append [] line (10 ∷ ys)

-- The first end of a line stands k places behind the place i: what is before it has none.
pub record Found (part xs : List ℕ) (i at : ℕ) : Type 0 where
  pub k : ℕ
  pub at_is : at ≡ i + k
  pub none : lines_from part (take k xs) ≡ []
  pub split : xs ≡ take k xs ++ 10 ∷ drop (suc k) xs
  pub within : k < length xs

is_ten : (x : ℕ) → (x == 10) ≡ true → x ≡ 10
is_ten x e = search rules

found_here : (part xs : List ℕ) (x i at : ℕ) → x ≡ 10 → Some i ≡ Some at → Found part (x ∷ xs) i at
found_here part xs x i at ten e = record {
  k = 0;
  at_is = let same : i ≡ at = cc in omega (arith, same);
  none = refl;
  split = ap (λ y. y ∷ xs) ten;
  within = omega arith;
}

found_later : (part xs : List ℕ) (x i at : ℕ) → (x == 10) ≡ false → Found (part ++ x ∷ []) xs (i + 1) at → Found part (x ∷ xs) i at
found_later part xs x i at other f = record {
  k = suc f.k;
  at_is = omega (arith, f.at_is);
  none = rw other f.none;
  split = ap (λ ys. x ∷ ys) f.split;
  within = omega (arith, f.within);
}

found : (part xs : List ℕ) (i at : ℕ) → position_from is_end i xs ≡ Some at → Found part xs i at
found part [] i at e = cc
found part (x ∷ xs) i at e =
    (elim (x == 10) as (λ b. (x == 10) ≡ b → cond b (Some i) (position_from is_end (i + 1) xs) ≡ Some at → Found part (x ∷ xs) i at) [
      | true ↦ λ t h. found_here part xs x i at (is_ten x t) h
      | false ↦ λ f h. found_later part xs x i at f (found (part ++ x ∷ []) xs (i + 1) at h)
    ]) refl e

missed : (part xs : List ℕ) (i : ℕ) → position_from is_end i xs ≡ None → lines_from part xs ≡ []
missed part [] i e = refl
missed part (x ∷ xs) i e =
    (elim (x == 10) as (λ b. cond b (Some i) (position_from is_end (i + 1) xs) ≡ None → (if b then part ∷ lines_from [] xs else lines_from (part ++ x ∷ []) xs) ≡ []) [
      | true ↦ λ h. cc
      | false ↦ λ h. missed (part ++ x ∷ []) xs (i + 1) h
    ]) e

-- the first end of a line, where there is one
pub position_found : (xs : List ℕ) (at : ℕ) → position is_end xs ≡ Some at → Found [] xs 0 at
position_found xs at e = found [] xs 0 at (sym (position_from-zero is_end xs) ∙ e)

-- no end of a line
pub position_missed : (xs : List ℕ) → position is_end xs ≡ None → whole_lines xs ≡ []
position_missed xs e = missed [] xs 0 (sym (position_from-zero is_end xs) ∙ e)
