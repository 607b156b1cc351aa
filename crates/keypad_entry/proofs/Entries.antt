-- What an entry is, one digit at a time.
use Rattle.std.proofs.Common.{◌≡◌, ℕ, zero, suc, ◌+◌, ◌<◌, ◌≤◌, min, List, [], ◌∷◌, ◌++◌, length, take, slice_set, replicate, refl, arith, sym, ◌∙◌, ap}
use Rattle.std.proofs.lemmas.List.{take-append-le, length-append}
use Rattle.paygo_spec.specs.Pad.{Keys, PadView, with_digit, kept_of, handed_over}

-- zeros in front of zeros
zeros : (m k : ℕ) → m ≤ k → take {A = ℕ} m (replicate k 0) ≡ replicate m 0
zeros zero k h = refl
zeros (suc m) zero h = absurd (omega arith)
zeros (suc m) (suc k) h = ap (λ l. 0 ∷ l) (zeros m k (omega arith))

-- one digit more where there is room, and where there is none
room : (n k : ℕ) (xs : List ℕ) (d : ℕ) → length xs < n → n ≤ length xs + k → take n ((xs ++ d ∷ []) ++ replicate k 0) ≡ slice_set (take n (xs ++ replicate k 0)) (length xs) d
room zero k xs d h l = absurd (omega arith)
room (suc m) zero [] d h l = absurd (omega arith)
room (suc m) (suc k) [] d h l = ap (λ l. d ∷ l) (zeros m (suc k) (omega arith) ∙ sym (zeros m k (omega arith)))
room (suc m) k (x ∷ xs) d h l = ap (λ l. x ∷ l) (room m k xs d (omega arith) (omega arith))

full : (n k : ℕ) (xs : List ℕ) (d : ℕ) → n ≤ length xs → take n ((xs ++ d ∷ []) ++ replicate k 0) ≡ take n (xs ++ replicate k 0)
full n k xs d h =
    take-append-le n (xs ++ d ∷ []) (replicate k 0) (omega (arith, length-append xs (d ∷ [])))
    ∙ (take-append-le n xs (d ∷ []) h ∙ sym (take-append-le n xs (replicate k 0) h))

pub handed_over-room : (pressed : List ℕ) (d : ℕ) → length pressed < 15 → handed_over (pressed ++ d ∷ []) ≡ slice_set (handed_over pressed) (length pressed) d
unfolding handed_over
handed_over-room pressed d h = room 15 15 pressed d h (omega arith)

pub handed_over-full : (pressed : List ℕ) (d : ℕ) → 15 ≤ length pressed → handed_over (pressed ++ d ∷ []) ≡ handed_over pressed
unfolding handed_over
handed_over-full pressed d h = full 15 15 pressed d h

pub handed_over-none : replicate 15 0 ≡ handed_over []
unfolding handed_over
handed_over-none = refl

-- a pad by its parts
abbrev pub pad_of : List ℕ → ℕ → ℕ → PadView
pad_of digits held seconds = record { digits = digits; held = held; seconds = seconds }

same_pad : (a b : List ℕ) (m n s t : ℕ) → a ≡ b → m ≡ n → s ≡ t → pad_of a m s ≡ pad_of b n t
same_pad a b m n s t e f g = cc

pub hold_room : (digits : List ℕ) (held seconds d : ℕ) (keys : Keys) → pad_of digits held seconds ≡ kept_of keys → held < 15 → pad_of (slice_set digits held d) (min (held + 1) 99) 0 ≡ kept_of (with_digit d keys)
hold_room digits held seconds d keys e h =
    let a : digits ≡ handed_over keys.pressed = ap (λ v. v.digits) e in
    let b : held ≡ min (length keys.pressed) 99 = ap (λ v. v.held) e in
    let n : held ≡ length keys.pressed = omega arith in
    let l : length (keys.pressed ++ d ∷ []) ≡ length keys.pressed + 1 = length-append keys.pressed (d ∷ []) in
    same_pad (slice_set digits held d) (handed_over (keys.pressed ++ d ∷ [])) (min (held + 1) 99) (min (length (keys.pressed ++ d ∷ [])) 99) 0 0
    (rw (a, n) (sym (handed_over-room keys.pressed d (omega arith))))
    (omega arith)
    refl

pub hold_full : (digits : List ℕ) (held seconds d : ℕ) (keys : Keys) → pad_of digits held seconds ≡ kept_of keys → 15 ≤ held → pad_of digits (min (held + 1) 99) 0 ≡ kept_of (with_digit d keys)
hold_full digits held seconds d keys e h =
    let a : digits ≡ handed_over keys.pressed = ap (λ v. v.digits) e in
    let b : held ≡ min (length keys.pressed) 99 = ap (λ v. v.held) e in
    let l : length (keys.pressed ++ d ∷ []) ≡ length keys.pressed + 1 = length-append keys.pressed (d ∷ []) in
    same_pad digits (handed_over (keys.pressed ++ d ∷ [])) (min (held + 1) 99) (min (length (keys.pressed ++ d ∷ [])) 99) 0 0
    (a ∙ sym (handed_over-full keys.pressed d (omega arith)))
    (omega arith)
    refl
