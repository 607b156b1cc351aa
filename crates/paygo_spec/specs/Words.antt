-- Words and numbers out of the bytes of a line.
use Rattle.std.specs.Prelude.{ℕ, ◌+◌, ◌-◌, ◌*◌, Bool, ◌==◌, ◌&&◌, nat_le, List, [], ◌∷◌, length, take, drop, position, Option, Some, None, if◌then◌else◌}
use Rattle.std.specs.Option.{option_map}
use Rattle.std.specs.Result.{result_ok}
use Rattle.std.specs.Str.{bytes_eq}
use Rattle.hex.specs.Hex.{decode_sized}

abbrev pub is_decimal : ℕ → Bool
is_decimal c = nat_le 48 c && nat_le c 57

abbrev pub is_space : ℕ → Bool
is_space c = c == 32

-- The number n followed by these digits, where they are all digits.
abbrev pub digits_from : ℕ → List ℕ → Option ℕ
digits_from n [] = Some n
digits_from n (c ∷ cs) = if is_decimal c then digits_from (n * 10 + (c - 48)) cs else None

-- The number that a word of one to `most` decimal digits says.
abbrev pub decimal_in : ℕ → List ℕ → Option ℕ
decimal_in most word = if nat_le 1 (length word) && nat_le (length word) most then digits_from 0 word else None

-- What stands behind a beginning.
abbrev pub after_prefix : List ℕ → List ℕ → Option (List ℕ)
after_prefix prefix line =
    if bytes_eq (take (length prefix) line) prefix then Some (drop (length prefix) line) else None

-- The first word, which ends at a space, and what stands behind that space.
abbrev pub first_word : List ℕ → Option (List ℕ × List ℕ)
first_word text = option_map (λ at. (take at text, drop (at + 1) text)) (position is_space text)

-- The key that 32 hexadecimal digits of either case say.
abbrev pub key_in : List ℕ → Option (List ℕ)
key_in word = result_ok (decode_sized word 16)
