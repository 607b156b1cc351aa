-- Bytes cut into lines. A line ends with the byte 10, which isn't part of it.
use Rattle.std.specs.Prelude.{ℕ, zero, suc, ◌==◌, List, [], ◌∷◌, ◌++◌, if◌then◌else◌}

-- The whole lines of what begins with this part of a line and goes on with these bytes.
abbrev pub lines_from : List ℕ → List ℕ → List (List ℕ)
lines_from part [] = []
lines_from part (byte ∷ bytes) = if byte == 10 then part ∷ lines_from [] bytes else lines_from (part ++ byte ∷ []) bytes

-- What stands behind the last whole line of what begins with this part of a line and goes on with these bytes.
abbrev pub rest_from : List ℕ → List ℕ → List ℕ
rest_from part [] = part
rest_from part (byte ∷ bytes) = if byte == 10 then rest_from [] bytes else rest_from (part ++ byte ∷ []) bytes

-- The lines that ended.
abbrev pub whole_lines : List ℕ → List (List ℕ)
whole_lines bytes = lines_from [] bytes

-- A last piece without its end is a line where it isn't empty.
abbrev pub last_line : List ℕ → List (List ℕ)
last_line [] = []
last_line (byte ∷ bytes) = (byte ∷ bytes) ∷ []

-- All lines of an input that has ended.
abbrev pub all_lines : List ℕ → List (List ℕ)
all_lines bytes = whole_lines bytes ++ last_line (rest_from [] bytes)

-- What stands behind the first n ends of a line: nothing where there are fewer.
abbrev pub behind : ℕ → List ℕ → List ℕ
behind zero bytes = bytes
behind (suc n) [] = []
behind (suc n) (byte ∷ bytes) = if byte == 10 then behind n bytes else behind (suc n) bytes
