-- Names: serials of devices and ids of orders.
use Rattle.std.specs.Prelude.{ℕ, List, Bool, ◌&&◌, ◌||◌, ◌==◌, nat_le, length, Option, Some, None, if◌then◌else◌}
use Rattle.std.specs.List.{list_all}
use Rattle.std.specs.Str.{bytes_eq}

-- A byte that a name may have: a letter, a digit, `-` or `_`.
abbrev pub is_name_byte : ℕ → Bool
is_name_byte b =
    (nat_le 65 b && nat_le b 90)
    || ((nat_le 97 b && nat_le b 122) || ((nat_le 48 b && nat_le b 57) || ((b == 45) || (b == 95))))

-- Whether these bytes are a name of at most this length.
abbrev pub may_be_name : ℕ → List ℕ → Bool
may_be_name most bytes = nat_le 1 (length bytes) && (nat_le (length bytes) most && list_all is_name_byte bytes)

-- The name that these bytes say, of at most this length, if they say one.
abbrev pub name_in : ℕ → List ℕ → Option (List ℕ)
name_in most bytes = if may_be_name most bytes then Some bytes else None

-- Whether two names are one.
unfoldable pub same_name : List ℕ → List ℕ → Bool
same_name a b = bytes_eq a b
