-- What a column of the shop's database says. A column holds a whole number, a text, bytes or something else.
use Rattle.std.specs.Prelude.{ℕ, ◌^◌, ◌==◌, nat_lt, List, length, Option, Some, None, pos, if◌then◌else◌}
use Rattle.std.specs.Option.{option_and_then}
use Rattle.sqlite_value.specs.declared.value.Value.{Value}
use Rattle.sqlite_value.specs.declared.value.Value.TheVariants.{Null, Int, Real, Text, Blob}
use Rattle.ledger_spec.specs.Names.{name_in}

-- The number in a column that holds a whole number from 0 on.
abbrev pub number_in : Value → Option ℕ
number_in (Int (pos n)) = Some n
number_in _ = None

-- The number, where it is below the bound.
abbrev pub below : ℕ → ℕ → Option ℕ
below bound n = if nat_lt n bound then Some n else None

-- The number below the bound in a column.
abbrev pub number_below : ℕ → Value → Option ℕ
number_below bound value = option_and_then (below bound) (number_in value)

-- The name of at most so many bytes in a column that holds a text.
abbrev pub name_in_column : ℕ → Value → Option (List ℕ)
name_in_column most (Text bytes) = name_in most bytes
name_in_column most _ = None

-- The key in a column that holds 16 bytes.
abbrev pub key_in : Value → Option (List ℕ)
key_in (Blob bytes) = if length bytes == 16 then Some bytes else None
key_in _ = None
