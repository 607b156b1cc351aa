-- The token chain of OpenPAYGO Token (EnAccess): codes, and the tokens of nine digits that they make.
use Rattle.std.specs.Prelude.{ℕ, zero, suc, ◌+◌, ◌-◌, ◌*◌, ◌/◌, ◌%◌, ◌^◌, List, ◌++◌, bit_xor, nat_lt, if◌then◌else◌}
use Rattle.byteorder.specs.Endian.{big_bytes}
use Rattle.paygo_spec.specs.Sip.{sip}

-- A hash folded to a code below 10^9: its halves under exclusive or, shifted right by two, less 73741825 where
-- that is above 999999999.
unfoldable pub folded : ℕ → ℕ
folded hash =
    let bits = bit_xor (hash / 2 ^ 32 % 2 ^ 32) (hash % 2 ^ 32) / 4 in
    if nat_lt 999999999 bits then bits - 73741825 else bits

-- The next code of the chain: the folded hash of the code's four big-endian bytes, written twice.
unfoldable pub plain_next : List ℕ → ℕ → ℕ
plain_next key code = folded (sip key (big_bytes 4 code ++ big_bytes 4 code))

-- The next code of a chain for tests, which steps by k thousands.
abbrev pub stride_next : ℕ → List ℕ → ℕ → ℕ
stride_next k key code = (code + 1000 * k) % 10 ^ 9

-- The last three digits.
abbrev pub base_of : ℕ → ℕ
base_of code = code % 1000

-- The code with these last three digits.
abbrev pub with_base : ℕ → ℕ → ℕ
with_base code b = code - code % 1000 + b

-- The last three digits of each token with this value.
abbrev pub token_base_of : ℕ → ℕ → ℕ
token_base_of start value = (base_of start + value) % 1000

-- The value that a token's last three digits say.
abbrev pub value_in : ℕ → ℕ → ℕ
value_in start token = (base_of token + 1000 - base_of start) % 1000

-- The code n steps above the first one.
unfoldable pub code_from : (ℕ → ℕ) → ℕ → ℕ → ℕ
code_from next first zero = first
code_from next first (suc n) = next (code_from next first n)

-- The code of count 0 for a value.
abbrev pub first_code : ℕ → ℕ → ℕ
first_code start value = with_base start (token_base_of start value)

-- The code of a count, for a value.
abbrev pub code_at : (ℕ → ℕ) → ℕ → ℕ → ℕ → ℕ
code_at next start value count = code_from next (first_code start value) count

-- The token of a count above a first code, with these last three digits.
abbrev pub token_from : (ℕ → ℕ) → ℕ → ℕ → ℕ → ℕ
token_from next first b count = with_base (code_from next first count) b

-- The token of a count and a value: what the shop sells, and what the customer types.
abbrev pub token_at : (ℕ → ℕ) → ℕ → ℕ → ℕ → ℕ
token_at next start value count = token_from next (first_code start value) (token_base_of start value) count

-- Where a walk up a chain stands: its key, its starting code, its value, and the count that it has come to.
pub record Place : Type 0 where
  pub key : List ℕ
  pub start : ℕ
  pub value : ℕ
  pub count : ℕ
