-- No step of a mixer leads out of the codes, which are below 10^9.
use Rattle.std.specs.Prelude.{ℕ, ◌+◌, ◌*◌, ◌/◌, ◌%◌, ◌^◌, ◌<◌, List, ◌++◌, bit_xor}
use Rattle.std.proofs.Common.{arith}
use Rattle.std.proofs.lemmas.Nat.{xor_lt, shr_below, mod_below}
use Rattle.byteorder.specs.Endian.{big_bytes}
use Rattle.paygo_spec.specs.Chain.{folded, plain_next, stride_next}
use Rattle.paygo_spec.specs.Sip.{sip}

-- a folded hash is a code
pub folded_below : (hash : ℕ) → folded hash < 10 ^ 9
unfolding folded
folded_below hash =
    let high = mod_below (hash / 2 ^ 32) (2 ^ 32) (omega arith) in
    let low = mod_below hash (2 ^ 32) (omega arith) in
    let mixed : bit_xor (hash / 2 ^ 32 % 2 ^ 32) (hash % 2 ^ 32) < 2 ^ (30 + 2) = xor_lt 32 _ _ high low in
    let bits : bit_xor (hash / 2 ^ 32 % 2 ^ 32) (hash % 2 ^ 32) / 2 ^ 2 < 2 ^ 30 = shr_below _ 30 2 mixed in
    grind arith

-- the next code of the chain is a code
pub plain_below : (key : List ℕ) (code : ℕ) → plain_next key code < 10 ^ 9
unfolding plain_next
plain_below key code = folded_below (sip key (big_bytes 4 code ++ big_bytes 4 code))

-- the next code of a chain for tests is a code
pub stride_below : (k : ℕ) (key : List ℕ) (code : ℕ) → stride_next k key code < 10 ^ 9
stride_below k key code = mod_below (code + 1000 * k) (10 ^ 9) (omega arith)
