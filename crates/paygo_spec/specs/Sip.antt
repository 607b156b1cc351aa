-- SipHash-2-4, the keyed hash of Aumasson and Bernstein, as a fold over the words of the message.
use Rattle.std.specs.Prelude.{ℕ, ◌+◌, ◌*◌, ◌/◌, ◌%◌, ◌^◌, List, [], ◌∷◌, ◌++◌, length, drop, map, bit_xor}
use Rattle.std.specs.List.{fold, range_with_len}
use Rattle.std.specs.Int.{w64, rotate_left}
use Rattle.byteorder.specs.Endian.{little_number}

-- The four words of the state.
pub record SipState : Type 0 where
  pub v0 : ℕ
  pub v1 : ℕ
  pub v2 : ℕ
  pub v3 : ℕ

-- The sum modulo 2^64.
abbrev pub sum64 : ℕ → ℕ → ℕ
sum64 a b = (a + b) % 2 ^ 64

-- One round.
unfoldable pub sip_round : SipState → SipState
sip_round s =
    let a0 = sum64 s.v0 s.v1 in
    let a1 = bit_xor (rotate_left w64 s.v1 13) a0 in
    let a2 = rotate_left w64 a0 32 in
    let b0 = sum64 s.v2 s.v3 in
    let b1 = bit_xor (rotate_left w64 s.v3 16) b0 in
    let c0 = sum64 a2 b1 in
    let c1 = bit_xor (rotate_left w64 b1 21) c0 in
    let d0 = sum64 b0 a1 in
    let d1 = bit_xor (rotate_left w64 a1 17) d0 in
    record { v0 = c0; v1 = d1; v2 = rotate_left w64 d0 32; v3 = c1 }

-- The state before the message: the halves of the key, read little-endian, each under two constants.
abbrev pub sip_start : List ℕ → SipState
sip_start key =
    let k0 = little_number 8 key in
    let k1 = little_number 8 (drop 8 key) in
    record {
      v0 = bit_xor k0 0x736f6d6570736575;
      v1 = bit_xor k1 0x646f72616e646f6d;
      v2 = bit_xor k0 0x6c7967656e657261;
      v3 = bit_xor k1 0x7465646279746573;
    }

-- A word of the message goes in, with two rounds.
unfoldable pub sip_absorb : SipState → ℕ → SipState
sip_absorb s word =
    let t = sip_round (sip_round (record s { v3 = bit_xor s.v3 word })) in
    record t { v0 = bit_xor t.v0 word }

-- What the state gives at the end, after four rounds.
unfoldable pub sip_finish : SipState → ℕ
sip_finish s =
    let t = sip_round (sip_round (sip_round (sip_round (record s { v2 = bit_xor s.v2 0xff })))) in
    bit_xor (bit_xor (bit_xor t.v0 t.v1) t.v2) t.v3

-- The whole word i of the message, read little-endian.
abbrev pub word_at : List ℕ → ℕ → ℕ
word_at message i = little_number 8 (drop (8 * i) message)

-- The first n whole words of the message.
abbrev pub first_words : List ℕ → ℕ → List ℕ
first_words message n = map (word_at message) (range_with_len 0 n)

-- The last word: the bytes that are left, from none to seven, and the length modulo 256 in the top byte.
abbrev pub last_word : List ℕ → ℕ
last_word message =
    let whole = length message / 8 in
    little_number (length message % 8) (drop (8 * whole) message) + length message % 256 * 2 ^ 56

-- The words of the message, in their order.
abbrev pub sip_words : List ℕ → List ℕ
sip_words message = first_words message (length message / 8) ++ last_word message ∷ []

-- The hash of a message under a key of 16 bytes.
unfoldable pub sip : List ℕ → List ℕ → ℕ
sip key message = sip_finish (fold sip_absorb (sip_start key) (sip_words message))
