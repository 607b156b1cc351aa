-- Four SipHash states side by side, as four states.
use Rattle.std.specs.Prelude.{ℕ, ◌*◌, ◌^◌, ◌++◌, List, [], ◌∷◌, slice_index, slice_index_or}
use Rattle.byteorder.specs.Endian.{big_bytes, little_number}
use Rattle.paygo_spec.specs.Sip.{SipState, sip_start, sip_absorb, sip_finish}
use Rattle.sip_lanes.specs.declared.four.Four.{Four}

-- The numbers of the four lanes.
abbrev pub lanes : List ℕ → List ℕ
lanes xs = slice_index xs 0 ∷ slice_index xs 1 ∷ slice_index xs 2 ∷ slice_index xs 3 ∷ []

-- What f makes of the two numbers of each lane.
abbrev pub pairs : (ℕ → ℕ → ℕ) → List ℕ → List ℕ → List ℕ
pairs f xs ys =
    f (slice_index xs 0) (slice_index ys 0) ∷ f (slice_index xs 1) (slice_index ys 1)
    ∷ f (slice_index xs 2) (slice_index ys 2) ∷ f (slice_index xs 3) (slice_index ys 3) ∷ []

-- The keys of the four lanes.
abbrev pub key_lanes : List (List ℕ) → List (List ℕ)
key_lanes keys =
    slice_index_or keys 0 [] ∷ slice_index_or keys 1 [] ∷ slice_index_or keys 2 [] ∷ slice_index_or keys 3 [] ∷ []

-- The state of one lane.
abbrev pub state_at : Four → ℕ → SipState
state_at four i = record {
  v0 = slice_index four.v0 i;
  v1 = slice_index four.v1 i;
  v2 = slice_index four.v2 i;
  v3 = slice_index four.v3 i;
}

-- The four states.
abbrev pub states : Four → List SipState
states four = state_at four 0 ∷ state_at four 1 ∷ state_at four 2 ∷ state_at four 3 ∷ []

-- The hash of a message of eight bytes, given as a number: the word goes in, and then the one that says the length.
unfoldable pub hash_of_word : List ℕ → ℕ → ℕ
hash_of_word key word = sip_finish (sip_absorb (sip_absorb (sip_start key) word) (8 * 2 ^ 56))

-- The message of eight bytes whose hash gives the next code: the four bytes of the code, the highest first, twice.
abbrev pub word_of : ℕ → ℕ
word_of code = little_number 8 (big_bytes 4 code ++ big_bytes 4 code)
