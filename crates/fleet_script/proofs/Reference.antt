-- The first six words of PCG's own demonstration, which starts from 42 in stream 54.
use Rattle.std.proofs.Common.{◌≡◌, [], ◌∷◌, map, refl}
use Rattle.std.specs.List.{range_with_len}
use Rattle.fleet_spec.specs.Words.{after, word}

pub reference_words : map (word 42) (range_with_len 0 6) ≡ 0xa15c02b7 ∷ 0x7b47f409 ∷ 0xba1d3330 ∷ 0x83d2f293 ∷ 0xbfa4784b ∷ 0xcbed606e ∷ []
unfolding word after
reference_words = refl
