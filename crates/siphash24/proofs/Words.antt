-- The words of a message, as the code meets them.
use Rattle.std.proofs.Common.{◌≡◌, ℕ, ◌+◌, ◌-◌, ◌^◌, ◌<◌, ◌≤◌, List, length, drop, take, get_or, arith, Fits, w8, lit<, length-drop}
use Rattle.std.proofs.Math.Nat.{pow-le-pow_right}
use Rattle.std.proofs.lemmas.List.{get_or-drop, take_all}
use Rattle.std.proofs.lemmas.List.FromFn.{map-range_with_len_more}
use Rattle.std.proofs.lemmas.List.Sums.{fold_push}
use Rattle.std.specs.List.{fold}
use Rattle.byteorder.specs.Endian.{little_number}
use Rattle.byteorder.specs.Numbers.{little_from-lt}
use Rattle.paygo_spec.specs.Sip.{SipState, sip_absorb, word_at, first_words}

-- fewer than eight bytes leave the top byte of a word free
pub tail_below : (left whole : ℕ) (xs : List ℕ) → ((k : ℕ) → Fits w8 (get_or xs k 0)) → left < 8 → little_number left (drop whole xs) < 2 ^ 56
tail_below left whole xs bytes few =
    let each : (k : ℕ) → get_or (drop whole xs) k 0 < 256 = λ k. rw (get_or-drop whole xs k 0) (omega (arith, bytes (whole + k))) in
    let below : little_number left (drop whole xs) < 256 ^ left = little_from-lt 0 left (drop whole xs) each in
    let power : 256 ^ left ≤ 256 ^ 7 = pow-le-pow_right {n = 256} (lit< tt) {i = left} {j = 7} (omega arith) in
    omega arith

-- one more word of the message goes in
pub absorb_more : (s : SipState) (message : List ℕ) (i : ℕ) → fold sip_absorb s (first_words message (i + 1)) ≡ sip_absorb (fold sip_absorb s (first_words message i)) (word_at message i)
absorb_more s message i =
    rw (map-range_with_len_more (word_at message) 0 i i (omega arith)) (fold_push sip_absorb s (first_words message i) (word_at message i))

-- a slice from a place on is all that is left from there
pub rest_is : (at : ℕ) (xs : List ℕ) → take (length xs - at) (drop at xs) ≡ drop at xs
rest_is at xs = take_all (length xs - at) (drop at xs) (omega (arith, length-drop at xs))
