-- A piece put behind what a buffer has of a line.
use Rattle.std.proofs.Common.{◌≡◌, ◌⊎◌, inl, inr, ℕ, ◌+◌, ◌-◌, ◌≤◌, ◌<◌, min, List, [], ◌++◌, length, take, drop, sym, ap, ◌∙◌, arith, append-nil, length-append}
use Rattle.std.proofs.lemmas.List.{length-take, take_all, take-append-le, drop_all, drop-drop}
use Rattle.std.proofs.lemmas.Bool.{cases_lt}
use Rattle.std.proofs.Math.Seq.{take-append-add}
use Rattle.line_loop.specs.Gather.{IsFront}

-- of a piece with what is behind it in the buffer, as much as there is room for
fits : (piece behind : List ℕ) (room : ℕ) → length piece ≤ room → take (length piece) (take (length piece) piece ++ behind) ≡ take room piece
fits piece behind room short =
    take-append-le (length piece) (take (length piece) piece) behind (omega (arith, length-take (length piece) piece))
    ∙ take_all (length piece) (take (length piece) piece) (omega (arith, length-take (length piece) piece))
    ∙ take_all (length piece) piece (omega arith) ∙ sym (take_all room piece short)

fills : (piece : List ℕ) (room : ℕ) → room ≤ length piece → take (length piece) (take room piece ++ []) ≡ take room piece
fills piece room long =
    ap (take (length piece)) (append-nil (take room piece)) ∙ take_all (length piece) (take room piece) (omega (arith, length-take room piece))

module _ (line text piece : List ℕ) (long : length line ≡ 4096) where
  -- while the line has room
  roomy : (n : ℕ) → length text ≤ 4096 → take (length text) line ≡ text → n ≡ min (length piece) (4096 - length text)
      → take (length text + length piece) (take (length text) line ++ (take n piece ++ drop (length text + n) line)) ≡ take 4096 (text ++ piece)
  roomy n small same is =
      let room = 4096 - length text in
      let whole : length text + room ≡ 4096 = omega (arith, small) in
      let inner : take (length piece) (take n piece ++ drop (length text + n) line) ≡ take room piece =
      inside n (cases_lt room (length piece)) is in
      ap (λ front. take (length text + length piece) (front ++ (take n piece ++ drop (length text + n) line))) same
      ∙ take-append-add text (take n piece ++ drop (length text + n) line) (length piece)
      ∙ ap (λ l. text ++ l) inner
      ∙ sym (take-append-add text piece room)
      ∙ ap (λ k. take k (text ++ piece)) whole
    where
      inside : (n : ℕ) → (4096 - length text < length piece) ⊎ (length piece ≤ 4096 - length text) → n ≡ min (length piece) (4096 - length text)
          → take (length piece) (take n piece ++ drop (length text + n) line) ≡ take (4096 - length text) piece
      inside n (inl more) is =
          let n_is : n ≡ 4096 - length text = omega (arith, is, more) in
          rw n_is (ap (λ l. take (length piece) (take (4096 - length text) piece ++ l)) (drop_all (length text + (4096 - length text)) line (omega (arith, long, small)))
          ∙ fills piece (4096 - length text) (omega (arith, more)))
      inside n (inr short) is =
          let n_is : n ≡ length piece = omega (arith, is, short) in
          rw n_is (fits piece (drop (length text + length piece) line) (4096 - length text) short)

  -- when it is full
  full : 4096 ≤ length text → take (length text) line ≡ take 4096 text
      → take (length text + length piece) (take 4096 line ++ (take 0 piece ++ drop (4096 + 0) line)) ≡ take 4096 (text ++ piece)
  full big same =
      ap (λ front. take (length text + length piece) (front ++ (take 0 piece ++ drop (4096 + 0) line))) (take_all 4096 line (omega (arith, long)))
      ∙ ap (λ behind. take (length text + length piece) (line ++ behind)) (drop_all (4096 + 0) line (omega (arith, long)))
      ∙ ap (take (length text + length piece)) (append-nil line)
      ∙ take_all (length text + length piece) line (omega (arith, long, big))
      ∙ sym (take_all (length text) line (omega (arith, long, big))) ∙ same
      ∙ sym (take-append-le 4096 text piece big)

  same_more : (at n size : ℕ) → IsFront line text size → at ≡ min size 4096 → n ≡ min (length piece) (4096 - at) → (size < 4096) ⊎ (4096 ≤ size)
      → take (size + length piece) (take at line ++ (take n piece ++ drop (at + n) line)) ≡ take 4096 (text ++ piece)
  same_more at n size front at_is n_is (inl small) =
      let at_size : at ≡ length text = omega (arith, at_is, small, front.size_is) in
      let n_room : n ≡ min (length piece) (4096 - length text) = omega (arith, n_is, at_size) in
      let short : length text ≤ 4096 = omega (arith, small, front.size_is) in
      let same : take (length text) line ≡ text = ap (λ k. take k line) (sym front.size_is) ∙ front.same ∙ take_all 4096 text short in
      rw (at_size, front.size_is) (roomy n short same n_room)
  same_more at n size front at_is n_is (inr big) =
      let at_full : at ≡ 4096 = omega (arith, at_is, big) in
      let n_none : n ≡ 0 = omega (arith, n_is, at_full) in
      let same : take (length text) line ≡ take 4096 text = ap (λ k. take k line) (sym front.size_is) ∙ front.same in
      rw (at_full, n_none, front.size_is) (full (omega (arith, big, front.size_is)) same)

  -- the buffer has the front of the line with the piece
  pub front_more : (at n size : ℕ) → at ≡ min size 4096 → n ≡ min (length piece) (4096 - at) → IsFront line text size
      → IsFront (take at line ++ (take n piece ++ drop (at + n) line)) (text ++ piece) (size + length piece)
  front_more at n size at_is n_is front = record {
    size_is = ap (λ k. k + length piece) front.size_is ∙ sym (length-append text piece);
    same = same_more at n size front at_is n_is (cases_lt size 4096);
  }

  -- the same, as a copy into a part of the buffer says it
  pub front_put : (at n k size : ℕ) (copied : List ℕ) → at ≡ min size 4096 → n ≡ min (length piece) (4096 - at) → k ≡ n → copied ≡ take n piece
      → IsFront line text size → IsFront (take at line ++ (copied ++ drop k (drop at line))) (text ++ piece) (size + length piece)
  front_put at n k size copied at_is n_is k_is copied_is front =
      let behind : drop k (drop at line) ≡ drop (at + n) line = drop-drop k at line ∙ ap (λ m. drop (at + m) line) k_is in
      rw (behind, copied_is) (front_more at n size at_is n_is front)
