-- The bytes held, when a piece of them is taken.
use Rattle.std.proofs.Common.{◌≡◌, ℕ, suc, ◌+◌, ◌-◌, ◌≤◌, ◌<◌, Bool, true, false, List, ◌∷◌, ◌++◌, length, take, drop, Some, None, refl, sym, ap, ◌∙◌, arith, subst, add-one}
use Rattle.std.specs.Prelude.{position}
use Rattle.std.proofs.lemmas.List.{length-take, drop-drop, drop-take}
use Rattle.run_spec.specs.Lines.{whole_lines}
use Rattle.line_loop.specs.Reader.{LinesView}
use Rattle.line_loop.specs.Gather.{is_end, IsFront, IsPiece}
use Rattle.line_loop.proofs.Cuts.{position_found, position_missed}

-- what is held from a place of the block on, less its first bytes
less : (block : List ℕ) (start end more : ℕ) → start + more ≤ end → drop more (take (end - start) (drop start block)) ≡ take (end - (start + more)) (drop (start + more) block)
less block start end more fits =
    let all : end - start ≡ more + (end - (start + more)) = omega (arith, fits) in
    ap (λ n. drop more (take n (drop start block))) all
    ∙ drop-take more (end - (start + more)) (drop start block)
    ∙ ap (take (end - (start + more))) (drop-drop more start block)

module _ (block buffer buffer' : List ℕ) (start end budget taken before size : ℕ) (ended : Bool) where
  abbrev held_in : ℕ → List ℕ
  held_in from = take (end - from) (drop from block)

  abbrev seen : ℕ → LinesView
  seen from = record { budget = budget; taken = taken; held = held_in from; ended = ended }

  pub some_piece : (old : LinesView) (at : ℕ) → end ≤ 8192 → seen start ≡ old → position is_end (held_in start) ≡ Some at
      → size ≡ before + length (take at (held_in start))
      → ((text : List ℕ) → IsFront buffer text before → IsFront buffer' (text ++ take at (held_in start)) size)
      → IsPiece size true before buffer buffer' old (seen (start + (at + 1)))
  some_piece old at block_is is e size_is front =
      let f = position_found (held_in start) at e in
      let k_is : f.k ≡ at = omega (arith, f.at_is) in
      let inside : at < end - start = omega (arith, f.within, k_is, length-take (end - start) (drop start block)) in
      subst (λ (v : LinesView). IsPiece size true before buffer buffer' v (seen (start + (at + 1)))) is record {
        piece = take at (held_in start);
        unended = ap (λ n. whole_lines (take n (held_in start))) (sym k_is) ∙ f.none;
        held = f.split ∙ ap (λ n. take n (held_in start) ++ 10 ∷ drop (suc n) (held_in start)) k_is
            ∙ ap (λ n. take at (held_in start) ++ 10 ∷ drop n (held_in start)) (sym (add-one at))
            ∙ ap (λ l. take at (held_in start) ++ 10 ∷ l) (less block start end (at + 1) (omega (arith, inside)));
        none = λ h. cc;
        size_is = size_is;
        front = front;
        ahead = omega (arith, block_is, inside, length-take (end - (start + (at + 1))) (drop (start + (at + 1)) block));
        budget = refl;
        taken = refl;
        ended = refl;
      }

  pub all_piece : (old : LinesView) → seen start ≡ old → position is_end (held_in start) ≡ None
      → size ≡ before + length (held_in start)
      → ((text : List ℕ) → IsFront buffer text before → IsFront buffer' (text ++ held_in start) size)
      → IsPiece size false before buffer buffer' old (seen end)
  all_piece old is e size_is front =
      subst (λ (v : LinesView). IsPiece size false before buffer buffer' v (seen end)) is record {
        piece = held_in start;
        unended = position_missed (held_in start) e;
        held = refl;
        none = λ h. let n : end - end ≡ 0 = omega arith in ap (λ m. take m (drop end block)) n;
        size_is = size_is;
        front = front;
        ahead = omega (arith, length-take (end - end) (drop end block));
        budget = refl;
        taken = refl;
        ended = refl;
      }
