-- The words that a ring shows.
use Rattle.std.proofs.Common.{◌≡◌, ℕ, ◌+◌, ◌-◌, ◌*◌, ◌/◌, ◌%◌, ◌<◌, ◌≤◌, List, length, drop, refl, sym, ◌∙◌, ap, arith, lit<, ⊎_elim}
use Rattle.std.specs.Prelude.{slice_index}
use Rattle.std.proofs.lemmas.Bool.{cases_lt}
use Rattle.std.proofs.lemmas.List.{length-take, length-append, length-drop, get_or_append_left, get_or-append_right, get_or-take, get_or-drop, get_or_past}
use Rattle.paygo_spec.specs.Flash.{AreWords}
use Rattle.bank_ring.specs.declared.pair.Pair.{Pair}
use Rattle.media_ports.specs.Media.{AreMediaWords}
use Rattle.bank_ring.specs.View.{IsPair, bank_words, media_place, shown_words}

-- the two halves of the places shown
first_half : (at : ℕ) (pair : Pair) → at < 512 → media_place pair at ≡ pair.first * 512 + at
first_half at pair l = let d : at / 512 ≡ 0 = omega arith in let m : at % 512 ≡ at = omega arith in rw (d, m) refl

second_half : (at : ℕ) (pair : Pair) → 512 ≤ at → at < 1024 → media_place pair at ≡ pair.second * 512 + (at - 512)
second_half at pair a l = let d : at / 512 ≡ 1 = omega arith in let m : at % 512 ≡ at - 512 = omega arith in rw (d, m) refl

bank_length : (words : List ℕ) (bank : ℕ) → bank * 512 + 512 ≤ length words → length (bank_words words bank) ≡ 512
bank_length words bank fits = omega (arith, length-take 512 (drop (bank * 512) words), length-drop (bank * 512) words, fits)

bank_at : (words : List ℕ) (bank at : ℕ) → at < 512 → slice_index (bank_words words bank) at ≡ slice_index words (bank * 512 + at)
bank_at words bank at l = get_or-take 512 (drop (bank * 512) words) at 0 l ∙ get_or-drop (bank * 512) words at 0

pub record Fit (words : List ℕ) (pair : Pair) : Type 0 where
  pub first : pair.first * 512 + 512 ≤ length words
  pub second : pair.second * 512 + 512 ≤ length words

pub fit_of : (banks : ℕ) (words : List ℕ) (pair : Pair) → AreMediaWords banks words → IsPair banks pair → Fit words pair
fit_of banks words pair are in_range =
    let c = are.count in let f = in_range.first in let s = in_range.second in
    record { first = omega arith; second = omega arith }

pub shown_length : (words : List ℕ) (pair : Pair) → Fit words pair → length (shown_words words pair) ≡ 1024
shown_length words pair fit = omega (arith, length-append (bank_words words pair.first) (bank_words words pair.second), bank_length words pair.first fit.first, bank_length words pair.second fit.second)

pub shown_at : (words : List ℕ) (pair : Pair) (at : ℕ) → Fit words pair → at < 1024 → slice_index (shown_words words pair) at ≡ slice_index words (media_place pair at)
shown_at words pair at fit l =
    ⊎_elim
    (λ (b : at < 512).
    get_or_append_left (bank_words words pair.first) (bank_words words pair.second) 0 at (omega (arith, bank_length words pair.first fit.first, b))
    ∙ bank_at words pair.first at b ∙ ap (λ k. slice_index words k) (sym (first_half at pair b)))
    (λ (a : 512 ≤ at).
    get_or-append_right (bank_words words pair.first) (bank_words words pair.second) 512 at 0 (bank_length words pair.first fit.first) a
    ∙ bank_at words pair.second (at - 512) (omega arith) ∙ ap (λ k. slice_index words k) (sym (second_half at pair a l)))
    (cases_lt at 512)

shown_past : (words : List ℕ) (pair : Pair) (at : ℕ) → Fit words pair → 1024 ≤ at → slice_index (shown_words words pair) at ≡ 0
shown_past words pair at fit l = get_or_past (shown_words words pair) at 0 (omega (arith, shown_length words pair fit, l))

pub shown_whole : (banks : ℕ) (words : List ℕ) (pair : Pair) → AreMediaWords banks words → IsPair banks pair → AreWords (shown_words words pair)
shown_whole banks words pair are in_range =
    let fit = fit_of banks words pair are in_range in
    record {
      count = shown_length words pair fit;
      each = λ i. ⊎_elim
          (λ (l : i < 1024). rw (shown_at words pair i fit l) (are.each (media_place pair i)))
          (λ (l : 1024 ≤ i). rw (shown_past words pair i fit l) (lit< tt))
          (cases_lt i 1024);
    }
