-- A bank that was erased, among any number of banks.
use Rattle.std.proofs.Common.{◌≡◌, ◌≢◌, ℕ, ◌+◌, ◌-◌, ◌*◌, ◌<◌, ◌≤◌, List, length, take, drop, map, ◌++◌, ◌∙◌, ap, arith, ⊎_elim}
use Rattle.std.specs.Prelude.{slice_index}
use Rattle.std.proofs.lemmas.Bool.{cases_lt}
use Rattle.std.proofs.lemmas.List.{length-take, length-map, length-append, length-drop, get_or_append_left, get_or-append_right, get_or-take, get_or-drop, get_or-map}
use Rattle.paygo_spec.specs.Flash.{erased_word, erased_bank}

module _ (words : List ℕ) (bank : ℕ) (fits : bank * 512 + 512 ≤ length words) where
  front : List ℕ
  front = take (bank * 512) words

  middle : List ℕ
  middle = map (λ _. erased_word) (take 512 (drop (bank * 512) words))

  rest : List ℕ
  rest = drop (bank * 512 + 512) words

  front_size : length front ≡ bank * 512
  unfolding front
  front_size = omega (arith, length-take (bank * 512) words, fits)

  middle_source : length (take 512 (drop (bank * 512) words)) ≡ 512
  middle_source = omega (arith, length-take 512 (drop (bank * 512) words), length-drop (bank * 512) words, fits)

  middle_size : length middle ≡ 512
  unfolding middle
  middle_size = length-map (take 512 (drop (bank * 512) words)) (λ _. erased_word) ∙ middle_source

  both_size : length (front ++ middle) ≡ bank * 512 + 512
  both_size = omega (arith, length-append front middle, front_size, middle_size)

  pub erased_below : (i : ℕ) → i < bank * 512 → slice_index (erased_bank bank words) i ≡ slice_index words i
  unfolding front middle rest
  erased_below i h = get_or_append_left (front ++ middle) rest 0 i (omega (arith, both_size, h)) ∙ get_or_append_left front middle 0 i (omega (arith, front_size, h)) ∙ get_or-take (bank * 512) words i 0 h

  pub erased_inside : (i : ℕ) → bank * 512 ≤ i → i < bank * 512 + 512 → slice_index (erased_bank bank words) i ≡ erased_word
  unfolding front middle rest
  erased_inside i a h =
      get_or_append_left (front ++ middle) rest 0 i (omega (arith, both_size, h))
      ∙ get_or-append_right front middle (bank * 512) i 0 front_size a
      ∙ get_or-map (λ _. erased_word) (take 512 (drop (bank * 512) words)) (i - bank * 512) 0 0 (omega (arith, middle_source, a, h))

  pub erased_above : (i : ℕ) → bank * 512 + 512 ≤ i → slice_index (erased_bank bank words) i ≡ slice_index words i
  unfolding front middle rest
  erased_above i h =
      get_or-append_right (front ++ middle) rest (bank * 512 + 512) i 0 both_size h
      ∙ get_or-drop (bank * 512 + 512) words (i - (bank * 512 + 512)) 0 ∙ ap (λ k. slice_index words k) (omega (arith, h))

  pub erased_length : length (erased_bank bank words) ≡ length words
  unfolding front middle rest
  erased_length = omega (arith, length-append (front ++ middle) rest, both_size, length-drop (bank * 512 + 512) words, fits)

-- at a place of another bank the word stays
pub erased_other : (words : List ℕ) (bank other place : ℕ) → bank * 512 + 512 ≤ length words → bank ≢ other → place < 512 → slice_index (erased_bank bank words) (other * 512 + place) ≡ slice_index words (other * 512 + place)
erased_other words bank other place fits ne small =
    ⊎_elim
    (λ (l : other < bank). erased_below words bank fits (other * 512 + place) (omega arith))
    (λ (l : bank ≤ other). erased_above words bank fits (other * 512 + place) (let s : bank < other = omega (arith, ne) in omega arith))
    (cases_lt other bank)
