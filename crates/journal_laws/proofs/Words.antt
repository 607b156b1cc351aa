-- Words of a flash, after one of them or a bank was written.
use Rattle.std.proofs.Common.{◌≡◌, ℕ, ◌+◌, ◌-◌, ◌*◌, ◌/◌, ◌%◌, ◌^◌, ◌<◌, ◌≤◌, ◌≡◌, ◌⊎◌, inl, inr, true, List, length, take, drop, map, ◌++◌, ap, ◌∙◌, arith, lit<, refl, ⊎_elim}
use Rattle.std.specs.Prelude.{slice_index, slice_set}
use Rattle.std.proofs.lemmas.Bool.{cases_lt, cases_eq}
use Rattle.std.proofs.lemmas.Bool.Decides.{nat_tests}
use Rattle.std.proofs.lemmas.Grind.{common_steps}
use Rattle.std.proofs.lemmas.List.{length-set, length-take, length-map, length-append, length-drop, get_or_append_left, get_or-append_right, get_or-take, get_or-drop, get_or-map}
use Rattle.paygo_spec.specs.Flash.{AreWords, erased_word, erased_bank}
use Rattle.std.specs.Int.Bits.{and_self}
use Rattle.paygo_spec.specs.Rail.{railed, is_railed, is_paired, number_in}
use Rattle.word_rail.proofs.Bits.{torn_of_railed}

-- one word was written
pub words_set : (words : List ℕ) (at w : ℕ) → AreWords words → w < 2 ^ 64 → AreWords (slice_set words at w)
words_set words at w are small = record { count = length-set words at w ∙ are.count; each = λ i. small_at i }
  where
    small_at : (i : ℕ) → slice_index (slice_set words at w) i < 2 ^ 64
    small_at i = grind (arith, common_steps, are.each i)

-- a railed word has its number
pub railed_number : (x : ℕ) → x < 2 ^ 32 → (is_railed (railed x) ≡ true) × (number_in (railed x) ≡ x)
railed_number x l =
    let e : railed x ≡ x * 4294967296 + (4294967295 - x) = refl in
    let d : railed x / 4294967296 ≡ x = omega arith in
    let m : railed x % 4294967296 ≡ 4294967295 - x = omega arith in
    (rw (m, d) (grind (arith, nat_tests)), d)

pub railed_fits : (x : ℕ) → x < 2 ^ 32 → railed x < 2 ^ 64
railed_fits x l = omega arith

-- and is paired
pub railed_paired : (x : ℕ) → x < 2 ^ 32 → is_paired (railed x) ≡ true
railed_paired x l = torn_of_railed (railed x) (railed x) (railed_fits x l) (railed_fits x l) (railed_number x l).0 (and_self (railed x))

-- a bank was erased
module _ (words : List ℕ) (bank : ℕ) (are : AreWords words) (two : bank < 2) where
  front : List ℕ
  front = take (bank * 512) words

  middle : List ℕ
  middle = map (λ _. erased_word) (take 512 (drop (bank * 512) words))

  rest : List ℕ
  rest = drop (bank * 512 + 512) words

  front_size : length front ≡ bank * 512
  unfolding front
  front_size = omega (arith, length-take (bank * 512) words, are.count, two)

  middle_source : length (take 512 (drop (bank * 512) words)) ≡ 512
  middle_source = omega (arith, length-take 512 (drop (bank * 512) words), length-drop (bank * 512) words, are.count, two)

  middle_size : length middle ≡ 512
  unfolding middle
  middle_size = length-map (take 512 (drop (bank * 512) words)) (λ _. erased_word) ∙ middle_source

  both_size : length (front ++ middle) ≡ bank * 512 + 512
  both_size = omega (arith, length-append front middle, front_size, middle_size)

  -- below the bank, in it, and above it
  below : (i : ℕ) → i < bank * 512 → slice_index (erased_bank bank words) i ≡ slice_index words i
  unfolding front middle rest
  below i h = get_or_append_left (front ++ middle) rest 0 i (omega (arith, both_size, h)) ∙ get_or_append_left front middle 0 i (omega (arith, front_size, h)) ∙ get_or-take (bank * 512) words i 0 h

  inside : (i : ℕ) → bank * 512 ≤ i → i < bank * 512 + 512 → slice_index (erased_bank bank words) i ≡ erased_word
  unfolding front middle rest
  inside i a h =
      get_or_append_left (front ++ middle) rest 0 i (omega (arith, both_size, h))
      ∙ get_or-append_right front middle (bank * 512) i 0 front_size a
      ∙ get_or-map (λ _. erased_word) (take 512 (drop (bank * 512) words)) (i - bank * 512) 0 0 (omega (arith, middle_source, a, h))

  above : (i : ℕ) → bank * 512 + 512 ≤ i → slice_index (erased_bank bank words) i ≡ slice_index words i
  unfolding front middle rest
  above i h =
      get_or-append_right (front ++ middle) rest (bank * 512 + 512) i 0 both_size h
      ∙ get_or-drop (bank * 512 + 512) words (i - (bank * 512 + 512)) 0 ∙ ap (λ k. slice_index words k) (omega (arith, h))

  -- the words of the other bank stay, and those of this one are erased
  pub erased_in : (place : ℕ) → place < 512 → slice_index (erased_bank bank words) (512 * bank + place) ≡ erased_word
  erased_in place h = inside (512 * bank + place) (omega arith) (omega arith)

  pub erased_out : (place : ℕ) → place < 512 → slice_index (erased_bank bank words) (512 * (1 - bank) + place) ≡ slice_index words (512 * (1 - bank) + place)
  erased_out place h =
      ⊎_elim (λ (z : bank ≡ 0). above (512 * (1 - bank) + place) (omega arith)) (λ (ne : bank ≡ 0 → ⊥). below (512 * (1 - bank) + place) (omega arith)) (cases_eq bank 0)

  erased_small : (i : ℕ) → (i < bank * 512) ⊎ (bank * 512 ≤ i) → (i < bank * 512 + 512) ⊎ (bank * 512 + 512 ≤ i) → slice_index (erased_bank bank words) i < 2 ^ 64
  erased_small i (inl b) h = rw (below i b) (are.each i)
  erased_small i (inr a) (inl b) = rw (inside i a b) (lit< tt)
  erased_small i (inr a) (inr p) = rw (above i p) (are.each i)

  pub erased_words : AreWords (erased_bank bank words)
  unfolding front middle rest
  erased_words = record {
    count = omega (arith, length-append (front ++ middle) rest, both_size, length-drop (bank * 512 + 512) words, are.count, two);
    each = λ i. erased_small i (cases_lt i (bank * 512)) (cases_lt i (bank * 512 + 512));
  }
