-- A bank whose words all have each bit set is an erased bank.
use Rattle.std.proofs.Common.{◌≡◌, ℕ, ◌+◌, ◌-◌, ◌*◌, ◌^◌, ◌<◌, ◌≤◌, ◌⊎◌, inl, inr, List, length, take, drop, map, ◌++◌, get_or, ap, sym, ◌∙◌, arith, lit<, Some}
use Rattle.std.specs.Prelude.{bit_or, slice_index, replicate}
use Rattle.std.proofs.lemmas.Bool.{cases_lt}
use Rattle.std.proofs.lemmas.Grind.{common_steps, same_number_lists}
use Rattle.std.proofs.lemmas.List.{get_or_append_left, get_or-append_right, get_or-take, get_or-drop, get_or-map, get_or-replicate, length-replicate}
use Rattle.std.proofs.lemmas.Nat.{or_lt, le_or_r}
use Rattle.paygo_spec.specs.Flash.{AreWords, AreErased, KeptBank, erased_word, erased_bank}

-- all 64 bits set
all_ones : (w : ℕ) → w < 2 ^ 64 → bit_or w (2 ^ 64 - 1) ≡ 2 ^ 64 - 1
all_ones w small = omega (arith, or_lt 64 w (2 ^ 64 - 1) small (lit< tt), le_or_r w (2 ^ 64 - 1))

-- the words of three lists, one behind the other
at_first : (a b c : List ℕ) (k : ℕ) → k < length a → get_or (a ++ b ++ c) k 0 ≡ get_or a k 0
at_first a b c k h = get_or_append_left (a ++ b) c 0 k (grind (arith, common_steps)) ∙ get_or_append_left a b 0 k h

at_second : (a b c : List ℕ) (s k : ℕ) → length a ≡ s → s ≤ k → k < s + length b → get_or (a ++ b ++ c) k 0 ≡ get_or b (k - s) 0
at_second a b c s k size above h = get_or_append_left (a ++ b) c 0 k (grind (arith, common_steps)) ∙ get_or-append_right a b s k 0 size above

at_third : (a b c : List ℕ) (e k : ℕ) → length a + length b ≡ e → e ≤ k → get_or (a ++ b ++ c) k 0 ≡ get_or c (k - e) 0
at_third a b c e k size above = get_or-append_right (a ++ b) c e k 0 (grind (arith, common_steps)) above

-- the first n of some words, each put in its place by one and the same
first_length : (n : ℕ) (words : List ℕ) → n ≤ length words → length (take n words) ≡ n
first_length n words h = grind (arith, common_steps)

all_length : (n : ℕ) (words : List ℕ) → n ≤ length words → length (map (λ _. erased_word) (take n words)) ≡ n
all_length n words h = grind (arith, common_steps)

all_at : (n : ℕ) (words : List ℕ) (k : ℕ) → n ≤ length words → k < n → get_or (map (λ _. erased_word) (take n words)) k 0 ≡ erased_word
all_at n words k h below = get_or-map (λ _. erased_word) (take n words) k 0 0 (omega (arith, first_length n words h, below))

left_length : (s : ℕ) (words : List ℕ) → s + 512 ≤ length words → 512 ≤ length (drop s words)
left_length s words h = grind (arith, common_steps)

-- words of which 512 from the place s on are erased
module _ (old new : List ℕ) (s : ℕ) (fits : s + 512 ≤ length old) (count : length new ≡ length old)
    (before : (i : ℕ) → i < s → get_or new i 0 ≡ get_or old i 0)
    (inside : (i : ℕ) → s ≤ i → i < s + 512 → get_or new i 0 ≡ erased_word)
    (after : (i : ℕ) → s + 512 ≤ i → get_or new i 0 ≡ get_or old i 0) where
  front : List ℕ
  front = take s old

  middle : List ℕ
  middle = map (λ _. erased_word) (take 512 (drop s old))

  rest : List ℕ
  rest = drop (s + 512) old

  front_size : length front ≡ s
  unfolding front
  front_size = grind (arith, common_steps)

  middle_size : length middle ≡ 512
  unfolding middle
  middle_size = all_length 512 (drop s old) (left_length s old fits)

  rest_size : length rest ≡ length old - (s + 512)
  unfolding rest
  rest_size = grind (arith, common_steps)

  in_front : (k : ℕ) → k < s → get_or front k 0 ≡ get_or old k 0
  unfolding front
  in_front k h = get_or-take s old k 0 h

  in_middle : (k : ℕ) → k < 512 → get_or middle k 0 ≡ erased_word
  unfolding middle
  in_middle k h = all_at 512 (drop s old) k (left_length s old fits) h

  in_rest : (k : ℕ) → s + 512 ≤ k → get_or rest (k - (s + 512)) 0 ≡ get_or old k 0
  unfolding rest
  in_rest k h = get_or-drop (s + 512) old (k - (s + 512)) 0 ∙ ap (λ i. get_or old i 0) (omega (arith, h))

  size : length new ≡ length (front ++ middle ++ rest)
  size = grind (arith, common_steps, front_size, middle_size, rest_size)

  same_at : (k : ℕ) → (k < s) ⊎ (s ≤ k) → (k < s + 512) ⊎ (s + 512 ≤ k) → get_or new k 0 ≡ get_or (front ++ middle ++ rest) k 0
  same_at k (inl below) h = before k below ∙ sym (in_front k below) ∙ sym (at_first front middle rest k (omega (arith, front_size, below)))
  same_at k (inr above) (inl below) = inside k above below ∙ sym (in_middle (k - s) (omega (arith, above, below))) ∙ sym (at_second front middle rest s k front_size above (omega (arith, middle_size, below)))
  same_at k (inr above) (inr past) = after k past ∙ sym (in_rest k past) ∙ sym (at_third front middle rest (s + 512) k (omega (arith, front_size, middle_size)) past)

  pub erased_from : new ≡ take s old ++ map (λ _. erased_word) (take 512 (drop s old)) ++ drop (s + 512) old
  unfolding front middle rest
  erased_from = same_number_lists new (front ++ middle ++ rest) size (λ k h. same_at k (cases_lt k s) (cases_lt k (s + 512)))

pub erased_is : (old new : List ℕ) (bank : ℕ) → AreWords old → bank < 2 → KeptBank bank (2 ^ 64 - 1) old new → new ≡ erased_bank bank old
erased_is old new bank are two kept =
    erased_from old new (bank * 512) (omega (arith, are.count, two)) kept.count kept.before (λ i above below. kept.inside i above below ∙ all_ones _ (are.each i)) kept.after

-- words that are all erased when they are made
pub all_erased : (n : ℕ) (words : List ℕ) → n ≡ 1024 → Some words ≡ Some (replicate n (2 ^ 64 - 1)) → AreErased words
all_erased n words is same = record { count = count; each = each }
  where
    equal : words ≡ replicate n (2 ^ 64 - 1)
    equal = cc

    count : length words ≡ 1024
    count = ap length equal ∙ length-replicate n (2 ^ 64 - 1) ∙ is

    each : (i : ℕ) → i < 1024 → slice_index words i ≡ erased_word
    each i h = ap (λ l. get_or l i 0) equal ∙ get_or-replicate n i (2 ^ 64 - 1) 0 (omega (arith, is, h))
