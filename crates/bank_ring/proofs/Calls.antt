-- What a call of the media makes of the words that a ring shows.
use Rattle.std.proofs.Common.{◌≡◌, ◌≢◌, ℕ, ◌+◌, ◌-◌, ◌*◌, ◌/◌, ◌%◌, ◌<◌, ◌≤◌, ◌==◌, ◌⊎◌, inl, inr, true, false, Option, Some, None, Result, Ok, Err, List, length, refl, sym, ◌∙◌, ap, subst, arith, ⊎_elim}
use Rattle.std.specs.Prelude.{IfSome, IfOk, OnOk, OnErr, slice_index, slice_set}
use Rattle.std.specs.Option.{option_map}
use Rattle.std.specs.Int.Bits.{and_self}
use Rattle.std.proofs.lemmas.Bool.{cases_lt, cases_eq}
use Rattle.std.proofs.lemmas.Bool.Decides.{nat_tests}
use Rattle.std.proofs.lemmas.Grind.{same_number_lists}
use Rattle.std.proofs.lemmas.List.{length-set, get_or-set_same, get_or-set_other, get_or_past}
use Rattle.paygo_spec.specs.Flash.{Passes, Fails, Becomes, TornErase, TornProgram, HasOnesOf, erased_word, erased_bank}
use Rattle.bank_ring.specs.declared.pair.Pair.{Pair}
use Rattle.media_ports.specs.Media.{MediaView, IsMedia, AreMediaWords, MediaPasses, MediaFails, same_counts, erased_once}
use Rattle.bank_ring.specs.View.{IsPair, flash_view, in_slot, media_place, pair_with, shown_words}
use Rattle.bank_ring.specs.Shown.{Fit, fit_of, shown_length, shown_at}
use Rattle.media_ports.proofs.BankLemmas.{erased_below, erased_inside, erased_above, erased_length, erased_other}

-- a change of the words, seen through what is shown
pub seen_change : (see see' f g : List ℕ → List ℕ) (old new : Option (List ℕ)) → new ≡ option_map f old → IfSome old (λ words. see' (f words) ≡ g (see words)) → option_map see' new ≡ option_map g (option_map see old)
seen_change see see' f g None new e h = ap (λ o. option_map see' o) e
seen_change see see' f g (Some words) new e h = ap (λ o. option_map see' o) e ∙ ap Some h

-- and what a failed call makes of them
pub seen_torn : (see see' : List ℕ → List ℕ) (torn torn' : List ℕ → List ℕ → Type 0) (old new : Option (List ℕ)) → Becomes torn old new
    → ((words after : List ℕ) → old ≡ Some words → torn words after → torn' (see words) (see' after)) → Becomes torn' (option_map see old) (option_map see' new)
seen_torn see see' torn torn' None None b h = tt
seen_torn see see' torn torn' None (Some after) b h = absurd b
seen_torn see see' torn torn' (Some words) None b h = absurd b
seen_torn see see' torn torn' (Some words) (Some after) b h = h words after refl b

-- a word shown at a place, by slot and place
slot_of : (at : ℕ) → at < 1024 → (at / 512 ≡ 0) ⊎ (at / 512 ≡ 1)
slot_of at l = ⊎_elim (λ (b : at < 512). inl (omega arith)) (λ (a : 512 ≤ at). inr (omega arith)) (cases_lt at 512)

pub slot_range : (banks : ℕ) (pair : Pair) (slot : ℕ) → IsPair banks pair → in_slot pair slot < banks
slot_range banks pair slot in_range =
    ⊎_elim
    (λ (e : slot ≡ 0). let t : (slot == 0) ≡ true = grind (arith, nat_tests) in rw t in_range.first)
    (λ (e : slot ≡ 0 → ⊥). let t : (slot == 0) ≡ false = grind (arith, nat_tests) in rw t in_range.second)
    (cases_eq slot 0)

-- the places of two words shown differ
places_differ : (banks : ℕ) (pair : Pair) (a b : ℕ) → IsPair banks pair → a < 1024 → b < 1024 → a ≢ b → media_place pair a ≢ media_place pair b
places_differ banks pair a b in_range la lb ne =
    let d = in_range.differ in
    ⊎_elim
    (λ (s : a / 512 ≡ 0). ⊎_elim
    (λ (t : b / 512 ≡ 0). rw (s, t) (λ e. ne (omega arith)))
    (λ (t : b / 512 ≡ 1). rw (s, t) (λ e. d (omega arith)))
    (slot_of b lb))
    (λ (s : a / 512 ≡ 1). ⊎_elim
    (λ (t : b / 512 ≡ 0). rw (s, t) (λ e. d (omega arith)))
    (λ (t : b / 512 ≡ 1). rw (s, t) (λ e. ne (omega arith)))
    (slot_of b lb))
    (slot_of a la)

place_fits : (words : List ℕ) (pair : Pair) (at : ℕ) → Fit words pair → at < 1024 → media_place pair at < length words
place_fits words pair at fit l =
    let f = fit.first in let s = fit.second in
    ⊎_elim (λ (e : at / 512 ≡ 0). rw e (omega arith)) (λ (e : at / 512 ≡ 1). rw e (omega arith)) (slot_of at l)

fit_set : (words : List ℕ) (pair : Pair) (at w : ℕ) → Fit words pair → Fit (slice_set words at w) pair
fit_set words pair at w fit = let e = length-set words at w in record { first = omega (arith, e, fit.first); second = omega (arith, e, fit.second) }

-- one word was programmed
pub shown_set : (banks : ℕ) (words : List ℕ) (pair : Pair) (at w : ℕ) → AreMediaWords banks words → IsPair banks pair → at < 1024
    → shown_words (slice_set words (media_place pair at) w) pair ≡ slice_set (shown_words words pair) at w
shown_set banks words pair at w are in_range l =
    same_number_lists (shown_words (slice_set words (media_place pair at) w) pair) (slice_set (shown_words words pair) at w)
    (shown_length _ pair fit' ∙ sym (length-set (shown_words words pair) at w ∙ shown_length words pair fit))
    (λ k h. each k (subst (λ n. k < n) (shown_length _ pair fit') h))
  where
    fit : Fit words pair
    fit = fit_of banks words pair are in_range

    fit' : Fit (slice_set words (media_place pair at) w) pair
    fit' = fit_set words pair (media_place pair at) w fit

    each : (k : ℕ) → k < 1024 → slice_index (shown_words (slice_set words (media_place pair at) w) pair) k ≡ slice_index (slice_set (shown_words words pair) at w) k
    each k h =
        ⊎_elim
        (λ (e : k ≡ at).
        shown_at _ pair k fit' h ∙ ap (λ p. slice_index (slice_set words (media_place pair at) w) (media_place pair p)) e
        ∙ get_or-set_same words (media_place pair at) w 0 (place_fits words pair at fit l)
        ∙ sym (ap (λ p. slice_index (slice_set (shown_words words pair) at w) p) e ∙ get_or-set_same (shown_words words pair) at w 0 (omega (arith, shown_length words pair fit, l))))
        (λ (ne : k ≡ at → ⊥).
        shown_at _ pair k fit' h
        ∙ get_or-set_other words (media_place pair at) (media_place pair k) w 0 (places_differ banks pair k at in_range h l ne)
        ∙ sym (shown_at words pair k fit h)
        ∙ sym (get_or-set_other (shown_words words pair) at k w 0 ne))
        (cases_eq k at)

-- a fact on what is told, from another
pub told_from : {A : Type 0} (P Q : A → Type 0) (told : Option A) → IfSome told P → ((x : A) → P x → Q x) → IfSome told Q
told_from P Q None h f = tt
told_from P Q (Some x) h f = f x h

-- the place in the media, by the bank that the slot shows
place_is : (pair : Pair) (bank at : ℕ) → bank ≡ in_slot pair (at / 512) → bank * 512 + at % 512 ≡ media_place pair at
place_is pair bank at e = ap (λ b. b * 512 + at % 512) e

module _ (old new : MediaView) (pair : Pair) (bank at : ℕ) (is : IsMedia old) (in_range : IsPair old.banks pair) (small : at < 1024) (shows : bank ≡ in_slot pair (at / 512)) where
  word_seen : (word : ℕ) → IfSome old.words (λ words. word ≡ slice_index words (bank * 512 + at % 512)) → (words : Option (List ℕ)) → words ≡ old.words → IfSome words (AreMediaWords old.banks) → IfSome (option_map (λ ws. shown_words ws pair) words) (λ ws. word ≡ slice_index ws at)
  word_seen word h None e are = tt
  word_seen word h (Some words) e are =
      let told : word ≡ slice_index words (bank * 512 + at % 512) = subst (λ o. IfSome o (λ ws. word ≡ slice_index ws (bank * 512 + at % 512))) (sym e) h in
      told ∙ ap (λ p. slice_index words p) (place_is pair bank at shows) ∙ sym (shown_at words pair at (fit_of old.banks words pair are in_range) small)

  pub read_seen : (word : ℕ) → IfSome old.words (λ words. word ≡ slice_index words (bank * 512 + at % 512)) → IfSome (flash_view old (Some pair)).words (λ words. word ≡ slice_index words at)
  read_seen word h = word_seen word h old.words refl is.words

  blank_seen : (words : Option (List ℕ)) → IfSome words (AreMediaWords old.banks) → IfSome (option_map (λ ws. shown_words ws pair) words) (λ ws. slice_index ws at ≡ erased_word) → IfSome words (λ ws. slice_index ws (bank * 512 + at % 512) ≡ erased_word)
  blank_seen None are h = tt
  blank_seen (Some words) are h = ap (λ p. slice_index words p) (place_is pair bank at shows) ∙ sym (shown_at words pair at (fit_of old.banks words pair are in_range) small) ∙ h

  pub erased_seen : IfSome (flash_view old (Some pair)).words (λ words. slice_index words at ≡ erased_word) → IfSome old.words (λ words. slice_index words (bank * 512 + at % 512) ≡ erased_word)
  erased_seen h = blank_seen old.words is.words h

  pub program_passes : (w : ℕ) → MediaPasses (λ words. slice_set words (bank * 512 + at % 512) w) same_counts old new → Passes (λ words. slice_set words at w) (flash_view old (Some pair)) (flash_view new (Some pair))
  program_passes w p = record {
    words = seen_change (λ ws. shown_words ws pair) (λ ws. shown_words ws pair) (λ words. slice_set words (bank * 512 + at % 512) w) (λ words. slice_set words at w) old.words new.words p.words
        (told_from (AreMediaWords old.banks) (λ words. shown_words (slice_set words (bank * 512 + at % 512) w) pair ≡ slice_set (shown_words words pair) at w) old.words is.words
        (λ words are. ap (λ q. shown_words (slice_set words q w) pair) (place_is pair bank at shows) ∙ shown_set old.banks words pair at w are in_range small));
    call = record { up = p.up; due = refl; faults = p.faults };
  }

  pub program_fails : (w : ℕ) → MediaFails (Becomes (TornProgram (bank * 512 + at % 512) w)) old new → Fails (Becomes (TornProgram at w)) (flash_view old (Some pair)) (flash_view new (Some pair))
  program_fails w f = record {
    words = seen_torn (λ ws. shown_words ws pair) (λ ws. shown_words ws pair) (TornProgram (bank * 512 + at % 512) w) (TornProgram at w) old.words new.words f.words
        (λ words after e t. (
          t.0,
          t.1,
          t.2,
          ap (λ ws. shown_words ws pair) t.3 ∙ ap (λ q. shown_words (slice_set words q t.0) pair) (place_is pair bank at shows)
              ∙ shown_set old.banks words pair at t.0 (subst (λ o. IfSome o (AreMediaWords old.banks)) e is.words) in_range small,
        ));
    call = record { down = f.down; due = refl; rose = f.rose };
  }

two_slots : (slot : ℕ) → slot < 2 → (slot ≡ 0) ⊎ (slot ≡ 1)
two_slots slot l = ⊎_elim (λ (e : slot ≡ 0). inl e) (λ (ne : slot ≡ 0 → ⊥). inr (omega arith)) (cases_eq slot 0)

pub with_here : (pair : Pair) (slot bank : ℕ) → slot < 2 → in_slot (pair_with pair slot bank) slot ≡ bank
with_here pair slot bank l =
    ⊎_elim (λ (e : slot ≡ 0). rw e refl) (λ (e : slot ≡ 1). rw e refl) (two_slots slot l)

pub with_other : (pair : Pair) (slot bank : ℕ) → slot < 2 → in_slot (pair_with pair slot bank) (1 - slot) ≡ in_slot pair (1 - slot)
with_other pair slot bank l =
    ⊎_elim (λ (e : slot ≡ 0). rw e refl) (λ (e : slot ≡ 1). rw e refl) (two_slots slot l)

pub with_range : (banks : ℕ) (pair : Pair) (slot bank : ℕ) → IsPair banks pair → slot < 2 → bank < banks → bank ≢ in_slot pair (1 - slot) → IsPair banks (pair_with pair slot bank)
with_range banks pair slot bank in_range l below ne =
    ⊎_elim
    (λ (e : slot ≡ 0).
    let d : bank ≢ pair.second = subst (λ s. bank ≢ in_slot pair (1 - s)) e ne in
    subst (λ s. IsPair banks (pair_with pair s bank)) (sym e) (record { first = below; second = in_range.second; differ = d }))
    (λ (e : slot ≡ 1).
    let d : bank ≢ pair.first = subst (λ s. bank ≢ in_slot pair (1 - s)) e ne in
    subst (λ s. IsPair banks (pair_with pair s bank)) (sym e) (record { first = in_range.first; second = below; differ = λ q. d (sym q) }))
    (two_slots slot l)

which_slot : (slot at : ℕ) → slot < 2 → at < 1024 → (at / 512 ≡ slot) ⊎ (at / 512 ≡ 1 - slot)
which_slot slot at l m = ⊎_elim (λ (e : at / 512 ≡ slot). inl e) (λ (ne : at / 512 ≡ slot → ⊥). inr (omega arith)) (cases_eq (at / 512) slot)

-- a bank was erased, and is shown
module _ (banks : ℕ) (words : List ℕ) (pair : Pair) (slot bank : ℕ) (are : AreMediaWords banks words) (in_range : IsPair banks pair)
    (two : slot < 2) (below : bank < banks) (other : bank ≢ in_slot pair (1 - slot)) where
  now : Pair
  now = pair_with pair slot bank

  fits : bank * 512 + 512 ≤ length words
  fits = let c = are.count in omega (arith, c, below)

  fit : Fit words pair
  fit = fit_of banks words pair are in_range

  fit_now : Fit (erased_bank bank words) now
  unfolding now
  fit_now =
      let r = with_range banks pair slot bank in_range two below other in
      let c = are.count in
      let e = erased_length words bank fits in
      let f = r.first in let s = r.second in
      record { first = omega (arith, c, e, f); second = omega (arith, c, e, s) }

  fits_shown : slot * 512 + 512 ≤ length (shown_words words pair)
  fits_shown = let e = shown_length words pair fit in omega (arith, e, two)

  here : (k : ℕ) → k < 1024 → k / 512 ≡ slot → slice_index (erased_bank bank words) (media_place now k) ≡ slice_index (erased_bank slot (shown_words words pair)) k
  unfolding now
  here k l e =
      ap (λ b. slice_index (erased_bank bank words) (b * 512 + k % 512)) (ap (λ s. in_slot (pair_with pair slot bank) s) e ∙ with_here pair slot bank two)
      ∙ erased_inside words bank fits (bank * 512 + k % 512) (omega arith) (omega arith)
      ∙ sym (erased_inside (shown_words words pair) slot fits_shown k (omega (arith, e)) (omega (arith, e)))

  there : (k : ℕ) → k < 1024 → k / 512 ≡ 1 - slot → slice_index (erased_bank bank words) (media_place now k) ≡ slice_index (erased_bank slot (shown_words words pair)) k
  unfolding now
  there k l e =
      ap (λ b. slice_index (erased_bank bank words) (b * 512 + k % 512)) (ap (λ s. in_slot (pair_with pair slot bank) s) e ∙ with_other pair slot bank two)
      ∙ erased_other words bank (in_slot pair (1 - slot)) (k % 512) fits other (omega arith)
      ∙ ap (λ s. slice_index words (in_slot pair s * 512 + k % 512)) (sym e)
      ∙ sym (shown_at words pair k fit l)
      ∙ sym (outside k l e)
    where
      outside : (k : ℕ) → k < 1024 → k / 512 ≡ 1 - slot → slice_index (erased_bank slot (shown_words words pair)) k ≡ slice_index (shown_words words pair) k
      outside k l e =
          ⊎_elim
          (λ (z : slot ≡ 0). erased_above (shown_words words pair) slot fits_shown k (omega (arith, e, z)))
          (λ (z : slot ≡ 1). erased_below (shown_words words pair) slot fits_shown k (omega (arith, e, z)))
          (two_slots slot two)

  pub shown_erased : shown_words (erased_bank bank words) (pair_with pair slot bank) ≡ erased_bank slot (shown_words words pair)
  unfolding now
  shown_erased =
      same_number_lists _ _ (shown_length _ _ fit_now ∙ sym (erased_length (shown_words words pair) slot fits_shown ∙ shown_length words pair fit))
      (λ k h. let l : k < 1024 = subst (λ n. k < n) (shown_length _ _ fit_now) h in
      shown_at (erased_bank bank words) (pair_with pair slot bank) k fit_now l
      ∙ ⊎_elim (λ (e : k / 512 ≡ slot). here k l e) (λ (e : k / 512 ≡ 1 - slot). there k l e) (which_slot slot k two l))

-- the erase of a bank failed, and the same banks are shown
module _ (banks : ℕ) (words after : List ℕ) (pair : Pair) (slot bank : ℕ) (are : AreMediaWords banks words) (in_range : IsPair banks pair)
    (two : slot < 2) (other : bank ≢ in_slot pair (1 - slot)) (torn : TornErase bank words after) where
  before_fit : Fit words pair
  before_fit = fit_of banks words pair are in_range

  fit_after : Fit after pair
  fit_after = let c = torn.count in let f = before_fit.first in let s = before_fit.second in record { first = omega (arith, c, f); second = omega (arith, c, s) }

  -- a place of a bank keeps its ones, and that of another bank stays
  ones_at : (b place : ℕ) → place < 512 → HasOnesOf (slice_index words (b * 512 + place)) (slice_index after (b * 512 + place))
  ones_at b place l =
      ⊎_elim
      (λ (e : b ≡ bank). torn.inside (b * 512 + place) (omega (arith, e)) (omega (arith, e)))
      (λ (ne : b ≡ bank → ⊥). rw (stays b place l ne) (and_self _))
      (cases_eq b bank)
    where
      stays : (b place : ℕ) → place < 512 → (b ≡ bank → ⊥) → slice_index after (b * 512 + place) ≡ slice_index words (b * 512 + place)
      stays b place l ne =
          ⊎_elim
          (λ (m : b < bank). torn.before (b * 512 + place) (omega arith))
          (λ (m : bank ≤ b). torn.after (b * 512 + place) (let s : bank < b = omega (arith, ne) in omega arith))
          (cases_lt b bank)

  stays_at : (b place : ℕ) → place < 512 → bank ≢ b → slice_index after (b * 512 + place) ≡ slice_index words (b * 512 + place)
  stays_at b place l ne =
      ⊎_elim
      (λ (m : b < bank). torn.before (b * 512 + place) (omega arith))
      (λ (m : bank ≤ b). torn.after (b * 512 + place) (let s : bank < b = omega (arith, ne) in omega arith))
      (cases_lt b bank)

  -- where a word of the other slot is shown, it stays
  out : (k : ℕ) → k < 1024 → k / 512 ≡ 1 - slot → slice_index (shown_words after pair) k ≡ slice_index (shown_words words pair) k
  out k l e =
      shown_at after pair k fit_after l
      ∙ ap (λ s. slice_index after (in_slot pair s * 512 + k % 512)) e
      ∙ stays_at (in_slot pair (1 - slot)) (k % 512) (omega arith) other
      ∙ ap (λ s. slice_index words (in_slot pair s * 512 + k % 512)) (sym e)
      ∙ sym (shown_at words pair k before_fit l)

  past : (k : ℕ) → 1024 ≤ k → slice_index (shown_words after pair) k ≡ slice_index (shown_words words pair) k
  past k l = get_or_past _ k 0 (let e = shown_length after pair fit_after in omega (arith, e, l)) ∙ sym (get_or_past _ k 0 (let e = shown_length words pair before_fit in omega (arith, e, l)))

  pub shown_torn : TornErase slot (shown_words words pair) (shown_words after pair)
  shown_torn = record {
    count = shown_length after pair fit_after ∙ sym (shown_length words pair before_fit);
    inside = λ i a b. (let l : i < 1024 = omega (arith, two, b) in
        rw (shown_at words pair i before_fit l, shown_at after pair i fit_after l) (ones_at (in_slot pair (i / 512)) (i % 512) (omega arith)));
    before = λ i b. out i (omega (arith, two, b)) (omega (arith, two, b));
    after = λ i a. ⊎_elim (λ (l : i < 1024). out i l (omega (arith, two, a, l))) (λ (l : 1024 ≤ i). past i l) (cases_lt i 1024);
  }

module _ (old new : MediaView) (pair : Pair) (slot bank : ℕ) (is : IsMedia old) (in_range : IsPair old.banks pair) (two : slot < 2) (other : bank ≢ in_slot pair (1 - slot)) where
  pub erase_passes : bank < old.banks → MediaPasses (erased_bank bank) (erased_once bank) old new → Passes (erased_bank slot) (flash_view old (Some pair)) (flash_view new (Some (pair_with pair slot bank)))
  erase_passes below p = record {
    words = seen_change (λ ws. shown_words ws pair) (λ ws. shown_words ws (pair_with pair slot bank)) (erased_bank bank) (erased_bank slot) old.words new.words p.words
        (told_from (AreMediaWords old.banks) (λ words. shown_words (erased_bank bank words) (pair_with pair slot bank) ≡ erased_bank slot (shown_words words pair)) old.words is.words
        (λ words are. shown_erased old.banks words pair slot bank are in_range two below other));
    call = record { up = p.up; due = refl; faults = p.faults };
  }

  pub erase_fails : MediaFails (Becomes (TornErase bank)) old new → Fails (Becomes (TornErase slot)) (flash_view old (Some pair)) (flash_view new (Some pair))
  erase_fails f = record {
    words = seen_torn (λ ws. shown_words ws pair) (λ ws. shown_words ws pair) (TornErase bank) (TornErase slot) old.words new.words f.words
        (λ words after e t. shown_torn old.banks words after pair slot bank (subst (λ o. IfSome o (AreMediaWords old.banks)) e is.words) in_range two other t);
    call = record { down = f.down; due = refl; rose = f.rose };
  }

-- what follows from what an answer says
pub on_ok : {T E : Type 0} (P Q : Type 0) (r : Result T E) → (P → Q) → OnOk r P → OnOk r Q
on_ok P Q (Ok x) f h = f h
on_ok P Q (Err e) f h = tt

pub on_err : {T E : Type 0} (P Q : Type 0) (r : Result T E) → (P → Q) → OnErr r P → OnErr r Q
on_err P Q (Ok x) f h = tt
on_err P Q (Err e) f h = f h

pub if_ok : {T E : Type 0} (P Q : T → Type 0) (r : Result T E) → ((x : T) → P x → Q x) → IfOk r P → IfOk r Q
if_ok P Q (Ok x) f h = f x h
if_ok P Q (Err e) f h = tt
