-- Words of a media in memory, after one of them or a bank was written.
use Rattle.std.proofs.Common.{◌≡◌, ℕ, ◌+◌, ◌-◌, ◌*◌, ◌^◌, ◌<◌, ◌≤◌, ◌⊎◌, inl, inr, List, length, take, drop, ◌++◌, refl, sym, subst, ap, ◌∙◌, arith, lit<}
use Rattle.std.specs.Prelude.{bit_and, bit_or, slice_index, slice_set}
use Rattle.std.proofs.lemmas.Bool.{cases_lt}
use Rattle.std.proofs.lemmas.Grind.{common_steps, same_number_lists}
use Rattle.std.proofs.lemmas.List.{length-set, take_at}
use Rattle.std.proofs.lemmas.Nat.{or_comm, and_or_self, or_lt, le_or_r}
use Rattle.paygo_spec.specs.Flash.{HasOnesOf, KeptBank, TornErase, TornProgram, erased_bank}
use Rattle.media_ports.specs.Media.{AreMediaWords}
use Rattle.media_ports.proofs.BankLemmas.{erased_below, erased_inside, erased_above, erased_length}

-- what is programmed while these bits are kept has at least its own ones
pub kept_ones : (w keep : ℕ) → HasOnesOf w (bit_or w keep)
kept_ones w keep = ap (λ t. bit_and t w) (or_comm w keep) ∙ and_or_self w keep

pub words_set : (banks : ℕ) (words : List ℕ) (at w : ℕ) → AreMediaWords banks words → w < 2 ^ 64 → AreMediaWords banks (slice_set words at w)
words_set banks words at w are small = record { count = length-set words at w ∙ are.count; each = λ i. small_at i }
  where
    small_at : (i : ℕ) → slice_index (slice_set words at w) i < 2 ^ 64
    small_at i = grind (arith, common_steps, are.each i)

pub torn_word : (words : List ℕ) (at w keep : ℕ) → w < 2 ^ 64 → keep < 2 ^ 64 → TornProgram at w words (slice_set words at (bit_or w keep))
torn_word words at w keep f k = (bit_or w keep, or_lt 64 w keep f k, kept_ones w keep, refl)

module _ (banks : ℕ) (old new : List ℕ) (bank keep : ℕ) (are : AreMediaWords banks old) (small : keep < 2 ^ 64) (kept : KeptBank bank keep old new) where
  new_small : (i : ℕ) → (i < bank * 512) ⊎ (bank * 512 ≤ i) → (i < bank * 512 + 512) ⊎ (bank * 512 + 512 ≤ i) → slice_index new i < 2 ^ 64
  new_small i (inl below) h = rw (kept.before i below) (are.each i)
  new_small i (inr above) (inl below) = rw (kept.inside i above below) (or_lt 64 _ _ (are.each i) small)
  new_small i (inr above) (inr past) = rw (kept.after i past) (are.each i)

  pub words_kept : AreMediaWords banks new
  words_kept = record { count = kept.count ∙ are.count; each = λ i. new_small i (cases_lt i (bank * 512)) (cases_lt i (bank * 512 + 512)) }

  pub torn_bank : TornErase bank old new
  torn_bank = record { count = kept.count; inside = λ i above below. rw (kept.inside i above below) (kept_ones _ _); before = kept.before; after = kept.after }

all_ones : (w : ℕ) → w < 2 ^ 64 → bit_or w (2 ^ 64 - 1) ≡ 2 ^ 64 - 1
all_ones w small = omega (arith, or_lt 64 w (2 ^ 64 - 1) small (lit< tt), le_or_r w (2 ^ 64 - 1))

module _ (banks : ℕ) (old new : List ℕ) (bank : ℕ) (are : AreMediaWords banks old) (within : bank < banks) (kept : KeptBank bank (2 ^ 64 - 1) old new) where
  fits : bank * 512 + 512 ≤ length old
  fits = let c = are.count in omega (arith, c, within)

  same_at : (i : ℕ) → (i < bank * 512) ⊎ (bank * 512 ≤ i) → (i < bank * 512 + 512) ⊎ (bank * 512 + 512 ≤ i) → slice_index new i ≡ slice_index (erased_bank bank old) i
  same_at i (inl below) h = rw (kept.before i below, erased_below old bank fits i below) refl
  same_at i (inr above) (inl below) = rw (kept.inside i above below, erased_inside old bank fits i above below) (all_ones _ (are.each i))
  same_at i (inr above) (inr past) = rw (kept.after i past, erased_above old bank fits i past) refl

  pub erased_is : new ≡ erased_bank bank old
  erased_is = same_number_lists new (erased_bank bank old) (kept.count ∙ (let e = erased_length old bank fits in cc)) (λ i h. same_at i (cases_lt i (bank * 512)) (cases_lt i (bank * 512 + 512)))

-- what was written to the words of a vector stands in it
pub kept_in : (items slice new : List ℕ) (len bank keep : ℕ) → slice ≡ items → length slice ≡ len → KeptBank bank keep slice new
    → KeptBank bank keep items (take len (new ++ drop (length new) items))
kept_in items slice new len bank keep is size kept =
    subst (λ ws. KeptBank bank keep ws (take len (new ++ drop (length new) ws))) is
    (subst (λ ws. KeptBank bank keep slice ws) (sym whole) kept)
  where
    c : length new ≡ length slice
    c = kept.count

    whole : take len (new ++ drop (length new) slice) ≡ new
    whole = take_at new (drop (length new) slice) len (c ∙ size)
