-- Words of a flash, after one of them or a bank was written.
use Rattle.std.proofs.Common.{ℕ, ◌+◌, ◌*◌, ◌^◌, ◌<◌, ◌≤◌, ◌⊎◌, inl, inr, List, ap, ◌∙◌, arith}
use Rattle.std.specs.Prelude.{bit_and, bit_or, slice_index, slice_set}
use Rattle.std.proofs.lemmas.Bool.{cases_lt}
use Rattle.std.proofs.lemmas.Grind.{common_steps}
use Rattle.std.proofs.lemmas.List.{length-set}
use Rattle.std.proofs.lemmas.Nat.{or_comm, and_or_self, or_lt}
use Rattle.paygo_spec.specs.Flash.{AreWords, HasOnesOf, KeptBank, TornErase}

-- what is programmed while these bits are kept has at least its own ones
pub kept_ones : (w keep : ℕ) → HasOnesOf w (bit_or w keep)
kept_ones w keep = ap (λ t. bit_and t w) (or_comm w keep) ∙ and_or_self w keep

pub words_set : (words : List ℕ) (at w : ℕ) → AreWords words → w < 2 ^ 64 → AreWords (slice_set words at w)
words_set words at w are small = record { count = length-set words at w ∙ are.count; each = λ i. small_at i }
  where
    small_at : (i : ℕ) → slice_index (slice_set words at w) i < 2 ^ 64
    small_at i = grind (arith, common_steps, are.each i)

module _ (old new : List ℕ) (bank keep : ℕ) (are : AreWords old) (two : bank < 2) (small : keep < 2 ^ 64) (kept : KeptBank bank keep old new) where
  new_small : (i : ℕ) → (i < bank * 512) ⊎ (bank * 512 ≤ i) → (i < bank * 512 + 512) ⊎ (bank * 512 + 512 ≤ i) → slice_index new i < 2 ^ 64
  new_small i (inl below) h = rw (kept.before i below) (are.each i)
  new_small i (inr above) (inl below) = rw (kept.inside i above below) (or_lt 64 _ _ (are.each i) small)
  new_small i (inr above) (inr past) = rw (kept.after i past) (are.each i)

  pub words_kept : AreWords new
  words_kept = record { count = kept.count ∙ are.count; each = λ i. new_small i (cases_lt i (bank * 512)) (cases_lt i (bank * 512 + 512)) }

  pub torn_bank : TornErase bank old new
  torn_bank = record { count = kept.count; inside = λ i above below. rw (kept.inside i above below) (kept_ones _ _); before = kept.before; after = kept.after }
