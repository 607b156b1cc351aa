-- A flash of two to sixteen banks. Each has 512 words of 64 bits; a word is programmed once, and a bank is erased
-- whole.
use Rattle.std.specs.Prelude.{◌≡◌, ℕ, ◌+◌, ◌-◌, ◌*◌, ◌^◌, ◌<◌, ◌≤◌, min, List, length, Bool, true, false, IfSome, slice_index, slice_set}
use Rattle.std.specs.Option.{option_map}
use Rattle.std.specs.declared.option.Option.{Option}
use Rattle.paygo_spec.specs.Faults.{Rose}

-- What is seen of a media: how many banks it has; its words, bank after bank, and how often each bank was erased, where
-- it tells them; whether it is up; and its count of faults.
pub record MediaView : Type 0 where
  pub banks : ℕ
  pub words : Option (List ℕ)
  pub erases : Option (List ℕ)
  pub up : Bool
  pub faults : ℕ

-- 512 words of 64 bits for each bank.
pub record AreMediaWords (banks : ℕ) (words : List ℕ) : Type 0 where
  pub count : length words ≡ 512 * banks
  pub each : (i : ℕ) → slice_index words i < 2 ^ 64

-- What always holds of a media.
pub record IsMedia (view : MediaView) : Type 0 where
  pub least : 2 ≤ view.banks
  pub most : view.banks ≤ 16
  pub words : IfSome view.words (AreMediaWords view.banks)
  pub erases : IfSome view.erases (λ counts. length counts ≡ view.banks)

-- Every word is erased.
abbrev pub AreErasedBanks : ℕ → List ℕ → Type 0
AreErasedBanks banks words = (i : ℕ) → i < 512 * banks → slice_index words i ≡ 2 ^ 64 - 1

-- No bank was ever erased.
abbrev pub AreUnworn : List ℕ → Type 0
AreUnworn counts = (bank : ℕ) → slice_index counts bank ≡ 0

-- The numbers of erases stay.
abbrev pub same_counts : List ℕ → List ℕ
same_counts counts = counts

-- This bank was erased once more. A number stands still at 2^64 - 1.
abbrev pub erased_once : ℕ → List ℕ → List ℕ
erased_once bank counts = slice_set counts bank (min (slice_index counts bank + 1) (2 ^ 64 - 1))

-- A live call succeeded, and changed words and numbers of erases like this.
pub record MediaPasses (change count : List ℕ → List ℕ) (old new : MediaView) : Type 0 where
  pub banks : new.banks ≡ old.banks
  pub words : new.words ≡ option_map change old.words
  pub erases : new.erases ≡ option_map count old.erases
  pub up : new.up ≡ true
  pub faults : new.faults ≡ old.faults

-- A live call failed, and this became of the words. No bank counts as erased.
pub record MediaFails (torn : Option (List ℕ) → Option (List ℕ) → Type 0) (old new : MediaView) : Type 0 where
  pub banks : new.banks ≡ old.banks
  pub words : torn old.words new.words
  pub erases : new.erases ≡ old.erases
  pub down : new.up ≡ false
  pub rose : Rose old.faults new.faults
