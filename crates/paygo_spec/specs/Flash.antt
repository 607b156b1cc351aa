-- The flash: 1,024 words of 64 bits in two banks of 512 words. A word is programmed once, and a bank is erased whole.
use Rattle.std.specs.Prelude.{◌≡◌, ℕ, ◌+◌, ◌-◌, ◌*◌, ◌^◌, ◌<◌, ◌≤◌, List, length, take, drop, map, ◌++◌, ◌⊎◌, Bool, true, false, None, Some, bit_and, bit_or, slice_index, slice_set}
use Rattle.std.specs.Option.{option_map}
use Rattle.std.specs.declared.option.Option.{Option}
use Rattle.paygo_spec.specs.Faults.{Rose}

-- What is seen of a flash: its words where it tells them, whether it is up, its due where it tells one (None, or
-- the number of further calls that succeed), and its count of faults.
pub record FlashView : Type 0 where
  pub words : Option (List ℕ)
  pub up : Bool
  pub due : Option (Option ℕ)
  pub faults : ℕ

-- An erased word: all 64 bits are 1.
abbrev pub erased_word : ℕ
erased_word = 2 ^ 64 - 1

-- 1,024 words of 64 bits.
pub record AreWords (words : List ℕ) : Type 0 where
  pub count : length words ≡ 1024
  pub each : (i : ℕ) → slice_index words i < 2 ^ 64

-- t has every 1 bit of w: what may become of w when the power is cut.
abbrev pub HasOnesOf : ℕ → ℕ → Type 0
HasOnesOf w t = bit_and t w ≡ w

-- The words stay.
abbrev pub same_words : List ℕ → List ℕ
same_words words = words

-- The words with this bank erased.
abbrev pub erased_bank : ℕ → List ℕ → List ℕ
erased_bank bank words =
    take (bank * 512) words ++ map (λ _. erased_word) (take 512 (drop (bank * 512) words))
    ++ drop (bank * 512 + 512) words

-- The due after n live calls that succeeded: a number falls by n, None stays. What isn't told isn't told later.
abbrev pub DueAfter : ℕ → Option (Option ℕ) → Option (Option ℕ) → Type 0
DueAfter n None new = new ≡ None
DueAfter n (Some None) new = new ≡ Some None
DueAfter n (Some (Some due)) new = (n ≤ due) × (new ≡ Some (Some (due - n)))

-- The due after one of n live calls failed: it was below n, and is None.
abbrev pub DueWithin : ℕ → Option (Option ℕ) → Option (Option ℕ) → Type 0
DueWithin n None new = new ≡ None
DueWithin n (Some None) new = ⊥
DueWithin n (Some (Some due)) new = (due < n) × (new ≡ Some None)

-- n live calls succeeded.
pub record Passed (n : ℕ) (old new : FlashView) : Type 0 where
  pub up : new.up ≡ true
  pub due : DueAfter n old.due new.due
  pub faults : new.faults ≡ old.faults

-- One of n live calls failed, and those before it succeeded.
pub record Failed (n : ℕ) (old new : FlashView) : Type 0 where
  pub down : new.up ≡ false
  pub due : DueWithin n old.due new.due
  pub rose : Rose old.faults new.faults

-- A live call succeeded, and changed the words like this.
pub record Passes (change : List ℕ → List ℕ) (old new : FlashView) : Type 0 where
  pub words : new.words ≡ option_map change old.words
  pub call : Passed 1 old new

-- A failure that was planned is still to come, after at most so many calls, and no fault was counted.
pub record IsAhead (due : ℕ) (old new : FlashView) : Type 0 where
  pub left : ℕ
  pub most : left ≤ due
  pub due_is : new.due ≡ Some (Some left)
  pub faults_are : new.faults ≡ old.faults

-- A failure that was planned came, and none is planned any more.
pub record HasCome (old new : FlashView) : Type 0 where
  pub due_is : new.due ≡ Some None
  pub rose : Rose old.faults new.faults

-- Over some calls of a flash that told this due: nothing failed where nothing was planned to, and what was planned came once
-- or is still to come. Of a flash that tells no due no more is said than that its count didn't fall.
abbrev pub PlanFrom : Option (Option ℕ) → FlashView → FlashView → Type 0
PlanFrom None old new = (new.due ≡ None) × (old.faults ≤ new.faults)
PlanFrom (Some None) old new = (new.due ≡ Some None) × (new.faults ≡ old.faults)
PlanFrom (Some (Some due)) old new = IsAhead due old new ⊎ HasCome old new

-- The failures of these calls are those that were planned.
abbrev pub KeepsPlan : FlashView → FlashView → Type 0
KeepsPlan old new = PlanFrom old.due old new

-- What is told, and what may have become of it. What doesn't tell never begins to tell.
abbrev pub Becomes : (List ℕ → List ℕ → Type 0) → Option (List ℕ) → Option (List ℕ) → Type 0
Becomes torn None None = Unit {0}
Becomes torn None (Some new) = ⊥
Becomes torn (Some old) None = ⊥
Becomes torn (Some old) (Some new) = torn old new

-- A live call failed, and this became of the words.
pub record Fails (torn : Option (List ℕ) → Option (List ℕ) → Type 0) (old new : FlashView) : Type 0 where
  pub words : torn old.words new.words
  pub call : Failed 1 old new

-- Nothing became of the words.
abbrev pub Stay : Option (List ℕ) → Option (List ℕ) → Type 0
Stay old new = new ≡ old

-- Some word with at least the 1 bits of w stands at this place, and all else is as it was.
abbrev pub TornProgram : ℕ → ℕ → List ℕ → List ℕ → Type 0
TornProgram at w old new = (t : ℕ) × (t < 2 ^ 64) × HasOnesOf w t × (new ≡ slice_set old at t)

-- Each word of the bank has at least its old 1 bits, and all else is as it was.
pub record TornErase (bank : ℕ) (old new : List ℕ) : Type 0 where
  pub count : length new ≡ length old
  pub inside : (i : ℕ) → bank * 512 ≤ i → i < bank * 512 + 512 → HasOnesOf (slice_index old i) (slice_index new i)
  pub before : (i : ℕ) → i < bank * 512 → slice_index new i ≡ slice_index old i
  pub after : (i : ℕ) → bank * 512 + 512 ≤ i → slice_index new i ≡ slice_index old i

-- Each word of the bank has these bits set, and all else is as it was.
pub record KeptBank (bank keep : ℕ) (old new : List ℕ) : Type 0 where
  pub count : length new ≡ length old
  pub inside : (i : ℕ) → bank * 512 ≤ i → i < bank * 512 + 512 → slice_index new i ≡ bit_or (slice_index old i) keep
  pub before : (i : ℕ) → i < bank * 512 → slice_index new i ≡ slice_index old i
  pub after : (i : ℕ) → bank * 512 + 512 ≤ i → slice_index new i ≡ slice_index old i

-- Every word is erased.
pub record AreErased (words : List ℕ) : Type 0 where
  pub count : length words ≡ 1024
  pub each : (i : ℕ) → i < 1024 → slice_index words i ≡ erased_word
