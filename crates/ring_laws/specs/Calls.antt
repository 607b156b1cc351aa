-- The calls that a journal makes of a ring, as steps on what the media holds and which banks are shown.
use Rattle.std.specs.Prelude.{◌≡◌, ◌≢◌, ℕ, zero, suc, ◌+◌, ◌-◌, ◌*◌, ◌%◌, ◌^◌, ◌<◌, ◌≤◌, ◌⊎◌, true, false, List, [], ◌∷◌, length, slice_index, slice_set, Some}
use Rattle.paygo_spec.specs.Flash.{TornErase, TornProgram, erased_bank, erased_word}
use Rattle.paygo_spec.specs.Layout.{last_bank}
use Rattle.paygo_spec.specs.Rail.{railed, is_railed, number_in}
use Rattle.bank_ring.specs.declared.pair.Pair.{Pair}
use Rattle.media_ports.specs.Media.{AreMediaWords, erased_once}
use Rattle.bank_ring.specs.View.{IsPair, header, media_place, newest_slot, goes_to, pair_of, pair_with}

-- What a media holds, how often its banks were erased, and the two banks that are shown.
pub record RingState : Type 0 where
  pub banks : ℕ
  pub words : List ℕ
  pub erases : List ℕ
  pub pair : Pair

pub record IsRing (state : RingState) : Type 0 where
  pub two : 2 ≤ state.banks
  pub words : AreMediaWords state.banks state.words
  pub erases : length state.erases ≡ state.banks
  pub pair : IsPair state.banks state.pair

-- A call that changes something: a shown bank is erased, or a word is programmed at a place from 0 to 1,023.
pub data RingCall : Type 0 where
  Erase : (slot : ℕ) → RingCall
  Program : (at word : ℕ) → RingCall

-- What a call makes of a ring.
abbrev pub after_call : RingCall → RingState → RingState
after_call (Erase slot) state =
    record {
      banks = state.banks;
      words = erased_bank (goes_to state.banks state.words state.pair slot) state.words;
      erases = erased_once (goes_to state.banks state.words state.pair slot) state.erases;
      pair = pair_with state.pair slot (goes_to state.banks state.words state.pair slot);
    }
after_call (Program at word) state =
    record { banks = state.banks; words = slice_set state.words (media_place state.pair at) word; erases = state.erases; pair = state.pair }

-- No bank counts as erased, and the same banks are shown.
pub record Stays (old new : RingState) : Type 0 where
  pub banks : new.banks ≡ old.banks
  pub erases : new.erases ≡ old.erases
  pub pair : new.pair ≡ old.pair
  pub words : AreMediaWords new.banks new.words

-- What is left where the call is cut.
abbrev pub IsCut : RingCall → RingState → RingState → Type 0
IsCut (Erase slot) old new = Stays old new × TornErase (goes_to old.banks old.words old.pair slot) old.words new.words
IsCut (Program at word) old new = Stays old new × TornProgram (media_place old.pair at) word old.words new.words

-- The word of a header may be programmed: the number of a bank, greater than every one that stands.
pub record MayHead (state : RingState) (word : ℕ) : Type 0 where
  pub number : ℕ
  pub railed_is : word ≡ railed number
  pub first : 1 ≤ number
  pub last : number ≤ last_bank
  pub greatest : (bank : ℕ) → bank < state.banks → is_railed (header state.words bank) ≡ true
      → number_in (header state.words bank) < number

-- The calls that keep a media orderly: the newest bank that is shown isn't erased; a word is programmed at an erased
-- place, and a header's with a number that is greater than all others.
abbrev pub MayCall : RingCall → RingState → Type 0
MayCall (Erase slot) state =
    (slot < 2) × (newest_slot (header state.words state.pair.first) (header state.words state.pair.second) ≢ Some slot)
MayCall (Program at word) state =
    (at < 1024) × (word < 2 ^ 64) × (slice_index state.words (media_place state.pair at) ≡ erased_word)
    × ((at % 512 ≢ 0) ⊎ MayHead state word)

-- Each of these calls may be made where it is made.
abbrev pub MayRun : List RingCall → RingState → Type 0
MayRun [] state = Unit {0}
MayRun (call ∷ calls) state = MayCall call state × MayRun calls (after_call call state)

-- The calls were made, or one of them was cut: every place of a fault.
abbrev pub RunsOrCut : List RingCall → RingState → RingState → Type 0
RunsOrCut [] old new = new ≡ old
RunsOrCut (call ∷ calls) old new = IsCut call old new ⊎ RunsOrCut calls (after_call call old) new

-- The ring after these calls.
abbrev pub after_calls : List RingCall → RingState → RingState
after_calls [] state = state
after_calls (call ∷ calls) state = after_calls calls (after_call call state)

-- Programs n places of a shown bank, one after the other, with the numbers of a head, and then makes the other calls.
unfoldable pub head_calls : ℕ → (ℕ → ℕ) → ℕ → ℕ → List RingCall → List RingCall
head_calls slot head place zero rest = rest
head_calls slot head place (suc n) rest =
    Program (slot * 512 + place) (railed (head place)) ∷ head_calls slot head (place + 1) n rest

-- The 13 calls by which a bank is begun: the shown bank is erased, its head is programmed from place 1 on, and its
-- header last.
abbrev pub turn_calls : ℕ → (ℕ → ℕ) → ℕ → List RingCall
turn_calls slot head number = Erase slot ∷ head_calls slot head 1 11 (Program (slot * 512) (railed number) ∷ [])

-- A bank may be begun in this slot with this number: it isn't the newest, and the number is greater than all that
-- stand.
pub record MayTurn (state : RingState) (slot : ℕ) (head : ℕ → ℕ) (number : ℕ) : Type 0 where
  pub two : slot < 2
  pub newest : newest_slot (header state.words state.pair.first) (header state.words state.pair.second) ≢ Some slot
  pub first : 1 ≤ number
  pub last : number ≤ last_bank
  pub greatest : (bank : ℕ) → bank < state.banks → is_railed (header state.words bank) ≡ true
      → number_in (header state.words bank) < number
  pub fits : (place : ℕ) → head place < 2 ^ 32

-- A bank is begun in the place of the one shown that isn't the newest: a full bank is left, or the device is raised.
pub record IsTurn (old new : RingState) : Type 0 where
  pub slot : ℕ
  pub head : ℕ → ℕ
  pub number : ℕ
  pub may : MayTurn old slot head number
  pub newest : newest_slot (header old.words old.pair.first) (header old.words old.pair.second) ≡ Some (1 - slot)
  pub new_is : new ≡ after_calls (turn_calls slot head number) old

-- An entry is programmed, behind the headers.
pub record IsEntry (old new : RingState) : Type 0 where
  pub at : ℕ
  pub word : ℕ
  pub may : MayCall (Program at word) old
  pub behind : at % 512 ≢ 0
  pub new_is : new ≡ after_call (Program at word) old

-- A device is made: no header is railed, banks 0 and 1 are shown, and bank 0 is begun with the number 1.
pub record IsMake (old new : RingState) : Type 0 where
  pub head : ℕ → ℕ
  pub fits : (place : ℕ) → head place < 2 ^ 32
  pub blank : (bank : ℕ) → bank < old.banks → is_railed (header old.words bank) ≡ false
  pub pair : old.pair ≡ pair_of 0 1
  pub new_is : new ≡ after_calls (turn_calls 0 head 1) old

-- Entries and turns of the bank, in any number and order, of which none failed.
pub data Lives : RingState → RingState → Type 0 where
  Stands : (state : RingState) → Lives state state
  Turns : (old mid new : RingState) → Lives old mid → IsTurn mid new → Lives old new
  Enters : (old mid new : RingState) → Lives old mid → IsEntry mid new → Lives old new

-- Any two banks' numbers of erases differ by at most one.
abbrev pub WearsEvenly : RingState → Type 0
WearsEvenly state =
    (a b : ℕ) → a < state.banks → b < state.banks → slice_index state.erases a ≤ slice_index state.erases b + 1
