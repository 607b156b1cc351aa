-- Which two banks of a media a ring shows, and which bank an erase goes to.
use Rattle.std.specs.Prelude.{◌≡◌, ◌≢◌, ℕ, ◌+◌, ◌-◌, ◌*◌, ◌/◌, ◌%◌, ◌<◌, Bool, not, ◌&&◌, ◌||◌, ◌==◌, nat_lt, nat_le, List, take, drop, ◌++◌, slice_index, Some, None, is_some, unwrap_or, IfSome, if◌then◌else◌}
use Rattle.std.specs.Option.{option_map}
use Rattle.std.specs.declared.option.Option.{Option}
use Rattle.paygo_spec.specs.Flash.{FlashView, erased_bank}
use Rattle.paygo_spec.specs.Least.{least}
use Rattle.paygo_spec.specs.Rail.{is_railed, number_in}
use Rattle.paygo_spec.specs.Recovery.{is_header}
use Rattle.bank_ring.specs.declared.pair.Pair.{Pair}
use Rattle.media_ports.specs.Media.{MediaView, MediaPasses, erased_once}

-- The 512 words of a bank.
abbrev pub bank_words : List ℕ → ℕ → List ℕ
bank_words words bank = take 512 (drop (bank * 512) words)

-- The header of a bank: its first word.
abbrev pub header : List ℕ → ℕ → ℕ
header words bank = slice_index words (bank * 512)

-- The banks go round in a ring.
abbrev pub next_bank : ℕ → ℕ → ℕ
next_bank banks bank = if bank + 1 == banks then 0 else bank + 1

abbrev pub previous_bank : ℕ → ℕ → ℕ
previous_bank banks bank = if bank == 0 then banks - 1 else bank - 1

-- A header that no cut leaves: it isn't paired, or is railed and no bank's number.
abbrev pub is_bad : (ℕ → ℕ) → ℕ → Bool
is_bad headers bank = not (is_header (headers bank))

-- Another bank has the same railed number.
abbrev pub is_twin : (ℕ → ℕ) → ℕ → ℕ → Bool
is_twin headers bank other =
    not (bank == other) && (is_railed (headers bank) && (is_railed (headers other) &&
    (number_in (headers bank) == number_in (headers other))))

abbrev pub has_twin : (ℕ → ℕ) → ℕ → ℕ → Bool
has_twin headers banks bank = is_some (least (is_twin headers bank) banks)

-- A bank whose number is greater.
abbrev pub is_passed : (ℕ → ℕ) → ℕ → ℕ → Bool
is_passed headers bank other = is_railed (headers other) && nat_lt (number_in (headers bank)) (number_in (headers other))

-- The newest bank: it is railed, and no number is greater.
abbrev pub is_newest : (ℕ → ℕ) → ℕ → ℕ → Bool
is_newest headers banks bank = is_railed (headers bank) && not (is_some (least (is_passed headers bank) banks))

-- Two banks, the first shown as bank 0, the second as bank 1.
abbrev pub pair_of : ℕ → ℕ → Pair
pair_of first second = record { first = first; second = second }

-- The third and fourth case: no header is railed, and banks 0 and 1 are shown; or the newest bank and the one before
-- it.
abbrev pub by_newest : ℕ → Option ℕ → Pair
by_newest banks None = pair_of 0 1
by_newest banks (Some bank) = pair_of bank (previous_bank banks bank)

-- The second case: two headers have one number. The lowest bank that has such a twin is shown, and its lowest twin.
abbrev pub by_twins : (ℕ → ℕ) → ℕ → Option ℕ → Pair
by_twins headers banks None = by_newest banks (least (is_newest headers banks) banks)
by_twins headers banks (Some bank) = pair_of bank (unwrap_or (least (is_twin headers bank) banks) (next_bank banks bank))

-- The first case: a header is damaged. The first such bank is shown, and the next one.
abbrev pub by_bad : (ℕ → ℕ) → ℕ → Option ℕ → Pair
by_bad headers banks None = by_twins headers banks (least (has_twin headers banks) banks)
by_bad headers banks (Some bank) = pair_of bank (next_bank banks bank)

-- The two banks that a ring shows when it starts.
unfoldable pub start_pair : (ℕ → ℕ) → ℕ → Pair
start_pair headers banks = by_bad headers banks (least (is_bad headers) banks)

-- Two banks of so many, and not one twice.
pub record IsPair (banks : ℕ) (pair : Pair) : Type 0 where
  pub first : pair.first < banks
  pub second : pair.second < banks
  pub differ : pair.first ≢ pair.second

-- The bank that is shown as bank 0 or as bank 1.
abbrev pub in_slot : Pair → ℕ → ℕ
in_slot pair slot = if slot == 0 then pair.first else pair.second

-- The words shown.
abbrev pub shown_words : List ℕ → Pair → List ℕ
shown_words words pair = bank_words words pair.first ++ bank_words words pair.second

-- The place among the words of the media that is shown at a place from 0 to 1,023.
abbrev pub media_place : Pair → ℕ → ℕ
media_place pair at = in_slot pair (at / 512) * 512 + at % 512

-- The newest of the two banks shown, as bank 0 or 1, by their headers.
abbrev pub newest_slot : ℕ → ℕ → Option ℕ
newest_slot first second =
    if is_railed first && (not (is_railed second) || nat_le (number_in second) (number_in first)) then Some 0
    else if is_railed second then Some 1
    else None

-- The bank to which the erase of a shown bank goes: itself, where it is the newest or there is none; else the bank
-- after the newest.
abbrev pub erased_by : ℕ → Pair → ℕ → Option ℕ → ℕ
erased_by banks pair slot None = in_slot pair slot
erased_by banks pair slot (Some newest) =
    if newest == slot then in_slot pair slot else next_bank banks (in_slot pair newest)

-- The bank of the media that an erase of a shown bank erases.
abbrev pub goes_to : ℕ → List ℕ → Pair → ℕ → ℕ
goes_to banks words pair slot =
    erased_by banks pair slot (newest_slot (header words pair.first) (header words pair.second))

-- This bank is shown in the place of bank 0 or 1.
abbrev pub pair_with : Pair → ℕ → ℕ → Pair
pair_with pair slot bank = if slot == 0 then pair_of bank pair.second else pair_of pair.first bank

-- The banks that a ring shows: those that it keeps, or those that it would start with.
abbrev pub pair_in : ℕ → List ℕ → Option Pair → Pair
pair_in banks words None = start_pair (header words) banks
pair_in banks words (Some pair) = pair

-- What is seen of a ring as a flash.
abbrev pub flash_view : MediaView → Option Pair → FlashView
flash_view media kept =
    record {
      words = option_map (λ words. shown_words words (pair_in media.banks words kept)) media.words;
      up = is_some kept && media.up;
      due = None;
      faults = media.faults;
    }

-- An erase of a shown bank succeeded: which bank of the media was erased, once, and which banks are shown now.
pub record Turned (slot : ℕ) (pair : Pair) (old new : MediaView) (now : Option Pair) : Type 0 where
  pub bank : ℕ
  pub within : bank < old.banks
  pub other : bank ≢ in_slot pair (1 - slot)
  pub says : IfSome old.words (λ words. bank ≡ goes_to old.banks words pair slot)
  pub erased : MediaPasses (erased_bank bank) (erased_once bank) old new
  pub shown : now ≡ Some (pair_with pair slot bank)

-- An erase of a shown bank failed: the same banks are shown, and no bank counts as erased.
pub record NotTurned (pair : Pair) (old new : MediaView) (now : Option Pair) : Type 0 where
  pub erases : new.erases ≡ old.erases
  pub shown : now ≡ Some pair
