-- Recovery: what 1,024 words of a flash stand for. The decision looks at the words in the order of the steps below, and
-- its first finding is the answer. Whatever the words are, it has one.
use Rattle.std.specs.Prelude.{ℕ, zero, suc, ◌+◌, ◌*◌, ◌/◌, ◌%◌, ◌^◌, Bool, true, not, ◌&&◌, ◌||◌, ◌==◌, nat_lt, nat_le, List, ◌++◌, slice_index, Option, Some, None, is_some, Result, Ok, Err, ok_or, if◌then◌else◌}
use Rattle.std.specs.Int.{w32, to_be_bytes}
use Rattle.paygo_spec.specs.declared.Config.{Config}
use Rattle.paygo_spec.specs.declared.Form.TheVariants.{Nine, Fifteen}
use Rattle.paygo_spec.specs.Flash.{erased_word}
use Rattle.paygo_spec.specs.Rail.{is_railed, is_paired, number_in}
use Rattle.paygo_spec.specs.Digits.{form_of}
use Rattle.paygo_spec.specs.Least.{least}
use Rattle.paygo_spec.specs.History.{Summary, first_limit, raised_limit}
use Rattle.paygo_spec.specs.Window.{is_window}
use Rattle.paygo_spec.specs.Clock.{most_left, longest_block, unit_of}
use Rattle.paygo_spec.specs.EntryNumber.{after_number}
use Rattle.paygo_spec.specs.Clock.{divides_day}
use Rattle.paygo_spec.specs.Layout.{Position, last_bank}

-- What is known of a device by its flash: the bank in use, the position of the next entry, the configuration, and the
-- summary of the history.
pub record JournalView : Type 0 where
  pub bank : ℕ
  pub at : Position
  pub config : Config
  pub summary : Summary

-- What the words of a flash stand for: no device was made on it; it is damaged, and this word, from 0 to 1,023, shows it;
-- or a device was made.
pub data Recovered : Type 0 where
  Unmade : Recovered
  Damaged : (word : ℕ) → Recovered
  Made : (journal : JournalView) → Recovered

-- The word at a place of a bank.
abbrev pub word_at : List ℕ → ℕ → ℕ → ℕ
word_at words bank place = slice_index words (512 * bank + place)

-- The number at a place of a bank.
abbrev pub number_at : List ℕ → ℕ → ℕ → ℕ
number_at words bank place = number_in (word_at words bank place)

-- A header, the first word of a bank, without damage: paired, as every word is that was erased, written or cut off, and
-- with a bank's number where it is railed.
abbrev pub is_header : ℕ → Bool
is_header word =
    is_paired word && (not (is_railed word) || (nat_le 1 (number_in word) && nat_le (number_in word) last_bank))

-- The first four steps: the two headers say which bank is in use, that no device was made, or that a header is damaged.
-- Two banks of one number are damage of the second.
abbrev pub newest_bank : ℕ → ℕ → Result (Option ℕ) ℕ
newest_bank first second =
    if not (is_header first) then Err 0
    else if not (is_header second) then Err 512
    else if is_railed first && is_railed second && number_in first == number_in second then Err 512
    else if is_railed first && (not (is_railed second) || nat_lt (number_in second) (number_in first)) then Ok (Some 0)
    else if is_railed second then Ok (Some 1)
    else Ok None

-- The number at place 6 is format 1 or 2, a form, and a divider of a day's seconds.
abbrev pub is_format : ℕ → Bool
is_format x =
    (x / 2 ^ 16 == 2 ^ 8 || x / 2 ^ 16 == 2 * 2 ^ 8) && is_some (form_of (x / 2 ^ 8 % 2 ^ 8)) && divides_day (x % 2 ^ 8)

-- The number at place 10 has no bit above bit 8, at most ten failures, and, where bit 8 says that the device is free, no
-- time left at the places before it.
abbrev pub is_state : ℕ → ℕ → Bool
is_state left x = nat_lt x (2 ^ 9) && nat_le (x % 2 ^ 8) 10 && (nat_lt x (2 ^ 8) || left == 0)

-- The time left that the numbers of a head say.
abbrev pub left_in : (ℕ → ℕ) → ℕ
left_in numbers = numbers 8 * 2 ^ 32 + numbers 9

-- The greatest count that it says by its format.
abbrev pub limit_in : ℕ → ℕ
limit_in x = if x / 2 ^ 24 == 2 then raised_limit else first_limit

-- The number at a place of the head keeps the rule of that place. A rule on several places is tested at the last one.
abbrev pub keeps_rule : (ℕ → ℕ) → ℕ → Bool
keeps_rule numbers place =
    if place == 5 then nat_lt (numbers 5) (10 ^ 9)
    else if place == 6 then is_format (numbers 6)
    else if place == 7 then is_window (limit_in (numbers 6)) (numbers 7 / 2 ^ 16) (numbers 7 % 2 ^ 16)
    else if place == 9 then nat_le (left_in numbers) most_left
    else if place == 10 then is_state (left_in numbers) (numbers 10)
    else if place == 11 then nat_le (numbers 11) (longest_block (numbers 10 % 2 ^ 8))
    else true

-- The configuration that the numbers of a head say.
abbrev pub config_in_head : (ℕ → ℕ) → Config
config_in_head numbers =
    record {
      key =
          to_be_bytes w32 (numbers 1)
          ++ (to_be_bytes w32 (numbers 2) ++ (to_be_bytes w32 (numbers 3) ++ to_be_bytes w32 (numbers 4)));
      start = numbers 5;
      divider = numbers 6 % 2 ^ 8;
      form = if numbers 6 / 2 ^ 8 % 2 ^ 8 == 15 then Fifteen else Nine;
    }

-- The summary that they say.
abbrev pub summary_in_head : (ℕ → ℕ) → Summary
summary_in_head numbers =
    record {
      limit = limit_in (numbers 6);
      last = numbers 7 / 2 ^ 16;
      bits = numbers 7 % 2 ^ 16;
      left = left_in numbers;
      free = nat_le (2 ^ 8) (numbers 10);
      fails = numbers 10 % 2 ^ 8;
      block = numbers 11;
    }

-- A place of the head, from 1 on, is damaged: its word isn't railed, or its number breaks the rule.
abbrev pub is_damaged : List ℕ → ℕ → ℕ → Bool
is_damaged words bank place =
    nat_lt 0 place && not (is_railed (word_at words bank place) && keeps_rule (number_at words bank) place)

-- What the word of an entry makes of the summary so far. A word that isn't railed, erased or torn, is passed over. A railed
-- one that is no entry, or none that may follow, is damage.
abbrev pub after_word : ℕ → ℕ → ℕ → Result Summary ℕ → Result Summary ℕ
after_word unit at word (Err damaged) = Err damaged
after_word unit at word (Ok summary) =
    if is_railed word then ok_or (after_number unit summary (number_in word)) at else Ok summary

-- The summary after the first n words of a bank that are entries, or the first of them that is damaged.
unfoldable pub summary_after : List ℕ → ℕ → ℕ → Summary → ℕ → Result Summary ℕ
summary_after words bank unit start zero = Ok start
summary_after words bank unit start (suc n) =
    after_word unit (512 * bank + (12 + n)) (word_at words bank (12 + n)) (summary_after words bank unit start n)

-- How many of the first n words for entries are used: up to the last one that isn't erased.
unfoldable pub used : List ℕ → ℕ → ℕ → ℕ
used words bank zero = 0
used words bank (suc n) = if word_at words bank (12 + n) == erased_word then used words bank n else suc n

-- The last steps: what the entries say, and that the next one goes behind the last word that isn't erased.
abbrev pub by_entries : List ℕ → ℕ → Result Summary ℕ → Recovered
by_entries words bank (Err damaged) = Damaged damaged
by_entries words bank (Ok summary) =
    Made (record {
      bank = bank;
      at = record { number = number_at words bank 0; place = 12 + used words bank 500 };
      config = config_in_head (number_at words bank);
      summary = summary;
    })

-- The step before them: the first damaged place of the head, or else its configuration and summary.
abbrev pub by_head : List ℕ → ℕ → Option ℕ → Recovered
by_head words bank (Some place) = Damaged (512 * bank + place)
by_head words bank None =
    let numbers = number_at words bank in
    by_entries words bank (summary_after words bank (unit_of (numbers 6 % 2 ^ 8)) (summary_in_head numbers) 500)

-- What a bank stands for.
abbrev pub by_bank : List ℕ → ℕ → Recovered
by_bank words bank = by_head words bank (least (is_damaged words bank) 12)

-- What the words stand for, by what their headers say.
abbrev pub by_headers : List ℕ → Result (Option ℕ) ℕ → Recovered
by_headers words (Err damaged) = Damaged damaged
by_headers words (Ok None) = Unmade
by_headers words (Ok (Some bank)) = by_bank words bank

-- What the words of a flash stand for.
unfoldable pub recover : List ℕ → Recovered
recover words = by_headers words (newest_bank (word_at words 0 0) (word_at words 1 0))
