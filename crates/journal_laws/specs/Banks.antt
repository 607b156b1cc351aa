-- The kept fact on the banks: what the words of a flash are like while a device lives on it, at every moment, also where
-- the power was cut.
use Rattle.std.specs.Prelude.{◌≡◌, ℕ, ◌+◌, ◌-◌, ◌^◌, ◌<◌, ◌≤◌, true, false, List, length, slice_index, Ok}
use Rattle.paygo_spec.specs.Flash.{AreWords, HasOnesOf, erased_word}
use Rattle.paygo_spec.specs.Rail.{railed, is_railed, number_in}
use Rattle.paygo_spec.specs.History.{Summary}
use Rattle.paygo_spec.specs.Clock.{unit_of}
use Rattle.paygo_spec.specs.Lawful.{IsSummary}
use Rattle.paygo_spec.specs.Machine.{IsConfig}
use Rattle.paygo_spec.specs.Layout.{head_number, last_bank}
use Rattle.paygo_spec.specs.Recovery.{JournalView, word_at, is_header, keeps_rule, summary_after, used}

-- The header of the bank that isn't in use: it has no damage, and where it is railed its number is smaller.
pub record IsBehind (word number : ℕ) : Type 0 where
  pub sound : is_header word ≡ true
  pub older : is_railed word ≡ true → number_in word < number

-- A header that isn't railed and has no damage: erased, or cut off.
pub record IsQuiet (word : ℕ) : Type 0 where
  pub sound : is_header word ≡ true
  pub unrailed : is_railed word ≡ false

-- Sixteen bytes.
pub record IsKeyBytes (key : List ℕ) : Type 0 where
  pub count : length key ≡ 16
  pub each : (i : ℕ) → slice_index key i < 2 ^ 8

-- Each number of a head keeps the rule of its place.
pub record KeepsRules (numbers : ℕ → ℕ) : Type 0 where
  pub each : (place : ℕ) → 1 ≤ place → place < 12 → keeps_rule numbers place ≡ true

-- A journal whose parts are in range.
pub record IsJournal (journal : JournalView) : Type 0 where
  pub bank : journal.bank < 2
  pub first : 1 ≤ journal.at.number
  pub last : journal.at.number ≤ last_bank
  pub behind_head : 12 ≤ journal.at.place
  pub within : journal.at.place ≤ 512
  pub key : IsKeyBytes journal.config.key
  pub config : IsConfig journal.config
  pub summary : IsSummary journal.summary

-- The words hold a journal. The bank in use has its number in its header, and in its head the configuration and a summary
-- `start`, each number in range. Behind it stand the entries, which lead from `start` to the summary of the journal, and
-- words that were torn. The other header counts for less.
pub record BanksHold (words : List ℕ) (journal : JournalView) : Type 0 where
  pub start : Summary
  pub whole : AreWords words
  pub ranges : IsJournal journal
  pub start_is : IsSummary start
  pub head : (place : ℕ) → place < 12
      → word_at words journal.bank place ≡ railed (head_number journal.at.number journal.config start place)
  pub other : IsBehind (word_at words (1 - journal.bank) 0) journal.at.number
  pub entries : summary_after words journal.bank (unit_of journal.config.divider) start 500 ≡ Ok journal.summary
  pub place : 12 + used words journal.bank 500 ≡ journal.at.place

-- The words hold no journal: both headers are erased or cut off.
pub record BanksHoldNone (words : List ℕ) : Type 0 where
  pub whole : AreWords words
  pub first : IsQuiet (word_at words 0 0)
  pub second : IsQuiet (word_at words 1 0)

-- What was done to a bank left the other one as it was, and each 1 bit of its own header.
pub record LeavesOther (bank : ℕ) (old new : List ℕ) : Type 0 where
  pub header : HasOnesOf (word_at old bank 0) (word_at new bank 0)
  pub other : (place : ℕ) → place < 512 → word_at new (1 - bank) place ≡ word_at old (1 - bank) place

-- A bank is being written: it is erased, but for the places of its head from 1 on and below `end`, where the numbers of a
-- head with this number, configuration and summary stand.
pub record IsBegun (words : List ℕ) (bank : ℕ) (head : ℕ → ℕ) (end : ℕ) : Type 0 where
  pub done : (place : ℕ) → 1 ≤ place → place < end → word_at words bank place ≡ railed (head place)
  pub header : word_at words bank 0 ≡ erased_word
  pub rest : (place : ℕ) → end ≤ place → place < 512 → word_at words bank place ≡ erased_word
