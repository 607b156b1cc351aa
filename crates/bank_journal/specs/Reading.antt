-- How a journal is read.
use Rattle.std.specs.Prelude.{◌≡◌, ℕ, ◌+◌, ◌*◌, ◌≤◌, ◌<◌, true, false, List, slice_index, Some, None, Result, Ok, Err}
use Rattle.paygo_spec.specs.Flash.{FlashView, Passed, Failed}
use Rattle.paygo_spec.specs.Rail.{is_railed, number_in}
use Rattle.paygo_spec.specs.Least.{least}
use Rattle.paygo_spec.specs.History.{Summary as SummaryOf}
use Rattle.paygo_spec.specs.Recovery.{number_at, is_damaged, summary_after, used}
use Rattle.bank_journal.specs.declared.journal.JournalFault.{JournalFault}
use Rattle.bank_journal.specs.declared.journal.JournalFault.TheVariants as fault
use Rattle.bank_journal.specs.declared.summary.Summary.{Summary}
use Rattle.bank_journal.specs.Summary.{summary_of}

-- How many calls of the flash reading makes that finds a damage or fails, where it would make n: at most so many that
-- succeed, or one of them fails.
abbrev pub FaultCalls : ℕ → JournalFault → FlashView → FlashView → Type 0
FaultCalls n (fault.Damaged place) old new = (calls : ℕ) × (calls ≤ n) × Passed calls old new
FaultCalls n fault.Flash old new = Failed n old new
FaultCalls n _ old new = ⊥

-- Reading makes n calls of the flash, fewer where a damage is found before, or one of them fails.
abbrev pub ReadCalls : {T : Type 0} → ℕ → Result T JournalFault → FlashView → FlashView → Type 0
ReadCalls n (Ok read) old new = Passed n old new
ReadCalls n (Err e) old new = FaultCalls n e old new

-- What is read of a word that holds a number: that number, or a damage at its place where it isn't railed.
abbrev pub NumberAs : ℕ → ℕ → Result ℕ JournalFault → Type 0
NumberAs word at (Ok number) = (is_railed word ≡ true) × (number_in word ≡ number)
NumberAs word at (Err (fault.Damaged place)) = (is_railed word ≡ false) × (place ≡ at)
NumberAs word at (Err fault.Flash) = Unit {0}
NumberAs word at (Err _) = ⊥

-- What is read of a head: its numbers, where no place is damaged, or else the first damaged place.
abbrev pub HeadAs : List ℕ → ℕ → Result (List ℕ) JournalFault → Type 0
HeadAs words bank (Ok numbers) =
    (least (is_damaged words bank) 12 ≡ None)
    × ((place : ℕ) → 1 ≤ place → place < 12 → number_at words bank place ≡ slice_index numbers place)
HeadAs words bank (Err (fault.Damaged at)) =
    (place : ℕ) × (at ≡ 512 * bank + place) × (least (is_damaged words bank) 12 ≡ Some place)
HeadAs words bank (Err fault.Flash) = Unit {0}
HeadAs words bank (Err _) = ⊥

-- What is made of the word of an entry: the summary after it, or a damage at its place.
abbrev pub TakenAs : Result SummaryOf ℕ → Result Summary JournalFault → Type 0
TakenAs after (Ok summary) = after ≡ Ok (summary_of summary)
TakenAs after (Err (fault.Damaged place)) = after ≡ Err place
TakenAs after (Err _) = ⊥

-- What is read of the entries of a bank that begins with the summary `start`: the summary after them and the place of
-- the next one, or else the first damaged word.
abbrev pub EntriesAs : List ℕ → ℕ → ℕ → SummaryOf → Result (Summary × ℕ) JournalFault → Type 0
EntriesAs words bank unit start (Ok read) =
    (summary_after words bank unit start 500 ≡ Ok (summary_of read.0)) × (12 + used words bank 500 ≡ read.1)
EntriesAs words bank unit start (Err (fault.Damaged place)) = summary_after words bank unit start 500 ≡ Err place
EntriesAs words bank unit start (Err fault.Flash) = Unit {0}
EntriesAs words bank unit start (Err _) = ⊥
