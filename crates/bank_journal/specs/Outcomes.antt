-- What the calls of a journal answer, and how many calls of the flash they make.
use Rattle.std.specs.Prelude.{◌≡◌, ℕ, ◌≤◌, List, Some, None, Result, Ok, Err}
use Rattle.paygo_spec.specs.Flash.{FlashView, Passed, Failed}
use Rattle.paygo_spec.specs.Layout.{Position, calls_of_entry}
use Rattle.paygo_spec.specs.Recovery.{JournalView, Recovered, Unmade, Damaged, Made, word_at, number_at, newest_bank}
use Rattle.bank_journal.specs.declared.journal.JournalFault.{JournalFault}
use Rattle.bank_journal.specs.declared.journal.JournalFault.TheVariants as fault

-- `load` answers what recovery finds, unless the flash failed.
abbrev pub LoadsAs : Recovered → Result JournalView JournalFault → Type 0
LoadsAs found (Ok journal) = found ≡ Made journal
LoadsAs found (Err fault.Unmade) = found ≡ Unmade
LoadsAs found (Err (fault.Damaged place)) = found ≡ Damaged place
LoadsAs found (Err fault.Flash) = Unit {0}
LoadsAs found (Err _) = ⊥

-- `load` makes 2 calls where no device was made, 513 where one was, and at most so many where it finds damage.
abbrev pub LoadCalls : Result JournalView JournalFault → FlashView → FlashView → Type 0
LoadCalls (Ok journal) old new = Passed 513 old new
LoadCalls (Err fault.Unmade) old new = Passed 2 old new
LoadCalls (Err (fault.Damaged place)) old new = (calls : ℕ) × (calls ≤ 513) × Passed calls old new
LoadCalls (Err fault.Flash) old new = Failed 513 old new
LoadCalls (Err _) old new = ⊥

-- `make` answers by the two headers, unless the flash failed: the place of the damage, or the number of the bank in use,
-- or that the device is made.
abbrev pub MakesAs : List ℕ → Result JournalView JournalFault → Type 0
MakesAs words (Ok journal) = newest_bank (word_at words 0 0) (word_at words 1 0) ≡ Ok None
MakesAs words (Err (fault.Damaged place)) = newest_bank (word_at words 0 0) (word_at words 1 0) ≡ Err place
MakesAs words (Err (fault.Made number)) =
    (bank : ℕ)
    × (newest_bank (word_at words 0 0) (word_at words 1 0) ≡ Ok (Some bank))
    × (number ≡ number_at words bank 0)
MakesAs words (Err fault.Flash) = Unit {0}
MakesAs words (Err _) = ⊥

-- `make` makes 15 calls where no device was made, and else looks at the headers alone and changes nothing.
abbrev pub MakeCalls : Result JournalView JournalFault → FlashView → FlashView → Type 0
MakeCalls (Ok journal) old new = Passed 15 old new
MakeCalls (Err fault.Flash) old new = Failed 15 old new
MakeCalls (Err (fault.Damaged place)) old new = Passed 2 old new × (new.words ≡ old.words)
MakeCalls (Err (fault.Made number)) old new = Passed 2 old new × (new.words ≡ old.words)
MakeCalls (Err _) old new = ⊥

-- `raise` makes 13 calls.
abbrev pub RaiseCalls : Result (Unit {0}) JournalFault → FlashView → FlashView → Type 0
RaiseCalls (Ok done) old new = Passed 13 old new
RaiseCalls (Err fault.Flash) old new = Failed 13 old new
RaiseCalls (Err fault.Worn) old new = Unit {0}
RaiseCalls (Err _) old new = ⊥

-- `append` makes one call where a place is free, and 14 where it goes to the other bank.
abbrev pub AppendCalls : Position → Result (Unit {0}) JournalFault → FlashView → FlashView → Type 0
AppendCalls at (Ok done) old new = Passed (calls_of_entry at) old new
AppendCalls at (Err fault.Flash) old new = Failed (calls_of_entry at) old new
AppendCalls at (Err fault.Worn) old new = Unit {0}
AppendCalls at (Err _) old new = ⊥
