-- How a bank is begun, and what that leaves of the flash wherever the power is cut.
use Rattle.std.specs.Prelude.{◌≡◌, ℕ, List, Result, Ok, Err}
use Rattle.paygo_spec.specs.Flash.{Passed, Failed, FlashView}
use Rattle.journal_laws.specs.Banks.{IsBegun, LeavesOther}
use Rattle.bank_journal.specs.declared.journal.JournalFault.{JournalFault}
use Rattle.bank_journal.specs.declared.journal.JournalFault.TheVariants as fault

-- n calls of the flash succeeded, or one of n calls failed and the answer is `Flash`.
abbrev pub CallsBy : {T : Type 0} → ℕ → Result T JournalFault → FlashView → FlashView → Type 0
CallsBy n (Ok done) old new = Passed n old new
CallsBy n (Err answer) old new = (answer ≡ fault.Flash) × Failed n old new

-- The bank is begun up to a place of its head, with these numbers, and nothing else changed.
abbrev pub BeginsBank : ℕ → (ℕ → ℕ) → ℕ → List ℕ → List ℕ → Type 0
BeginsBank bank head end old new = LeavesOther bank old new × IsBegun new bank head end
