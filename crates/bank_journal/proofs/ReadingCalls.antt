-- How calls of the flash add up where reading ends early.
use Rattle.std.proofs.Common.{ℕ, ◌+◌, ◌≤◌, arith, refl}
use Rattle.paygo_spec.specs.Flash.{FlashView, Passed}
use Rattle.bank_journal.specs.declared.journal.JournalFault.{JournalFault}
use Rattle.bank_journal.specs.declared.journal.JournalFault.TheVariants as fault
use Rattle.bank_journal.specs.Reading.{FaultCalls}
use Rattle.bank_journal.proofs.Calls.{passed_more, passed_failed}

-- m calls, and then fewer than n or one that fails
pub read_failed : (m n k : ℕ) (e : JournalFault) (old mid new : FlashView) → m + n ≤ k → Passed m old mid → FaultCalls n e mid new → FaultCalls k e old new
read_failed m n k fault.Flash old mid new l first h = passed_failed m n k old mid new l first h
read_failed m n k fault.Unmade old mid new l first h = h
read_failed m n k (fault.Made number) old mid new l first h = h
read_failed m n k (fault.Damaged place) old mid new l first h =
    (m + h.0, (let b = h.1 in omega arith), passed_more m h.0 (m + h.0) old mid new refl first h.2)
read_failed m n k fault.Worn old mid new l first h = h
