-- When the banks shown stand for what the whole media stands for, so that a ring may lose its own memory.
use Rattle.std.specs.Prelude.{◌≡◌, ◌≢◌, ℕ, ◌<◌, true}
use Rattle.paygo_spec.specs.Rail.{is_railed, number_in}
use Rattle.paygo_spec.specs.Recovery.{JournalView, is_header}
use Rattle.bank_ring.specs.declared.pair.Pair.{Pair}
use Rattle.bank_ring.specs.View.{in_slot}

-- A bank is shown that is railed with a number greater than this one.
pub record IsAbove (headers : ℕ → ℕ) (pair : Pair) (number : ℕ) : Type 0 where
  pub slot : ℕ
  pub two : slot < 2
  pub railed_is : is_railed (headers (in_slot pair slot)) ≡ true
  pub above : number < number_in (headers (in_slot pair slot))

-- No header is damaged, no two have one number, and of each railed bank that isn't shown a newer one is shown.
pub record IsOrderly (banks : ℕ) (headers : ℕ → ℕ) (pair : Pair) : Type 0 where
  pub sound : (bank : ℕ) → bank < banks → is_header (headers bank) ≡ true
  pub alone : (a b : ℕ) → a < banks → b < banks → a ≢ b → is_railed (headers a) ≡ true → is_railed (headers b) ≡ true
      → number_in (headers a) ≢ number_in (headers b)
  pub hidden : (bank : ℕ) → bank < banks → bank ≢ pair.first → bank ≢ pair.second → is_railed (headers bank) ≡ true
      → IsAbove headers pair (number_in (headers bank))

-- The same device, at the same place of its history, whose bank in use is shown as bank 0.
abbrev pub in_first : JournalView → JournalView
in_first journal = record { bank = 0; at = journal.at; config = journal.config; summary = journal.summary }
