-- A bank is begun: it is erased, its head is written from place 1 on, and its header last. So a bank is begun on a flash
-- of a new device, and where the bank in use is full.
use Rattle.std.proofs.Common.{◌≡◌, ◌≢◌, ℕ, ◌+◌, ◌-◌, ◌*◌, ◌^◌, ◌<◌, ◌≤◌, List, arith, sym, ◌∙◌, ap, subst, ⊎_elim, get_or-set_other, get_or-set_same}
use Rattle.std.specs.Prelude.{slice_index, slice_set}
use Rattle.std.proofs.lemmas.Bool.{cases_lt, cases_eq}
use Rattle.paygo_spec.specs.declared.Config.{Config}
use Rattle.paygo_spec.specs.Flash.{AreWords, erased_word, erased_bank}
use Rattle.paygo_spec.specs.Rail.{railed}
use Rattle.paygo_spec.specs.History.{Summary}
use Rattle.paygo_spec.specs.Clock.{unit_of}
use Rattle.paygo_spec.specs.Layout.{head_number}
use Rattle.paygo_spec.specs.Recovery.{JournalView, word_at}
use Rattle.journal_laws.specs.Banks.{BanksHold, IsBegun, IsBehind, IsJournal}
use Rattle.journal_laws.proofs.Words.{words_set, railed_fits, erased_in}
use Rattle.journal_laws.proofs.Entries.{summary_none, used_none}
use Rattle.journal_laws.proofs.Erased.{summary_tail, used_tail}

-- The journal of a bank that was begun with this number, configuration and summary.
abbrev pub begun_journal : ℕ → ℕ → Config → Summary → JournalView
begun_journal bank number config summary = record { bank = bank; at = record { number = number; place = 12 }; config = config; summary = summary }

-- the bank was erased
pub begun_erased : (ws : List ℕ) (bank : ℕ) (head : ℕ → ℕ) → AreWords ws → bank < 2 → IsBegun (erased_bank bank ws) bank head 1
begun_erased ws bank head are two = record {
  done = λ p low high. absurd (omega arith);
  header = erased_in ws bank are two 0 (omega arith);
  rest = λ p low high. erased_in ws bank are two p high;
}

-- another word than the one that was written
pub other_word : (ws : List ℕ) (at t b p : ℕ) → 512 * b + p ≢ at → word_at (slice_set ws at t) b p ≡ word_at ws b p
other_word ws at t b p ne = get_or-set_other ws at (512 * b + p) t 0 ne

-- one place more of its head was written
pub begun_more : (ws : List ℕ) (bank : ℕ) (head : ℕ → ℕ) (k at t : ℕ) → at ≡ 512 * bank + k → AreWords ws → bank < 2 → 1 ≤ k → k < 512 → t ≡ railed (head k)
    → IsBegun ws bank head k → IsBegun (slice_set ws at t) bank head (k + 1)
begun_more ws bank head k at t is are two low few e b =
    record {
      done = λ p l h. ⊎_elim
          (λ (d : p < k). other_word ws at t bank p (λ q. omega arith) ∙ b.done p l d)
          (λ (d : k ≤ p).
          let y : p ≡ k = omega arith in
          let i : at < 1024 = omega arith in
          rw (y, ← is) (get_or-set_same ws at t 0 (omega (arith, are.count)) ∙ e))
          (cases_lt p k);
      header = other_word ws at t bank 0 (λ q. omega arith) ∙ b.header;
      rest = λ p l h. other_word ws at t bank p (λ q. omega arith) ∙ b.rest p (omega arith) h;
    }

-- its header was written: the words hold a journal with no entry
pub begun_whole : (ws : List ℕ) (bank number : ℕ) (config : Config) (summary : Summary) (at : ℕ) → at ≡ 512 * bank + 0 → AreWords ws → number < 2 ^ 32
    → IsBegun ws bank (head_number number config summary) 12 → IsJournal (begun_journal bank number config summary) → IsBehind (word_at ws (1 - bank) 0) number
    → BanksHold (slice_set ws at (railed number)) (begun_journal bank number config summary)
begun_whole ws bank number config summary at is are fits b r behind =
    let t = railed number in
    let two : bank < 2 = r.bank in
    let i : at < 1024 = omega arith in
    let own : word_at (slice_set ws at t) bank 0 ≡ t = ap (λ y. slice_index (slice_set ws at t) y) (sym is) ∙ get_or-set_same ws at t 0 (omega (arith, are.count)) in
    let head : (p : ℕ) → p < 12 → word_at (slice_set ws at t) bank p ≡ railed (head_number number config summary p) = λ p l. ⊎_elim
    (λ (z : p ≡ 0). subst (λ y. word_at (slice_set ws at t) bank y ≡ railed (head_number number config summary y)) (sym z) own)
    (λ (z : p ≡ 0 → ⊥). other_word ws at t bank p (λ q. omega arith) ∙ b.done p (omega arith) l)
    (cases_eq p 0) in
    let empty : (k : ℕ) → 0 ≤ k → k < 500 → word_at (slice_set ws at t) bank (12 + k) ≡ erased_word = λ k low l. other_word ws at t bank (12 + k) (λ q. omega arith) ∙ b.rest (12 + k) (omega arith) (omega arith) in
    record {
      start = summary;
      whole = words_set ws at t are (railed_fits number fits);
      ranges = r;
      start_is = r.summary;
      head = head;
      other = subst (λ x. IsBehind x number) (sym (other_word ws at t (1 - bank) 0 (λ q. omega arith))) behind;
      entries = summary_tail (slice_set ws at t) bank (unit_of config.divider) summary 0 500 (omega arith) empty ∙ summary_none (slice_set ws at t) bank (unit_of config.divider) summary;
      place = ap (λ x. 12 + x) (used_tail (slice_set ws at t) bank 0 500 (omega arith) empty ∙ used_none (slice_set ws at t) bank);
    }
