-- A full bank is left for the other one, whatever a power cut leaves of it.
use Rattle.std.proofs.Common.{◌≡◌, ℕ, true, false, ◌+◌, ◌-◌, ◌*◌, ◌^◌, ◌<◌, ◌≤◌, ◌⊎◌, inl, inr, List, arith, sym, ◌∙◌, ap, subst, ⊎_elim, get_or-set_same}
use Rattle.std.specs.Prelude.{slice_index, slice_set}
use Rattle.std.proofs.lemmas.Bool.{cases_Bool}
use Rattle.std.proofs.lemmas.Bool.Decides.{nat_tests}
use Rattle.paygo_spec.specs.Flash.{AreWords, HasOnesOf}
use Rattle.paygo_spec.specs.Rail.{railed, is_railed}
use Rattle.paygo_spec.specs.History.{Summary}
use Rattle.paygo_spec.specs.Lawful.{IsSummary}
use Rattle.paygo_spec.specs.Clock.{unit_of}
use Rattle.paygo_spec.specs.Layout.{head_number, last_bank}
use Rattle.paygo_spec.specs.Recovery.{JournalView, word_at}
use Rattle.word_rail.proofs.Bits.{railed_if_same, torn_of_railed}
use Rattle.journal_laws.specs.Journal.{begun_with}
use Rattle.journal_laws.specs.Banks.{BanksHold, IsBegun, IsBehind}
use Rattle.journal_laws.proofs.Words.{words_set, railed_number, railed_fits, railed_paired}
use Rattle.journal_laws.proofs.Entries.{summary_same, used_same}
use Rattle.journal_laws.proofs.OtherHeader.{quiet_is, quiet_behind}
use Rattle.journal_laws.proofs.Begin.{begun_whole, other_word}

-- what happens outside of the bank in use, but to the other header, doesn't matter
pub holds_outside : (ws vs : List ℕ) (j : JournalView) → BanksHold ws j → AreWords vs → ((p : ℕ) → p < 512 → word_at vs j.bank p ≡ word_at ws j.bank p) → IsBehind (word_at vs (1 - j.bank) 0) j.at.number → BanksHold vs j
holds_outside ws vs j h are same behind =
    record {
      start = h.start;
      whole = are;
      ranges = h.ranges;
      start_is = h.start_is;
      head = λ p l. same p (omega arith) ∙ h.head p l;
      other = behind;
      entries = summary_same ws vs j.bank (unit_of j.config.divider) h.start 500 (λ k l. same (12 + k) (omega arith)) ∙ h.entries;
      place = ap (λ x. 12 + x) (used_same ws vs j.bank 500 (λ k l. same (12 + k) (omega arith))) ∙ h.place;
    }

-- the header in use counts for less than the next number
own_behind : (ws : List ℕ) (j : JournalView) → BanksHold ws j → IsBehind (word_at ws j.bank 0) (j.at.number + 1)
own_behind ws j h =
    let w : word_at ws j.bank 0 ≡ railed j.at.number = h.head 0 (omega arith) in
    let first : 1 ≤ j.at.number = h.ranges.first in
    let last : j.at.number ≤ 100000 = h.ranges.last in
    let r = railed_number j.at.number (omega arith) in
    let p = railed_paired j.at.number (omega arith) in
    subst (λ x. IsBehind x (j.at.number + 1)) (sym w) (record {
      sound = rw (p, r.0, r.1) (grind (arith, nat_tests));
      older = λ e. (let n = r.1 in omega arith);
    })

-- the header was written whole
pub turn_whole : (ws : List ℕ) (j : JournalView) (s : Summary) (at : ℕ) → IsSummary s → at ≡ 512 * (1 - j.bank) → j.at.number < last_bank → IsBegun ws (1 - j.bank) (head_number (j.at.number + 1) j.config s) 12
    → BanksHold ws j → BanksHold (slice_set ws at (railed (j.at.number + 1))) (begun_with s j)
turn_whole ws j s at rule is few begun h =
    let two : j.bank < 2 = h.ranges.bank in
    let back : j.bank ≡ 1 - (1 - j.bank) = omega arith in
    begun_whole ws (1 - j.bank) (j.at.number + 1) j.config s at (omega arith) h.whole (omega arith) begun
    (record { bank = omega arith; first = omega arith; last = omega arith; behind_head = omega arith; within = omega arith; key = h.ranges.key; config = h.ranges.config; summary = rule })
    (subst (λ b. IsBehind (word_at ws b 0) (j.at.number + 1)) back (own_behind ws j h))

-- the header was torn: the old bank is in use, or the new one
pub turn_torn : (ws : List ℕ) (j : JournalView) (s : Summary) (at t : ℕ) → IsSummary s → at ≡ 512 * (1 - j.bank) → j.at.number < last_bank → IsBegun ws (1 - j.bank) (head_number (j.at.number + 1) j.config s) 12
    → t < 2 ^ 64 → HasOnesOf (railed (j.at.number + 1)) t → BanksHold ws j
    → BanksHold (slice_set ws at t) j ⊎ BanksHold (slice_set ws at t) (begun_with s j)
turn_torn ws j s at t rule is few begun fits ones h =
    let two : j.bank < 2 = h.ranges.bank in
    let n : j.at.number + 1 < 2 ^ 32 = omega arith in
    let w = railed_fits (j.at.number + 1) n in
    ⊎_elim
    (λ (r : is_railed t ≡ true).
    let same = railed_if_same (railed (j.at.number + 1)) t w fits (railed_paired (j.at.number + 1) n) ones r in
    inr (subst (λ x. BanksHold (slice_set ws at x) (begun_with s j)) (sym same) (turn_whole ws j s at rule is few begun h)))
    (λ (r : is_railed t ≡ false).
    let p = torn_of_railed (railed (j.at.number + 1)) t w fits (railed_number (j.at.number + 1) n).0 ones in
    let i : at < 1024 = omega arith in
    let z : word_at (slice_set ws at t) (1 - j.bank) 0 ≡ t = ap (λ y. slice_index (slice_set ws at t) y) (omega arith) ∙ get_or-set_same ws at t 0 (omega (arith, h.whole.count)) in
    inl (holds_outside ws (slice_set ws at t) j h (words_set ws at t h.whole fits)
    (λ q l. other_word ws at t j.bank q (λ y. omega arith))
    (subst (λ x. IsBehind x j.at.number) (sym z) (quiet_behind t j.at.number (quiet_is t p r)))))
    (cases_Bool (is_railed t))
