-- The calls that a journal makes of an orderly ring are such as keep it orderly.
use Rattle.std.proofs.Common.{◌≡◌, ◌≢◌, ℕ, ◌+◌, ◌-◌, ◌*◌, ◌^◌, ◌<◌, ◌≤◌, inl, true, false, Some, None, refl, sym, ◌∙◌, ap, subst, arith, ⊎_elim}
use Rattle.std.proofs.lemmas.Bool.{cases_eq, cases_Bool}
use Rattle.paygo_spec.specs.Flash.{erased_word}
use Rattle.paygo_spec.specs.Layout.{last_bank}
use Rattle.paygo_spec.specs.Rail.{railed, is_railed, number_in}
use Rattle.paygo_spec.specs.Recovery.{JournalView, Made, Unmade, recover, word_at}
use Rattle.journal_laws.specs.Banks.{BanksHold, BanksHoldNone}
use Rattle.journal_laws.proofs.Recovered.{made_holds, unmade_none}
use Rattle.journal_laws.proofs.Words.{railed_fits}
use Rattle.bank_ring.specs.View.{header, in_slot, newest_slot, shown_words}
use Rattle.bank_ring.specs.Shown.{fit_of, shown_at, shown_whole}
use Rattle.bank_ring.specs.Orderly.{IsOrderly}
use Rattle.ring_laws.specs.Calls.{RingState, IsRing, Program, MayCall, MayTurn}
use Rattle.bank_ring.proofs.Calls.{slot_range}
use Rattle.bank_ring.proofs.Restart.{IsLed, orderly_led, slot_header}
use Rattle.ring_laws.proofs.Wear.{newest_is, by_slot, by_other}

module _ (state : RingState) (j : JournalView) (ring : IsRing state) (orderly : IsOrderly state.banks (header state.words) state.pair) (made : recover (shown_words state.words state.pair) ≡ Made j) where
  holds : BanksHold (shown_words state.words state.pair) j
  holds = made_holds (shown_words state.words state.pair) j (shown_whole state.banks state.words state.pair ring.words ring.pair) made

  led : IsLed state.banks state.words (in_slot state.pair j.bank) j.at.number
  led = orderly_led state.banks state.words state.pair j ring.words ring.pair orderly holds

  own_header : header state.words (in_slot state.pair j.bank) ≡ railed j.at.number
  own_header = sym (slot_header state.words state.pair j.bank (fit_of state.banks state.words state.pair ring.words ring.pair) holds.ranges.bank) ∙ holds.head 0 (omega arith)

  apart : in_slot state.pair (1 - j.bank) ≢ in_slot state.pair j.bank
  apart e =
      let d = ring.pair.differ in
      let two = holds.ranges.bank in
      ⊎_elim
      (λ (z : j.bank ≡ 0). d (sym (subst (λ x. in_slot state.pair (1 - x) ≡ in_slot state.pair x) z e)))
      (λ (z : j.bank ≡ 0 → ⊥). let o : j.bank ≡ 1 = omega (arith, z) in d (subst (λ x. in_slot state.pair (1 - x) ≡ in_slot state.pair x) o e))
      (cases_eq j.bank 0)

  -- the bank in use is the newest of the two
  pub newest_made : newest_slot (header state.words state.pair.first) (header state.words state.pair.second) ≡ Some j.bank
  newest_made =
      let last = holds.ranges.last in
      newest_is (header state.words state.pair.first) (header state.words state.pair.second) j.bank j.at.number holds.ranges.bank
      (sym (by_slot (header state.words) state.pair j.bank) ∙ own_header) (omega arith)
      (λ r.
      let o = by_other (header state.words) state.pair j.bank holds.ranges.bank in
      let b = led.behind (in_slot state.pair (1 - j.bank)) (slot_range state.banks state.pair (1 - j.bank) ring.pair) apart (ap is_railed o ∙ r) in
      let x = ap number_in o in
      omega (arith, b, x))

  -- so the other one may be begun with the next number
  pub turn_of_made : (head : ℕ → ℕ) → ((place : ℕ) → head place < 2 ^ 32) → j.at.number < last_bank → MayTurn state (1 - j.bank) head (j.at.number + 1)
  turn_of_made head fits few = record {
    two = omega arith;
    newest = λ e. (let q : Some j.bank ≡ Some (1 - j.bank) = sym newest_made ∙ e in let z : j.bank ≡ 1 - j.bank = cc in let two = holds.ranges.bank in omega (arith, z, two));
    first = omega arith;
    last = omega arith;
    greatest = λ b l r. ⊎_elim
        (λ (e : b ≡ in_slot state.pair j.bank). let n = led.number_is in let x = ap (λ k. number_in (header state.words k)) e in omega (arith, n, x))
        (λ (ne : b ≡ in_slot state.pair j.bank → ⊥). let n = led.behind b l ne r in omega (arith, n))
        (cases_eq b (in_slot state.pair j.bank));
    fits = fits;
  }

  -- and an entry may be programmed at an erased place behind the head
  pub entry_of_made : (place number : ℕ) → 12 ≤ place → place < 512 → number < 2 ^ 32 → word_at (shown_words state.words state.pair) j.bank place ≡ erased_word → MayCall (Program (512 * j.bank + place) (railed number)) state
  entry_of_made place number behind small fits blank =
      let two = holds.ranges.bank in (
        omega arith,
        railed_fits number fits,
        sym (shown_at state.words state.pair (512 * j.bank + place) (fit_of state.banks state.words state.pair ring.words ring.pair) (omega arith)) ∙ blank,
        inl (λ e. omega (arith, e, behind, small)),
      )

-- where no device was made, none of the headers is railed, and one may be made
module _ (state : RingState) (ring : IsRing state) (orderly : IsOrderly state.banks (header state.words) state.pair) (unmade : recover (shown_words state.words state.pair) ≡ Unmade) where
  none : BanksHoldNone (shown_words state.words state.pair)
  none = unmade_none (shown_words state.words state.pair) (shown_whole state.banks state.words state.pair ring.words ring.pair) unmade

  quiet_slot : (slot : ℕ) → slot < 2 → is_railed (header state.words (in_slot state.pair slot)) ≡ false
  quiet_slot slot two =
      ⊎_elim
      (λ (z : slot ≡ 0). subst (λ s. is_railed (header state.words (in_slot state.pair s)) ≡ false) (sym z)
      (ap is_railed (sym (slot_header state.words state.pair 0 (fit_of state.banks state.words state.pair ring.words ring.pair) (omega arith))) ∙ none.first.unrailed))
      (λ (z : slot ≡ 0 → ⊥). let o : slot ≡ 1 = omega (arith, z) in subst (λ s. is_railed (header state.words (in_slot state.pair s)) ≡ false) (sym o)
      (ap is_railed (sym (slot_header state.words state.pair 1 (fit_of state.banks state.words state.pair ring.words ring.pair) (omega arith))) ∙ none.second.unrailed))
      (cases_eq slot 0)

  pub all_quiet : (b : ℕ) → b < state.banks → is_railed (header state.words b) ≡ false
  all_quiet b l =
      ⊎_elim
      (λ (r : is_railed (header state.words b) ≡ true).
      ⊎_elim
      (λ (e : b ≡ state.pair.first). absurd (let q = quiet_slot 0 (omega arith) in let x : is_railed (header state.words state.pair.first) ≡ true = subst (λ k. is_railed (header state.words k) ≡ true) e r in let z : true ≡ false = sym x ∙ q in cc))
      (λ (n : b ≡ state.pair.first → ⊥). ⊎_elim
      (λ (e : b ≡ state.pair.second). absurd (let q = quiet_slot 1 (omega arith) in let x : is_railed (header state.words state.pair.second) ≡ true = subst (λ k. is_railed (header state.words k) ≡ true) e r in let z : true ≡ false = sym x ∙ q in cc))
      (λ (m : b ≡ state.pair.second → ⊥).
      let a = orderly.hidden b l n m r in
      absurd (let z : true ≡ false = sym a.railed_is ∙ quiet_slot a.slot a.two in cc))
      (cases_eq b state.pair.second))
      (cases_eq b state.pair.first))
      (λ (f : is_railed (header state.words b) ≡ false). f)
      (cases_Bool (is_railed (header state.words b)))

  pub make_of_unmade : (head : ℕ → ℕ) → ((place : ℕ) → head place < 2 ^ 32) → MayTurn state 0 head 1
  make_of_unmade head fits = record {
    two = omega arith;
    newest = λ e. (let a = quiet_slot 0 (omega arith) in let b = quiet_slot 1 (omega arith) in let n : newest_slot (header state.words state.pair.first) (header state.words state.pair.second) ≡ None = rw (a, b) refl in let q : None ≡ Some 0 = sym n ∙ e in cc);
    first = omega arith;
    last = omega arith;
    greatest = λ b l r. absurd (let x = all_quiet b l in let z : true ≡ false = sym r ∙ x in cc);
    fits = fits;
  }
