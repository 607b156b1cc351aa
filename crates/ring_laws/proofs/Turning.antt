-- The calls by which a journal begins a bank of a ring.
use Rattle.std.proofs.Common.{◌≡◌, ◌≢◌, ℕ, zero, suc, ◌+◌, ◌*◌, ◌/◌, ◌%◌, ◌^◌, ◌<◌, ◌≤◌, inl, inr, true, false, List, [], ◌∷◌, refl, sym, ◌∙◌, ap, subst, arith, ⊎_elim, get_or-set_same, get_or-set_other}
use Rattle.std.specs.Prelude.{slice_index, slice_set}
use Rattle.std.proofs.lemmas.Bool.{cases_eq}
use Rattle.paygo_spec.specs.Flash.{erased_bank, erased_word}
use Rattle.paygo_spec.specs.Rail.{railed, is_railed, number_in}
use Rattle.journal_laws.proofs.Words.{railed_fits}
use Rattle.journal_laws.proofs.OtherHeader.{quiet_erased}
use Rattle.bank_ring.specs.declared.pair.Pair.{Pair}
use Rattle.media_ports.specs.Media.{erased_once}
use Rattle.bank_ring.specs.View.{header, in_slot, media_place, goes_to, pair_with}
use Rattle.media_ports.proofs.BankLemmas.{erased_inside}
use Rattle.ring_laws.specs.Calls.{RingState, IsRing, RingCall, Erase, Program, after_call, MayCall, MayRun, after_calls, head_calls, turn_calls, MayTurn}
use Rattle.bank_ring.proofs.Calls.{slot_range, with_here}
use Rattle.ring_laws.proofs.Keeps.{goes_range, header_fits, header_erased, header_stays, set_stays, ring_after}

-- the place of a word of a slot
pub slot_place : (pair : Pair) (slot place : ℕ) → place < 512 → media_place pair (slot * 512 + place) ≡ in_slot pair slot * 512 + place
slot_place pair slot place l =
    let d : (slot * 512 + place) / 512 ≡ slot = omega arith in
    let m : (slot * 512 + place) % 512 ≡ place = omega arith in
    ap (λ s. in_slot pair s * 512 + (slot * 512 + place) % 512) d ∙ ap (λ p. in_slot pair slot * 512 + p) m

-- A bank is being begun: the ring came from another by an erase, and its places from this one on are erased.
pub record IsBeginning (old : RingState) (slot place : ℕ) (now : RingState) : Type 0 where
  pub ring : IsRing now
  pub banks : now.banks ≡ old.banks
  pub erases : now.erases ≡ erased_once (goes_to old.banks old.words old.pair slot) old.erases
  pub pair : now.pair ≡ pair_with old.pair slot (goes_to old.banks old.words old.pair slot)
  pub blank : (q : ℕ) → place ≤ q → q < 512 → slice_index now.words (in_slot now.pair slot * 512 + q) ≡ erased_word
  pub own : header now.words (in_slot now.pair slot) ≡ erased_word
  pub others : (b : ℕ) → b < now.banks → b ≢ in_slot now.pair slot → header now.words b ≡ header old.words b

-- after the erase
begun : (old : RingState) (slot : ℕ) → IsRing old → MayCall (Erase slot) old → IsBeginning old slot 1 (after_call (Erase slot) old)
begun old slot ring may =
    let r = goes_range old.banks old.words old.pair slot ring.two ring.pair may.0 may.1 in
    let here : in_slot (pair_with old.pair slot target) slot ≡ target = with_here old.pair slot target may.0 in
    record {
      ring = ring_after (Erase slot) old ring may;
      banks = refl;
      erases = refl;
      pair = refl;
      blank = λ q a l. ap (λ b. slice_index (erased_bank target old.words) (b * 512 + q)) here
          ∙ erased_inside old.words target (header_fits old.banks old.words target ring.words r.0) (target * 512 + q) (omega arith) (omega arith);
      own = ap (λ b. header (erased_bank target old.words) b) here ∙ header_erased old.banks old.words target ring.words r.0;
      others = λ b l ne. header_stays old.banks old.words target b ring.words r.0 (λ e. ne (sym e ∙ sym here));
    }
  where
    target : ℕ
    target = goes_to old.banks old.words old.pair slot

-- after a word more
more : (old now : RingState) (slot place word : ℕ) → slot < 2 → 1 ≤ place → place < 512 → word < 2 ^ 64 → IsBeginning old slot place now
    → MayCall (Program (slot * 512 + place) word) now × IsBeginning old slot (place + 1) (after_call (Program (slot * 512 + place) word) now)
more old now slot place word two one small fits is =
    let at = slot_place now.pair slot place small in
    let here : slice_index now.words (media_place now.pair (slot * 512 + place)) ≡ erased_word = ap (λ i. slice_index now.words i) at ∙ is.blank place (omega arith) small in
    let ne : (slot * 512 + place) % 512 ≢ 0 = λ e. omega (arith, e) in
    let may : MayCall (Program (slot * 512 + place) word) now = (omega arith, fits, here, inl ne) in
    let stays : (b : ℕ) → header (slice_set now.words (media_place now.pair (slot * 512 + place)) word) b ≡ header now.words b = λ b. set_stays now.words _ word b (λ e. (let x : b * 512 ≡ in_slot now.pair slot * 512 + place = e ∙ at in omega (arith, x))) in (
      may,
      record {
        ring = ring_after (Program (slot * 512 + place) word) now is.ring may;
        banks = is.banks;
        erases = is.erases;
        pair = is.pair;
        blank = λ q a l. get_or-set_other now.words (media_place now.pair (slot * 512 + place)) (in_slot now.pair slot * 512 + q) word 0 (λ e. (let x : in_slot now.pair slot * 512 + q ≡ in_slot now.pair slot * 512 + place = e ∙ at in omega (arith, x)))
            ∙ is.blank q (omega arith) l;
        own = stays (in_slot now.pair slot) ∙ is.own;
        others = λ b l n. stays b ∙ is.others b l n;
      },
    )

-- the whole head, and then what is done behind it
head_may : (old now : RingState) (slot place n : ℕ) (head : ℕ → ℕ) (rest : List RingCall) → slot < 2 → 1 ≤ place → place + n ≤ 512 → ((p : ℕ) → head p < 2 ^ 32) → IsBeginning old slot place now
    → ((last : RingState) → IsBeginning old slot (place + n) last → MayRun rest last) → MayRun (head_calls slot head place n rest) now
unfolding head_calls
head_may old now slot place zero head rest two one fits small is go = go now (subst (λ p. IsBeginning old slot p now) (let e : place ≡ place + 0 = omega arith in e) is)
head_may old now slot place (suc n) head rest two one fits small is go =
    let m = more old now slot place (railed (head place)) two one (omega arith) (railed_fits (head place) (small place)) is in (
      m.0,
      head_may old (after_call (Program (slot * 512 + place) (railed (head place))) now) slot (place + 1) n head rest two (omega arith) (omega arith) small m.1
          (λ last b. go last (subst (λ p. IsBeginning old slot p last) (let e : (place + 1) + n ≡ place + suc n = omega arith in e) b)),
    )

head_after : (P : RingState → Type 0) (old now : RingState) (slot place n : ℕ) (head : ℕ → ℕ) (rest : List RingCall) → slot < 2 → 1 ≤ place → place + n ≤ 512 → ((p : ℕ) → head p < 2 ^ 32) → IsBeginning old slot place now
    → ((last : RingState) → IsBeginning old slot (place + n) last → P (after_calls rest last)) → P (after_calls (head_calls slot head place n rest) now)
unfolding head_calls
head_after P old now slot place zero head rest two one fits small is go = go now (subst (λ p. IsBeginning old slot p now) (let e : place ≡ place + 0 = omega arith in e) is)
head_after P old now slot place (suc n) head rest two one fits small is go =
    let m = more old now slot place (railed (head place)) two one (omega arith) (railed_fits (head place) (small place)) is in
    head_after P old (after_call (Program (slot * 512 + place) (railed (head place))) now) slot (place + 1) n head rest two (omega arith) (omega arith) small m.1
    (λ last b. go last (subst (λ p. IsBeginning old slot p last) (let e : (place + 1) + n ≡ place + suc n = omega arith in e) b))

-- the number is greater than all others when the header is programmed
head_greatest : (old last : RingState) (slot place number : ℕ) → IsBeginning old slot place last → ((b : ℕ) → b < old.banks → is_railed (header old.words b) ≡ true → number_in (header old.words b) < number)
    → (b : ℕ) → b < last.banks → is_railed (header last.words b) ≡ true → number_in (header last.words b) < number
head_greatest old last slot place number is greatest b l r =
    ⊎_elim
    (λ (e : b ≡ in_slot last.pair slot).
    let w : header last.words b ≡ erased_word = ap (λ x. header last.words x) e ∙ is.own in
    absurd (let u = quiet_erased.unrailed in let x : is_railed erased_word ≡ true = ap is_railed (sym w) ∙ r in let z : true ≡ false = sym x ∙ u in cc))
    (λ (ne : b ≡ in_slot last.pair slot → ⊥).
    let same = is.others b l ne in
    let g = greatest b (subst (λ n. b < n) is.banks l) (ap is_railed (sym same) ∙ r) in
    let x = ap number_in same in
    omega (arith, g, x))
    (cases_eq b (in_slot last.pair slot))

pub turn_may : (state : RingState) (slot : ℕ) (head : ℕ → ℕ) (number : ℕ) → IsRing state → MayTurn state slot head number → MayRun (turn_calls slot head number) state
turn_may state slot head number ring may =
    let erase : MayCall (Erase slot) state = (may.two, may.newest) in (
      erase,
      head_may state (after_call (Erase slot) state) slot 1 11 head (Program (slot * 512) (railed number) ∷ []) may.two (omega arith) (omega arith) may.fits (begun state slot ring erase)
          (λ last is. (header_may last is, tt)),
    )
  where
    header_may : (last : RingState) → IsBeginning state slot 12 last → MayCall (Program (slot * 512) (railed number)) last
    header_may last is =
        let two = may.two in
        let few = may.last in
        let at : media_place last.pair (slot * 512) ≡ in_slot last.pair slot * 512 =
        ap (λ i. media_place last.pair i) (let e : slot * 512 ≡ slot * 512 + 0 = omega arith in e) ∙ slot_place last.pair slot 0 (omega arith) ∙ (let e : in_slot last.pair slot * 512 + 0 ≡ in_slot last.pair slot * 512 = omega arith in e) in (
          omega arith,
          railed_fits number (omega arith),
          ap (λ i. slice_index last.words i) at ∙ is.own,
          inr (record { number = number; railed_is = refl; first = may.first; last = may.last; greatest = head_greatest state last slot 12 number is may.greatest }),
        )

-- What stands after a bank was begun.
pub record IsTurned (old : RingState) (slot number : ℕ) (new : RingState) : Type 0 where
  pub banks : new.banks ≡ old.banks
  pub erases : new.erases ≡ erased_once (goes_to old.banks old.words old.pair slot) old.erases
  pub pair : new.pair ≡ pair_with old.pair slot (goes_to old.banks old.words old.pair slot)
  pub own : header new.words (in_slot new.pair slot) ≡ railed number
  pub others : (b : ℕ) → b < new.banks → b ≢ in_slot new.pair slot → header new.words b ≡ header old.words b

pub turn_after : (state : RingState) (slot : ℕ) (head : ℕ → ℕ) (number : ℕ) → IsRing state → MayTurn state slot head number → IsTurned state slot number (after_calls (turn_calls slot head number) state)
turn_after state slot head number ring may =
    let erase : MayCall (Erase slot) state = (may.two, may.newest) in
    head_after (λ s. IsTurned state slot number s) state (after_call (Erase slot) state) slot 1 11 head (Program (slot * 512) (railed number) ∷ []) may.two (omega arith) (omega arith) may.fits (begun state slot ring erase)
    (λ last is. header_after last is)
  where
    header_after : (last : RingState) → IsBeginning state slot 12 last → IsTurned state slot number (after_call (Program (slot * 512) (railed number)) last)
    header_after last is =
        let at : media_place last.pair (slot * 512) ≡ in_slot last.pair slot * 512 =
        ap (λ i. media_place last.pair i) (let e : slot * 512 ≡ slot * 512 + 0 = omega arith in e) ∙ slot_place last.pair slot 0 (omega arith) ∙ (let e : in_slot last.pair slot * 512 + 0 ≡ in_slot last.pair slot * 512 = omega arith in e) in
        let c = is.ring.words.count in
        let l = slot_range last.banks last.pair slot is.ring.pair in
        record {
          banks = is.banks;
          erases = is.erases;
          pair = is.pair;
          own = ap (λ i. slice_index (slice_set last.words i (railed number)) (in_slot last.pair slot * 512)) at ∙ get_or-set_same last.words (in_slot last.pair slot * 512) (railed number) 0 (omega arith);
          others = λ b m ne. set_stays last.words (media_place last.pair (slot * 512)) (railed number) b (λ e. ne (let x : b * 512 ≡ in_slot last.pair slot * 512 = e ∙ at in omega (arith, x))) ∙ is.others b m ne;
        }
