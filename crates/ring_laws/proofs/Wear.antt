-- The banks of a ring wear evenly.
use Rattle.std.proofs.Common.{◌≡◌, ◌≢◌, ℕ, ◌+◌, ◌-◌, ◌^◌, ◌<◌, ◌≤◌, ◌==◌, ◌⊎◌, inl, inr, min, true, false, Some, None, List, [], ◌∷◌, length, refl, sym, ◌∙◌, ap, subst, arith, ⊎_elim, get_or-set_same, get_or-set_other}
use Rattle.std.specs.Prelude.{nat_le, slice_index, slice_set, if◌then◌else◌}
use Rattle.std.proofs.lemmas.Bool.{cases_lt, cases_eq, cases_Bool}
use Rattle.std.proofs.lemmas.Bool.Decides.{nat_tests}
use Rattle.paygo_spec.specs.Rail.{railed, is_railed, number_in}
use Rattle.journal_laws.proofs.Words.{railed_number}
use Rattle.bank_ring.specs.declared.pair.Pair.{Pair}
use Rattle.media_ports.specs.Media.{erased_once}
use Rattle.bank_ring.specs.View.{header, in_slot, media_place, newest_slot, erased_by, goes_to, next_bank}
use Rattle.ring_laws.specs.Calls.{RingState, IsRing, RingCall, Program, after_call, MayRun, after_calls, turn_calls, MayTurn, IsTurn, IsEntry, IsMake, Lives, Stands, Turns, Enters, WearsEvenly}
use Rattle.bank_ring.specs.Starts.{next_range}
use Rattle.bank_ring.proofs.Calls.{slot_range, with_here}
use Rattle.ring_laws.proofs.Keeps.{set_stays, ring_after, in_bank}
use Rattle.ring_laws.proofs.Turning.{IsTurned, turn_may, turn_after}

two_slots : (slot : ℕ) → slot < 2 → (slot ≡ 0) ⊎ (slot ≡ 1)
two_slots slot l = ⊎_elim (λ (e : slot ≡ 0). inl e) (λ (ne : slot ≡ 0 → ⊥). inr (omega arith)) (cases_eq slot 0)

-- The newest bank is shown in a slot; it and those before it were erased once more than those behind it.
pub record IsLevel (state : RingState) : Type 0 where
  pub ring : IsRing state
  pub slot : ℕ
  pub two : slot < 2
  pub newest : newest_slot (header state.words state.pair.first) (header state.words state.pair.second) ≡ Some slot
  pub count : ℕ
  pub low : (b : ℕ) → b < state.banks → b ≤ in_slot state.pair slot → slice_index state.erases b ≡ min (count + 1) (2 ^ 64 - 1)
  pub high : (b : ℕ) → b < state.banks → in_slot state.pair slot < b → slice_index state.erases b ≡ min count (2 ^ 64 - 1)

pub level_even : (state : RingState) → IsLevel state → WearsEvenly state
level_even state level = λ a b la lb.
    ⊎_elim
    (λ (x : in_slot state.pair level.slot < a). let p = level.high a la x in ⊎_elim
    (λ (y : in_slot state.pair level.slot < b). let q = level.high b lb y in omega (arith, p, q))
    (λ (y : b ≤ in_slot state.pair level.slot). let q = level.low b lb y in omega (arith, p, q))
    (cases_lt (in_slot state.pair level.slot) b))
    (λ (x : a ≤ in_slot state.pair level.slot). let p = level.low a la x in ⊎_elim
    (λ (y : in_slot state.pair level.slot < b). let q = level.high b lb y in omega (arith, p, q))
    (λ (y : b ≤ in_slot state.pair level.slot). let q = level.low b lb y in omega (arith, p, q))
    (cases_lt (in_slot state.pair level.slot) b))
    (cases_lt (in_slot state.pair level.slot) a)

-- the slot with a number greater than the other one's is the newest
pub newest_is : (f s slot number : ℕ) → slot < 2 → (if slot == 0 then f else s) ≡ railed number → number < 2 ^ 32 → (is_railed (if slot == 0 then s else f) ≡ true → number_in (if slot == 0 then s else f) < number) → newest_slot f s ≡ Some slot
newest_is f s slot number two own small behind =
    let r = railed_number number small in
    ⊎_elim
    (λ (e : slot ≡ 0).
    let o : f ≡ railed number = subst (λ (k : ℕ). (if k == 0 then f else s) ≡ railed number) e own in
    let b : is_railed s ≡ true → number_in s < number = subst (λ (k : ℕ). is_railed (if k == 0 then s else f) ≡ true → number_in (if k == 0 then s else f) < number) e behind in
    let rf : is_railed f ≡ true = ap is_railed o ∙ r.0 in
    let nf : number_in f ≡ number = ap number_in o ∙ r.1 in
    subst (λ k. newest_slot f s ≡ Some k) (sym e)
    (⊎_elim
    (λ (q : is_railed s ≡ true). let l = b q in let t : nat_le (number_in s) (number_in f) ≡ true = grind (arith, nat_tests) in rw (rf, q, t) refl)
    (λ (q : is_railed s ≡ false). rw (rf, q) refl)
    (cases_Bool (is_railed s))))
    (λ (e : slot ≡ 1).
    let o : s ≡ railed number = subst (λ (k : ℕ). (if k == 0 then f else s) ≡ railed number) e own in
    let b : is_railed f ≡ true → number_in f < number = subst (λ (k : ℕ). is_railed (if k == 0 then s else f) ≡ true → number_in (if k == 0 then s else f) < number) e behind in
    let rs : is_railed s ≡ true = ap is_railed o ∙ r.0 in
    let ns : number_in s ≡ number = ap number_in o ∙ r.1 in
    subst (λ k. newest_slot f s ≡ Some k) (sym e)
    (⊎_elim
    (λ (q : is_railed f ≡ true). let l = b q in let t : nat_le (number_in s) (number_in f) ≡ false = grind (arith, nat_tests) in rw (q, rs, t) refl)
    (λ (q : is_railed f ≡ false). rw (q, rs) refl)
    (cases_Bool (is_railed f))))
    (two_slots slot two)

pub by_slot : (h : ℕ → ℕ) (pair : Pair) (s : ℕ) → h (in_slot pair s) ≡ (if s == 0 then h pair.first else h pair.second)
by_slot h pair s = ⊎_elim (λ (t : (s == 0) ≡ true). rw t refl) (λ (t : (s == 0) ≡ false). rw t refl) (cases_Bool (s == 0))

pub by_other : (h : ℕ → ℕ) (pair : Pair) (s : ℕ) → s < 2 → h (in_slot pair (1 - s)) ≡ (if s == 0 then h pair.second else h pair.first)
by_other h pair s two = ⊎_elim (λ (e : s ≡ 0). rw e refl) (λ (e : s ≡ 1). rw e refl) (two_slots s two)

-- a ring stays a ring over calls that may be made
ring_runs : (calls : List RingCall) (state : RingState) → IsRing state → MayRun calls state → IsRing (after_calls calls state)
ring_runs [] state ring may = ring
ring_runs (call ∷ calls) state ring may = ring_runs calls (after_call call state) (ring_after call state ring may.0) may.1

-- the slot of a bank that was begun is the newest
turned_newest : (old new : RingState) (slot number : ℕ) → slot < 2 → number < 2 ^ 32 → IsRing old → IsRing new → IsTurned old slot number new
    → ((b : ℕ) → b < old.banks → is_railed (header old.words b) ≡ true → number_in (header old.words b) < number)
    → newest_slot (header new.words new.pair.first) (header new.words new.pair.second) ≡ Some slot
turned_newest old new slot number two small ring after is greatest =
    newest_is (header new.words new.pair.first) (header new.words new.pair.second) slot number two
    (sym (by_slot (header new.words) new.pair slot) ∙ is.own) small
    (λ r.
    let o = by_other (header new.words) new.pair slot two in
    let within : in_slot new.pair (1 - slot) < new.banks = slot_range new.banks new.pair (1 - slot) after.pair in
    let same = is.others (in_slot new.pair (1 - slot)) within apart in
    let g = greatest (in_slot new.pair (1 - slot)) (subst (λ n. in_slot new.pair (1 - slot) < n) is.banks within) (ap is_railed (sym same ∙ o) ∙ r) in
    let x = ap number_in (sym o ∙ same) in
    omega (arith, g, x))
  where
    apart : in_slot new.pair (1 - slot) ≢ in_slot new.pair slot
    apart e =
        let d = after.pair.differ in
        ⊎_elim
        (λ (z : slot ≡ 0). d (sym (subst (λ x. in_slot new.pair (1 - x) ≡ in_slot new.pair x) z e)))
        (λ (z : slot ≡ 1). d (subst (λ x. in_slot new.pair (1 - x) ≡ in_slot new.pair x) z e))
        (two_slots slot two)

once_here : (counts : List ℕ) (bank : ℕ) → bank < length counts → slice_index (erased_once bank counts) bank ≡ min (slice_index counts bank + 1) (2 ^ 64 - 1)
once_here counts bank l = get_or-set_same counts bank (min (slice_index counts bank + 1) (2 ^ 64 - 1)) 0 l

once_other : (counts : List ℕ) (bank b : ℕ) → b ≢ bank → slice_index (erased_once bank counts) b ≡ slice_index counts b
once_other counts bank b ne = get_or-set_other counts bank b (min (slice_index counts bank + 1) (2 ^ 64 - 1)) 0 ne

-- the next bank, in turn
next_cases : (banks bank : ℕ) → ((bank + 1 ≡ banks) × (next_bank banks bank ≡ 0)) ⊎ ((bank + 1 ≢ banks) × (next_bank banks bank ≡ bank + 1))
next_cases banks bank =
    ⊎_elim
    (λ (e : bank + 1 ≡ banks). let t : (bank + 1 == banks) ≡ true = grind (arith, nat_tests) in inl (e, rw t refl))
    (λ (ne : bank + 1 ≡ banks → ⊥). let t : (bank + 1 == banks) ≡ false = grind (arith, nat_tests) in inr (ne, rw t refl))
    (cases_eq (bank + 1) banks)

-- the bank in turn is erased and begun, and the media is level again
module _ (old new : RingState) (slot number : ℕ) (level : IsLevel old) (two : slot < 2) (small : number < 2 ^ 32) (is : IsTurned old slot number new) (after : IsRing new)
    (newest : newest_slot (header old.words old.pair.first) (header old.words old.pair.second) ≡ Some (1 - slot))
    (greatest : (b : ℕ) → b < old.banks → is_railed (header old.words b) ≡ true → number_in (header old.words b) < number) where
  was : level.slot ≡ 1 - slot
  was = let q : Some level.slot ≡ Some (1 - slot) = sym level.newest ∙ newest in cc

  target_is : goes_to old.banks old.words old.pair slot ≡ next_bank old.banks (in_slot old.pair level.slot)
  target_is =
      let f : (1 - slot == slot) ≡ false = grind (arith, nat_tests) in
      ap (λ o. erased_by old.banks old.pair slot o) newest ∙ rw f (ap (λ s. next_bank old.banks (in_slot old.pair s)) (sym was))

  here : in_slot new.pair slot ≡ next_bank old.banks (in_slot old.pair level.slot)
  here = ap (λ p. in_slot p slot) is.pair ∙ with_here old.pair slot (goes_to old.banks old.words old.pair slot) two ∙ target_is

  erases_is : new.erases ≡ erased_once (next_bank old.banks (in_slot old.pair level.slot)) old.erases
  erases_is = is.erases ∙ ap (λ b. erased_once b old.erases) target_is

  last : ℕ
  last = in_slot old.pair level.slot

  last_within : last < old.banks
  unfolding last
  last_within = slot_range old.banks old.pair level.slot level.ring.pair

  next_within : next_bank old.banks last < length old.erases
  unfolding last
  next_within = let r = next_range old.banks (in_slot old.pair level.slot) level.ring.two last_within in let e = level.ring.erases in omega (arith, r.0, e)

  at_next : slice_index new.erases (next_bank old.banks last) ≡ min (slice_index old.erases (next_bank old.banks last) + 1) (2 ^ 64 - 1)
  unfolding last
  at_next = ap (λ c. slice_index c (next_bank old.banks (in_slot old.pair level.slot))) erases_is ∙ once_here old.erases (next_bank old.banks (in_slot old.pair level.slot)) next_within

  at_other : (b : ℕ) → b ≢ next_bank old.banks last → slice_index new.erases b ≡ slice_index old.erases b
  unfolding last
  at_other b ne = ap (λ c. slice_index c b) erases_is ∙ once_other old.erases (next_bank old.banks (in_slot old.pair level.slot)) b ne

  old_low : (b : ℕ) → b < old.banks → b ≤ last → slice_index old.erases b ≡ min (level.count + 1) (2 ^ 64 - 1)
  unfolding last
  old_low = level.low

  old_high : (b : ℕ) → b < old.banks → last < b → slice_index old.erases b ≡ min level.count (2 ^ 64 - 1)
  unfolding last
  old_high = level.high

  here_last : in_slot new.pair slot ≡ next_bank old.banks last
  unfolding last
  here_last = here

  pub level_turned : IsLevel new
  level_turned =
      let n = turned_newest old new slot number two small level.ring after is greatest in
      let same = is.banks in
      let w = last_within in
      ⊎_elim
      (λ (c : (last + 1 ≡ old.banks) × (next_bank old.banks last ≡ 0)).
      let e = c.0 in let z = c.1 in
      record {
        ring = after;
        slot = slot;
        two = two;
        newest = n;
        count = level.count + 1;
        low = λ b l m. (let at : in_slot new.pair slot ≡ 0 = here_last ∙ z in
            let b0 : b ≡ 0 = omega arith in
            let o = old_low 0 (omega arith) (omega arith) in
            let x = at_next in
            let y : slice_index new.erases b ≡ slice_index new.erases (next_bank old.banks last) = ap (λ i. slice_index new.erases i) (b0 ∙ sym z) in
            let v : slice_index old.erases (next_bank old.banks last) ≡ slice_index old.erases 0 = ap (λ i. slice_index old.erases i) z in
            omega (arith, o, x, y, v));
        high = λ b l m. (let at : in_slot new.pair slot ≡ 0 = here_last ∙ z in
            let x = at_other b (λ q. (let k : b ≡ 0 = q ∙ z in omega arith)) in
            let o = old_low b (omega arith) (omega arith) in
            omega (arith, x, o));
      })
      (λ (c : (last + 1 ≢ old.banks) × (next_bank old.banks last ≡ last + 1)).
      let ne = c.0 in let z = c.1 in
      record {
        ring = after;
        slot = slot;
        two = two;
        newest = n;
        count = level.count;
        low = λ b l m. (let at : in_slot new.pair slot ≡ last + 1 = here_last ∙ z in
            ⊎_elim
            (λ (q : b ≡ last + 1).
            let o = old_high (last + 1) (omega (arith, ne)) (omega arith) in
            let x = at_next in
            let y : slice_index new.erases b ≡ slice_index new.erases (next_bank old.banks last) = ap (λ i. slice_index new.erases i) (q ∙ sym z) in
            let v : slice_index old.erases (next_bank old.banks last) ≡ slice_index old.erases (last + 1) = ap (λ i. slice_index old.erases i) z in
            omega (arith, o, x, y, v))
            (λ (q : b ≡ last + 1 → ⊥).
            let x = at_other b (λ r. q (r ∙ z)) in
            let o = old_low b (omega arith) (omega (arith, q)) in
            omega (arith, x, o))
            (cases_eq b (last + 1)));
        high = λ b l m. (let at : in_slot new.pair slot ≡ last + 1 = here_last ∙ z in
            let x = at_other b (λ r. (let k : b ≡ last + 1 = r ∙ z in omega arith)) in
            let o = old_high b (omega arith) (omega arith) in
            omega (arith, x, o));
      })
      (next_cases old.banks last)

level_turn : (old new : RingState) → IsLevel old → IsTurn old new → IsLevel new
level_turn old new level turn =
    let few = turn.may.last in
    let may = turn_may old turn.slot turn.head turn.number level.ring turn.may in
    subst (λ s. IsLevel s) (sym turn.new_is)
    (level_turned old (after_calls (turn_calls turn.slot turn.head turn.number) old) turn.slot turn.number level turn.may.two (omega arith)
    (turn_after old turn.slot turn.head turn.number level.ring turn.may) (ring_runs (turn_calls turn.slot turn.head turn.number) old level.ring may) turn.newest turn.may.greatest)

level_entry : (old new : RingState) → IsLevel old → IsEntry old new → IsLevel new
level_entry old new level entry =
    subst (λ s. IsLevel s) (sym entry.new_is) (record {
      ring = ring_after (Program entry.at entry.word) old level.ring entry.may;
      slot = level.slot;
      two = level.two;
      newest = ap (λ f. newest_slot f (header (slice_set old.words (media_place old.pair entry.at) entry.word) old.pair.second)) (stays old.pair.first)
          ∙ ap (λ s. newest_slot (header old.words old.pair.first) s) (stays old.pair.second) ∙ level.newest;
      count = level.count;
      low = level.low;
      high = level.high;
    })
  where
    stays : (b : ℕ) → header (slice_set old.words (media_place old.pair entry.at) entry.word) b ≡ header old.words b
    stays b = set_stays old.words (media_place old.pair entry.at) entry.word b (λ q. entry.behind (in_bank old.pair entry.at b (sym q)))

level_lives : (old new : RingState) → IsLevel old → Lives old new → IsLevel new
level_lives old new level (Stands state) = level
level_lives old new level (Turns a mid c lives turn) = level_turn mid new (level_lives old mid level lives) turn
level_lives old new level (Enters a mid c lives entry) = level_entry mid new (level_lives old mid level lives) entry

-- a device that was just made
module _ (start made : RingState) (ring : IsRing start) (same : (a b : ℕ) → a < start.banks → b < start.banks → slice_index start.erases a ≡ slice_index start.erases b)
    (small : (a : ℕ) → slice_index start.erases a < 2 ^ 64) (make : IsMake start made) where
  none_newest : newest_slot (header start.words start.pair.first) (header start.words start.pair.second) ≡ None
  none_newest =
      let a = make.blank start.pair.first ring.pair.first in
      let b = make.blank start.pair.second ring.pair.second in
      rw (a, b) refl

  may : MayTurn start 0 make.head 1
  may = record {
    two = omega arith;
    newest = λ e. (let n = none_newest in let q : None ≡ Some 0 = sym n ∙ e in cc);
    first = omega arith;
    last = omega arith;
    greatest = λ b l r. absurd (let x = make.blank b l in let z : true ≡ false = sym r ∙ x in cc);
    fits = make.fits;
  }

  new : RingState
  new = after_calls (turn_calls 0 make.head 1) start

  is : IsTurned start 0 1 new
  unfolding new
  is = turn_after start 0 make.head 1 ring may

  after : IsRing new
  unfolding new
  after = ring_runs (turn_calls 0 make.head 1) start ring (turn_may start 0 make.head 1 ring may)

  target_zero : goes_to start.banks start.words start.pair 0 ≡ 0
  target_zero = ap (λ o. erased_by start.banks start.pair 0 o) none_newest ∙ ap (λ (p : Pair). p.first) make.pair

  shown_zero : in_slot new.pair 0 ≡ 0
  shown_zero = ap (λ p. in_slot p 0) is.pair ∙ with_here start.pair 0 (goes_to start.banks start.words start.pair 0) (omega arith) ∙ target_zero

  erases_zero : new.erases ≡ erased_once 0 start.erases
  erases_zero = is.erases ∙ ap (λ b. erased_once b start.erases) target_zero

  pub level_made : IsLevel made
  unfolding new
  level_made =
      let two = ring.two in
      let e = ring.erases in
      let s = small 0 in
      let sh = shown_zero in
      let banks = is.banks in
      subst (λ x. IsLevel x) (sym make.new_is) (record {
        ring = after;
        slot = 0;
        two = omega arith;
        newest = turned_newest start new 0 1 (omega arith) (omega arith) ring after is may.greatest;
        count = slice_index start.erases 0;
        low = λ b l m. (let z : b ≡ 0 = omega arith in
            ap (λ i. slice_index new.erases i) z ∙ ap (λ c. slice_index c 0) erases_zero ∙ once_here start.erases 0 (omega arith));
        high = λ b l m. (let ne : b ≢ 0 = λ q. omega (arith, q) in
            let x : slice_index new.erases b ≡ slice_index start.erases b = ap (λ c. slice_index c b) erases_zero ∙ once_other start.erases 0 b ne in
            let y = same b 0 (omega arith) (omega arith) in
            omega (arith, x, y, s));
      })

pub wears_evenly : (start made now : RingState) → IsRing start → ((a b : ℕ) → a < start.banks → b < start.banks → slice_index start.erases a ≡ slice_index start.erases b)
    → ((a : ℕ) → slice_index start.erases a < 2 ^ 64) → IsMake start made → Lives made now → WearsEvenly now
wears_evenly start made now ring same small make lives = level_even now (level_lives made now (level_made start made ring same small make) lives)
