-- A media stays orderly at every call that a journal makes of its ring, also where it is cut.
use Rattle.std.proofs.Common.{◌≡◌, ◌≢◌, ℕ, ◌+◌, ◌-◌, ◌*◌, ◌/◌, ◌%◌, ◌^◌, ◌<◌, ◌≤◌, ◌==◌, ◌⊎◌, inl, inr, true, false, not, Option, Some, None, List, [], ◌∷◌, length, refl, sym, ◌∙◌, ap, subst, arith, lit<, ⊎_elim, get_or-set_same, get_or-set_other}
use Rattle.std.specs.Prelude.{◌&&◌, ◌||◌, nat_le, slice_index, slice_set, if◌then◌else◌}
use Rattle.std.proofs.lemmas.Bool.{cases_lt, cases_eq, cases_Bool}
use Rattle.std.proofs.lemmas.Bool.Decides.{nat_tests}
use Rattle.std.proofs.lemmas.List.{length-set}
use Rattle.paygo_spec.specs.Flash.{TornErase, HasOnesOf, erased_bank, erased_word}
use Rattle.paygo_spec.specs.Layout.{last_bank}
use Rattle.paygo_spec.specs.Rail.{railed, is_railed, is_paired, number_in}
use Rattle.paygo_spec.specs.Recovery.{is_header}
use Rattle.word_rail.proofs.Bits.{railed_if_same, torn_of_paired}
use Rattle.journal_laws.proofs.Words.{railed_number, railed_paired}
use Rattle.journal_laws.proofs.OtherHeader.{header_paired, quiet_is, quiet_erased}
use Rattle.bank_ring.specs.declared.pair.Pair.{Pair}
use Rattle.media_ports.specs.Media.{AreMediaWords}
use Rattle.bank_ring.specs.View.{IsPair, header, in_slot, media_place, newest_slot, erased_by, goes_to, pair_with}
use Rattle.media_ports.proofs.BankLemmas.{erased_inside, erased_other, erased_length, erased_below, erased_above}
use Rattle.bank_ring.specs.Starts.{next_range}
use Rattle.bank_ring.specs.Orderly.{IsAbove, IsOrderly}
use Rattle.ring_laws.specs.Calls.{RingState, IsRing, RingCall, Erase, Program, after_call, IsCut, MayHead, MayCall, MayRun, RunsOrCut}
use Rattle.bank_ring.proofs.Calls.{slot_range, with_range, with_other}
use Rattle.media_ports.proofs.WordLemmas.{words_set}

-- words that are equal are railed with one number
number_moved : (a b c d : ℕ) → a ≡ b → c ≡ d → number_in b < number_in d → number_in a < number_in c
number_moved a b c d e f l = let x = ap number_in e in let y = ap number_in f in omega (arith, x, y, l)

railed_moved : (a b : ℕ) → a ≡ b → is_railed b ≡ true → is_railed a ≡ true
railed_moved a b e r = ap is_railed e ∙ r

two_slots : (slot : ℕ) → slot < 2 → (slot ≡ 0) ⊎ (slot ≡ 1)
two_slots slot l = ⊎_elim (λ (e : slot ≡ 0). inl e) (λ (ne : slot ≡ 0 → ⊥). inr (omega arith)) (cases_eq slot 0)

-- where a railed bank shown isn't the newest, the other one is, with a number that is no smaller
newest_other : (f s : ℕ) (slot : ℕ) → slot < 2 → newest_slot f s ≢ Some slot → is_railed (if slot == 0 then f else s) ≡ true
    → (is_railed (if slot == 0 then s else f) ≡ true) × (number_in (if slot == 0 then f else s) ≤ number_in (if slot == 0 then s else f))
newest_other f s slot two ne r =
    ⊎_elim
    (λ (e : slot ≡ 0).
    let ne0 : newest_slot f s ≢ Some 0 = subst (λ k. newest_slot f s ≢ Some k) e ne in
    let r0 : is_railed f ≡ true = subst (λ (k : ℕ). is_railed (if k == 0 then f else s) ≡ true) e r in
    subst (λ (k : ℕ). (is_railed (if k == 0 then s else f) ≡ true) × (number_in (if k == 0 then f else s) ≤ number_in (if k == 0 then s else f))) (sym e)
    (⊎_elim
    (λ (q : is_railed s ≡ true). ⊎_elim
    (λ (t : nat_le (number_in s) (number_in f) ≡ true). absurd (ne0 (rw (r0, q, t) refl)))
    (λ (t : nat_le (number_in s) (number_in f) ≡ false). (q, grind (arith, nat_tests)))
    (cases_Bool (nat_le (number_in s) (number_in f))))
    (λ (q : is_railed s ≡ false). absurd (ne0 (rw (r0, q) refl)))
    (cases_Bool (is_railed s))))
    (λ (e : slot ≡ 1).
    let ne1 : newest_slot f s ≢ Some 1 = subst (λ k. newest_slot f s ≢ Some k) e ne in
    let r1 : is_railed s ≡ true = subst (λ (k : ℕ). is_railed (if k == 0 then f else s) ≡ true) e r in
    subst (λ (k : ℕ). (is_railed (if k == 0 then s else f) ≡ true) × (number_in (if k == 0 then f else s) ≤ number_in (if k == 0 then s else f))) (sym e)
    (⊎_elim
    (λ (q : is_railed f ≡ true). ⊎_elim
    (λ (t : nat_le (number_in s) (number_in f) ≡ true). (q, grind (arith, nat_tests)))
    (λ (t : nat_le (number_in s) (number_in f) ≡ false). absurd (ne1 (rw (q, r1, t) refl)))
    (cases_Bool (nat_le (number_in s) (number_in f))))
    (λ (q : is_railed f ≡ false). absurd (ne1 (rw (q, r1) refl)))
    (cases_Bool (is_railed f))))
    (two_slots slot two)

-- headers that stay where they are railed, and none that becomes railed
module _ (banks : ℕ) (h k : ℕ → ℕ) (pair : Pair) (orderly : IsOrderly banks h pair) (sound : (b : ℕ) → b < banks → is_header (k b) ≡ true)
    (same : (b : ℕ) → b < banks → is_railed (k b) ≡ true → k b ≡ h b) where
  alone_kept : (a b : ℕ) → a < banks → b < banks → a ≢ b → is_railed (k a) ≡ true → is_railed (k b) ≡ true → number_in (k a) ≢ number_in (k b)
  alone_kept a b la lb ne ra rb =
      let ea = same a la ra in let eb = same b lb rb in
      rw (ea, eb) (orderly.alone a b la lb ne (subst (λ w. is_railed w ≡ true) ea ra) (subst (λ w. is_railed w ≡ true) eb rb))

  -- the same banks are shown
  pub kept_same : IsPair banks pair → ((b : ℕ) → b < banks → is_railed (h b) ≡ true → k b ≡ h b) → IsOrderly banks k pair
  kept_same in_range stay = record {
    sound = sound;
    alone = alone_kept;
    hidden = λ b l n m r. (let e = same b l r in
        let old = orderly.hidden b l n m (subst (λ w. is_railed w ≡ true) e r) in
        let f = stay (in_slot pair old.slot) (slot_range banks pair old.slot in_range) old.railed_is in
        record { slot = old.slot; two = old.two; railed_is = railed_moved _ _ f old.railed_is; above = number_moved _ _ _ _ e f old.above });
  }

  -- a bank is shown in the place of one that isn't the newest
  module _ (slot : ℕ) (two : slot < 2) (newest : newest_slot (h pair.first) (h pair.second) ≢ Some slot) (in_range : IsPair banks pair) where
    abbrev pub other : ℕ
    other = in_slot pair (1 - slot)

    -- the header of a slot is one of the two
    by_slot : (s : ℕ) → h (in_slot pair s) ≡ (if s == 0 then h pair.first else h pair.second)
    by_slot s = ⊎_elim (λ (t : (s == 0) ≡ true). rw t refl) (λ (t : (s == 0) ≡ false). rw t refl) (cases_Bool (s == 0))

    by_other : h other ≡ (if slot == 0 then h pair.second else h pair.first)
    by_other = ⊎_elim (λ (e : slot ≡ 0). rw e refl) (λ (e : slot ≡ 1). rw e refl) (two_slots slot two)

    slot_below : is_railed (h (in_slot pair slot)) ≡ true → (is_railed (h other) ≡ true) × (number_in (h (in_slot pair slot)) ≤ number_in (h other))
    slot_below r =
        let n = newest_other (h pair.first) (h pair.second) slot two newest (subst (λ w. is_railed w ≡ true) (by_slot slot) r) in
        rw (by_other, by_slot slot) n

    other_slot : (s : ℕ) → s < 2 → s ≢ slot → in_slot pair s ≡ other
    other_slot s l ne = ap (λ x. in_slot pair x) (omega (arith, ne))

    slots_differ : in_slot pair slot ≢ other
    slots_differ e =
        let d = in_range.differ in
        ⊎_elim
        (λ (z : slot ≡ 0). d (subst (λ x. in_slot pair x ≡ in_slot pair (1 - x)) z e))
        (λ (z : slot ≡ 1). d (sym (subst (λ x. in_slot pair x ≡ in_slot pair (1 - x)) z e)))
        (two_slots slot two)

    -- so every railed bank but the other one has a smaller number than that
    pub below_other : (b : ℕ) → b < banks → b ≢ other → is_railed (h b) ≡ true → (is_railed (h other) ≡ true) × (number_in (h b) < number_in (h other))
    below_other b l ne r =
        ⊎_elim
        (λ (e : b ≡ in_slot pair slot).
        let q = slot_below (subst (λ x. is_railed (h x) ≡ true) e r) in
        let d = orderly.alone b other l (other_within) ne r q.0 in
        let le : number_in (h b) ≤ number_in (h other) = subst (λ x. number_in (h x) ≤ number_in (h other)) (sym e) q.1 in
        (q.0, omega (arith, d, le)))
        (λ (apart : b ≡ in_slot pair slot → ⊥).
        let a = orderly.hidden b l (not_first apart) (not_second apart) r in
        ⊎_elim
        (λ (z : a.slot ≡ slot).
        let q = slot_below (subst (λ x. is_railed (h (in_slot pair x)) ≡ true) z a.railed_is) in
        let x : number_in (h b) < number_in (h (in_slot pair slot)) = subst (λ x. number_in (h b) < number_in (h (in_slot pair x))) z a.above in
        let y = q.1 in
        (q.0, omega arith))
        (λ (z : a.slot ≡ slot → ⊥).
        let e = other_slot a.slot a.two z in
        (subst (λ x. is_railed (h x) ≡ true) e a.railed_is, subst (λ x. number_in (h b) < number_in (h x)) e a.above))
        (cases_eq a.slot slot))
        (cases_eq b (in_slot pair slot))
      where
        other_within : other < banks
        other_within = slot_range banks pair (1 - slot) in_range

        not_first : (b ≡ in_slot pair slot → ⊥) → b ≢ pair.first
        not_first apart e = ⊎_elim (λ (z : slot ≡ 0). apart (e ∙ rw z refl)) (λ (z : slot ≡ 1). ne (e ∙ rw z refl)) (two_slots slot two)

        not_second : (b ≡ in_slot pair slot → ⊥) → b ≢ pair.second
        not_second apart e = ⊎_elim (λ (z : slot ≡ 0). ne (e ∙ rw z refl)) (λ (z : slot ≡ 1). apart (e ∙ rw z refl)) (two_slots slot two)

    pub kept_other : (now : Pair) → in_slot now (1 - slot) ≡ in_slot pair (1 - slot) → k (in_slot pair (1 - slot)) ≡ h (in_slot pair (1 - slot)) → IsOrderly banks k now
    kept_other now shown stay = record {
      sound = sound;
      alone = alone_kept;
      hidden = λ b l n m r. (let e = same b l r in
          let q = below_other b l (λ z. not_shown b n m (z ∙ sym shown)) (subst (λ w. is_railed w ≡ true) e r) in
          let f : k (in_slot now (1 - slot)) ≡ h (in_slot pair (1 - slot)) = ap k shown ∙ stay in
          record { slot = 1 - slot; two = omega arith; railed_is = railed_moved _ _ f q.0; above = number_moved _ _ _ _ e f q.1 });
    }
      where
        not_shown : (b : ℕ) → b ≢ now.first → b ≢ now.second → b ≢ in_slot now (1 - slot)
        not_shown b n m e = ⊎_elim (λ (z : slot ≡ 0). m (e ∙ rw z refl)) (λ (z : slot ≡ 1). n (e ∙ rw z refl)) (two_slots slot two)

-- a header with a number greater than all others was programmed
pub kept_head : (banks : ℕ) (h k : ℕ → ℕ) (pair : Pair) (bank number : ℕ) → IsPair banks pair → IsOrderly banks h pair → (bank ≡ pair.first) ⊎ (bank ≡ pair.second) → is_railed (h bank) ≡ false → 1 ≤ number → number ≤ last_bank
    → ((b : ℕ) → b < banks → is_railed (h b) ≡ true → number_in (h b) < number) → k bank ≡ railed number → ((b : ℕ) → b < banks → b ≢ bank → k b ≡ h b) → IsOrderly banks k pair
kept_head banks h k pair bank number in_range orderly shown quiet one last greatest own others = record {
  sound = λ b l. ⊎_elim
      (λ (e : b ≡ bank). subst (λ x. is_header (k x) ≡ true) (sym e) (rw own (rw (p, r.0, r.1) (grind (arith, nat_tests)))))
      (λ (ne : b ≡ bank → ⊥). (let s = others b l ne in rw s (orderly.sound b l)))
      (cases_eq b bank);
  alone = λ a b la lb ne ra rb. ⊎_elim
      (λ (e : a ≡ bank).
      let nb : b ≡ bank → ⊥ = λ q. ne (e ∙ sym q) in
      let s = others b lb nb in
      let g = greatest b lb (subst (λ w. is_railed w ≡ true) s rb) in
      let x : number_in (k a) ≡ number = ap (λ z. number_in (k z)) e ∙ number_own in
      rw s (λ q. omega (arith, g, x, q)))
      (λ (na : a ≡ bank → ⊥).
      let s = others a la na in
      ⊎_elim
      (λ (e : b ≡ bank).
      let g = greatest a la (subst (λ w. is_railed w ≡ true) s ra) in
      let x : number_in (k b) ≡ number = ap (λ z. number_in (k z)) e ∙ number_own in
      rw s (λ q. omega (arith, g, x, q)))
      (λ (nb : b ≡ bank → ⊥).
      let t = others b lb nb in
      rw (s, t) (orderly.alone a b la lb ne (subst (λ w. is_railed w ≡ true) s ra) (subst (λ w. is_railed w ≡ true) t rb)))
      (cases_eq b bank))
      (cases_eq a bank);
  hidden = λ b l n m r. ⊎_elim
      (λ (e : b ≡ bank). hidden_own b l n m e)
      (λ (nb : b ≡ bank → ⊥).
      let s = others b l nb in
      let old = orderly.hidden b l n m (subst (λ w. is_railed w ≡ true) s r) in
      let other : in_slot pair old.slot ≡ bank → ⊥ = λ q. (let x : is_railed (h bank) ≡ true = subst (λ z. is_railed (h z) ≡ true) q old.railed_is in let y : true ≡ false = sym x ∙ quiet in cc) in
      let t = others (in_slot pair old.slot) (slot_range banks pair old.slot in_range) other in
      record { slot = old.slot; two = old.two; railed_is = railed_moved _ _ t old.railed_is; above = number_moved _ _ _ _ s t old.above })
      (cases_eq b bank);
}
  where
    r : (is_railed (railed number) ≡ true) × (number_in (railed number) ≡ number)
    r = railed_number number (omega arith)

    p : is_paired (railed number) ≡ true
    p = railed_paired number (omega arith)

    number_own : number_in (k bank) ≡ number
    number_own = ap number_in own ∙ r.1

    hidden_own : (b : ℕ) → b < banks → b ≢ pair.first → b ≢ pair.second → b ≡ bank → IsAbove k pair (number_in (k b))
    hidden_own b l n m e = absurd (⊎_elim (λ (q : bank ≡ pair.first). n (e ∙ q)) (λ (q : bank ≡ pair.second). m (e ∙ q)) shown)

-- a header that is torn is the same, or is quiet
header_torn : (w t : ℕ) → w < 2 ^ 64 → t < 2 ^ 64 → HasOnesOf w t → is_header w ≡ true → (is_header t ≡ true) × (is_railed t ≡ true → t ≡ w)
header_torn w t f g ones sound =
    let p = header_paired w sound in
    ⊎_elim
    (λ (r : is_railed t ≡ true). let e = railed_if_same w t f g p ones r in (subst (λ x. is_header x ≡ true) (sym e) sound, λ q. e))
    (λ (r : is_railed t ≡ false). ((quiet_is t (torn_of_paired w t f g p ones) r).sound, λ q. absurd (let z : true ≡ false = sym q ∙ r in cc)))
    (cases_Bool (is_railed t))

-- the header of a bank after an erase, whole or cut
pub header_fits : (banks : ℕ) (words : List ℕ) (bank : ℕ) → AreMediaWords banks words → bank < banks → bank * 512 + 512 ≤ length words
header_fits banks words bank are l = let c = are.count in omega (arith, c, l)

pub header_erased : (banks : ℕ) (words : List ℕ) (bank : ℕ) → AreMediaWords banks words → bank < banks → header (erased_bank bank words) bank ≡ erased_word
header_erased banks words bank are l = erased_inside words bank (header_fits banks words bank are l) (bank * 512) (omega arith) (omega arith)

pub header_stays : (banks : ℕ) (words : List ℕ) (bank other : ℕ) → AreMediaWords banks words → bank < banks → bank ≢ other → header (erased_bank bank words) other ≡ header words other
header_stays banks words bank other are l ne =
    ap (λ i. slice_index (erased_bank bank words) i) (let e : other * 512 ≡ other * 512 + 0 = omega arith in e)
    ∙ erased_other words bank other 0 (header_fits banks words bank are l) ne (omega arith)
    ∙ ap (λ i. slice_index words i) (let e : other * 512 + 0 ≡ other * 512 = omega arith in e)

torn_stays : (words after : List ℕ) (bank other : ℕ) → TornErase bank words after → other ≢ bank → header after other ≡ header words other
torn_stays words after bank other torn ne =
    ⊎_elim
    (λ (l : other < bank). torn.before (other * 512) (omega arith))
    (λ (l : bank ≤ other). torn.after (other * 512) (let s : bank < other = omega (arith, ne) in omega arith))
    (cases_lt other bank)

-- the header of a bank after a word was programmed
pub set_stays : (words : List ℕ) (place w bank : ℕ) → bank * 512 ≢ place → header (slice_set words place w) bank ≡ header words bank
set_stays words place w bank ne = get_or-set_other words place (bank * 512) w 0 ne

-- the newest slot is one of two
newest_small : (f s n : ℕ) → newest_slot f s ≡ Some n → n < 2
newest_small f s n e =
    ⊎_elim
    (λ (t : (is_railed f && (not (is_railed s) || nat_le (number_in s) (number_in f))) ≡ true). let q : Some 0 ≡ Some n = rw t at e in let z : 0 ≡ n = cc in omega arith)
    (λ (t : (is_railed f && (not (is_railed s) || nat_le (number_in s) (number_in f))) ≡ false).
    let q : (if is_railed s then Some 1 else None) ≡ Some n = rw t at e in
    ⊎_elim
    (λ (r : is_railed s ≡ true). let x : Some 1 ≡ Some n = rw r at q in let z : 1 ≡ n = cc in omega arith)
    (λ (r : is_railed s ≡ false). let x : None ≡ Some n = rw r at q in cc)
    (cases_Bool (is_railed s)))
    (cases_Bool (is_railed f && (not (is_railed s) || nat_le (number_in s) (number_in f))))

-- the bank to which an erase goes is none of the other slot
pub goes_range : (banks : ℕ) (words : List ℕ) (pair : Pair) (slot : ℕ) → 2 ≤ banks → IsPair banks pair → slot < 2 → newest_slot (header words pair.first) (header words pair.second) ≢ Some slot
    → (goes_to banks words pair slot < banks) × (goes_to banks words pair slot ≢ in_slot pair (1 - slot))
goes_range banks words pair slot two in_range small newest = by (newest_slot (header words pair.first) (header words pair.second)) refl
  where
    apart : in_slot pair slot ≢ in_slot pair (1 - slot)
    apart e =
        let d = in_range.differ in
        ⊎_elim
        (λ (z : slot ≡ 0). d (subst (λ x. in_slot pair x ≡ in_slot pair (1 - x)) z e))
        (λ (z : slot ≡ 1). d (sym (subst (λ x. in_slot pair x ≡ in_slot pair (1 - x)) z e)))
        (two_slots slot small)

    by : (found : Option ℕ) → newest_slot (header words pair.first) (header words pair.second) ≡ found → (erased_by banks pair slot found < banks) × (erased_by banks pair slot found ≢ in_slot pair (1 - slot))
    by None e = (slot_range banks pair slot in_range, apart)
    by (Some n) e =
        ⊎_elim
        (λ (t : (n == slot) ≡ true). rw t (slot_range banks pair slot in_range, apart))
        (λ (f : (n == slot) ≡ false).
        let r = next_range banks (in_slot pair n) two (slot_range banks pair n in_range) in
        let ne : n ≢ slot = λ q. (let t : (n == slot) ≡ true = grind (arith, nat_tests) in cc) in
        let o : in_slot pair n ≡ in_slot pair (1 - slot) = ap (λ x. in_slot pair x) (omega (arith, newest_small (header words pair.first) (header words pair.second) n e, ne)) in
        rw f (r.0, λ q. r.1 (q ∙ sym o)))
        (cases_Bool (n == slot))

-- the places of a bank
pub in_bank : (pair : Pair) (at bank : ℕ) → media_place pair at ≡ bank * 512 → at % 512 ≡ 0
in_bank pair at bank e = let b : at % 512 < 512 = omega arith in omega (arith, e, b)

head_place : (pair : Pair) (at : ℕ) → at % 512 ≡ 0 → media_place pair at ≡ in_slot pair (at / 512) * 512
head_place pair at e = omega (arith, e)

module _ (state : RingState) (ring : IsRing state) (orderly : IsOrderly state.banks (header state.words) state.pair) where
  abbrev h : ℕ → ℕ
  h = header state.words

  small : (b : ℕ) → h b < 2 ^ 64
  small b = ring.words.each (b * 512)

  -- a bank is erased
  module _ (slot : ℕ) (may : MayCall (Erase slot) state) where
    abbrev target : ℕ
    target = goes_to state.banks state.words state.pair slot

    range : (target < state.banks) × (target ≢ in_slot state.pair (1 - slot))
    range = goes_range state.banks state.words state.pair slot ring.two ring.pair may.0 may.1

    erased_header : (b : ℕ) → b < state.banks → (header (erased_bank target state.words) b ≡ erased_word) ⊎ (header (erased_bank target state.words) b ≡ h b)
    erased_header b l =
        ⊎_elim
        (λ (e : b ≡ target). inl (ap (λ x. header (erased_bank target state.words) x) e ∙ header_erased state.banks state.words target ring.words range.0))
        (λ (ne : b ≡ target → ⊥). inr (header_stays state.banks state.words target b ring.words range.0 (λ q. ne (sym q))))
        (cases_eq b target)

    pub erased_orderly : IsOrderly state.banks (header (erased_bank target state.words)) (pair_with state.pair slot target)
    erased_orderly =
        kept_other state.banks h (header (erased_bank target state.words)) state.pair orderly
        (λ b l. ⊎_elim (λ (e : header (erased_bank target state.words) b ≡ erased_word). rw e quiet_erased.sound) (λ (e : header (erased_bank target state.words) b ≡ h b). rw e (orderly.sound b l)) (erased_header b l))
        (λ b l r. ⊎_elim
        (λ (e : header (erased_bank target state.words) b ≡ erased_word). absurd (let u = quiet_erased.unrailed in let x : is_railed erased_word ≡ true = subst (λ w. is_railed w ≡ true) e r in let z : true ≡ false = sym x ∙ u in cc))
        (λ (e : header (erased_bank target state.words) b ≡ h b). e)
        (erased_header b l))
        slot may.0 may.1 ring.pair (pair_with state.pair slot target)
        (with_other state.pair slot target may.0)
        (header_stays state.banks state.words target (in_slot state.pair (1 - slot)) ring.words range.0 range.1)

    module _ (new : RingState) (cut : IsCut (Erase slot) state new) where
      torn_header : (b : ℕ) → (is_header (h b) ≡ true) → (is_header (header new.words b) ≡ true) × (is_railed (header new.words b) ≡ true → header new.words b ≡ h b)
      torn_header b sound =
          ⊎_elim
          (λ (e : b ≡ target). header_torn (h b) (header new.words b) (small b) (cut.0.words.each (b * 512)) (cut.1.inside (b * 512) (omega (arith, e)) (omega (arith, e))) sound)
          (λ (ne : b ≡ target → ⊥). (let s = torn_stays state.words new.words target b cut.1 ne in (rw s sound, λ r. s)))
          (cases_eq b target)

      pub torn_orderly : IsOrderly new.banks (header new.words) new.pair
      torn_orderly =
          let o = kept_other state.banks h (header new.words) state.pair orderly
          (λ b l. (torn_header b (orderly.sound b l)).0)
          (λ b l. (torn_header b (orderly.sound b l)).1)
          slot may.0 may.1 ring.pair state.pair refl
          (torn_stays state.words new.words target (in_slot state.pair (1 - slot)) cut.1 (λ q. range.1 (sym q))) in
          subst (λ n. IsOrderly n (header new.words) new.pair) (sym cut.0.banks) (subst (λ p. IsOrderly state.banks (header new.words) p) (sym cut.0.pair) o)

  -- a word is programmed
  module _ (at word : ℕ) (may : MayCall (Program at word) state) where
    abbrev place : ℕ
    place = media_place state.pair at

    -- behind the headers
    behind_orderly : (w : ℕ) → at % 512 ≢ 0 → IsOrderly state.banks (header (slice_set state.words place w)) state.pair
    behind_orderly w ne =
        let stays : (b : ℕ) → header (slice_set state.words place w) b ≡ h b = λ b. set_stays state.words place w b (λ q. ne (in_bank state.pair at b (sym q))) in
        kept_same state.banks h (header (slice_set state.words place w)) state.pair orderly (λ b l. rw (stays b) (orderly.sound b l)) (λ b l r. stays b) ring.pair (λ b l r. stays b)

    module _ (head : at % 512 ≡ 0) where
      abbrev bank : ℕ
      bank = in_slot state.pair (at / 512)

      place_is : place ≡ bank * 512
      place_is = head_place state.pair at head

      within : bank < state.banks
      within = slot_range state.banks state.pair (at / 512) ring.pair

      shown : (bank ≡ state.pair.first) ⊎ (bank ≡ state.pair.second)
      shown = ⊎_elim (λ (t : (at / 512 == 0) ≡ true). inl (rw t refl)) (λ (f : (at / 512 == 0) ≡ false). inr (rw f refl)) (cases_Bool (at / 512 == 0))

      erased : h bank ≡ erased_word
      erased = ap (λ i. slice_index state.words i) (sym place_is) ∙ may.2

      quiet : is_railed (h bank) ≡ false
      quiet = ap is_railed erased ∙ quiet_erased.unrailed

      own : (w : ℕ) → header (slice_set state.words place w) bank ≡ w
      own w = ap (λ i. slice_index (slice_set state.words place w) i) (sym place_is) ∙ get_or-set_same state.words place w 0 (let c = ring.words.count in let l = within in rw place_is (omega arith))

      others : (w b : ℕ) → b ≢ bank → header (slice_set state.words place w) b ≡ h b
      others w b ne = set_stays state.words place w b (λ q. ne (let e : b * 512 ≡ bank * 512 = q ∙ place_is in omega (arith, e)))

      head_orderly : MayHead state word → IsOrderly state.banks (header (slice_set state.words place word)) state.pair
      head_orderly m = kept_head state.banks h (header (slice_set state.words place word)) state.pair bank m.number ring.pair orderly shown quiet m.first m.last m.greatest (own word ∙ m.railed_is) (λ b l ne. others word b ne)

      -- a torn header is that number, or is quiet
      cut_orderly : MayHead state word → (t : ℕ) → t < 2 ^ 64 → HasOnesOf word t → IsOrderly state.banks (header (slice_set state.words place t)) state.pair
      cut_orderly m t fits ones =
          let n = m.last in
          let p : is_paired word ≡ true = ap is_paired m.railed_is ∙ railed_paired m.number (omega arith) in
          let f : word < 2 ^ 64 = may.1 in
          ⊎_elim
          (λ (r : is_railed t ≡ true).
          let e = railed_if_same word t f fits p ones r in
          subst (λ w. IsOrderly state.banks (header (slice_set state.words place w)) state.pair) (sym e) (head_orderly m))
          (λ (r : is_railed t ≡ false).
          let q = quiet_is t (torn_of_paired word t f fits p ones) r in
          kept_same state.banks h (header (slice_set state.words place t)) state.pair orderly
          (λ b l. ⊎_elim
          (λ (e : b ≡ bank). subst (λ x. is_header (header (slice_set state.words place t) x) ≡ true) (sym e) (rw (own t) q.sound))
          (λ (ne : b ≡ bank → ⊥). rw (others t b ne) (orderly.sound b l))
          (cases_eq b bank))
          (λ b l k. ⊎_elim
          (λ (e : b ≡ bank). absurd (let x : is_railed t ≡ true = ap is_railed (sym (own t)) ∙ ap (λ z. is_railed (header (slice_set state.words place t) z)) (sym e) ∙ k in let z : true ≡ false = sym x ∙ r in cc))
          (λ (ne : b ≡ bank → ⊥). others t b ne)
          (cases_eq b bank))
          ring.pair
          (λ b l k. ⊎_elim
          (λ (e : b ≡ bank). absurd (let x : is_railed (h bank) ≡ true = subst (λ z. is_railed (h z) ≡ true) e k in let z : true ≡ false = sym x ∙ quiet in cc))
          (λ (ne : b ≡ bank → ⊥). others t b ne)
          (cases_eq b bank)))
          (cases_Bool (is_railed t))

    pub program_orderly : IsOrderly state.banks (header (slice_set state.words place word)) state.pair
    program_orderly =
        ⊎_elim
        (λ (e : at % 512 ≡ 0). ⊎_elim (λ (ne : at % 512 ≢ 0). absurd (ne e)) (λ (m : MayHead state word). head_orderly e m) may.3)
        (λ (ne : at % 512 ≡ 0 → ⊥). behind_orderly word ne)
        (cases_eq (at % 512) 0)

    pub program_cut : (new : RingState) → IsCut (Program at word) state new → IsOrderly new.banks (header new.words) new.pair
    program_cut new cut =
        let t = cut.1.0 in
        let o : IsOrderly state.banks (header (slice_set state.words place t)) state.pair = ⊎_elim
        (λ (e : at % 512 ≡ 0). ⊎_elim (λ (ne : at % 512 ≢ 0). absurd (ne e)) (λ (m : MayHead state word). cut_orderly e m t cut.1.1 cut.1.2) may.3)
        (λ (ne : at % 512 ≡ 0 → ⊥). behind_orderly t ne)
        (cases_eq (at % 512) 0) in
        subst (λ n. IsOrderly n (header new.words) new.pair) (sym cut.0.banks)
        (subst (λ p. IsOrderly state.banks (header new.words) p) (sym cut.0.pair)
        (subst (λ ws. IsOrderly state.banks (header ws) state.pair) (sym cut.1.3) o))

-- a ring stays a ring
counts_length : (counts : List ℕ) (bank n : ℕ) → length (slice_set counts bank n) ≡ length counts
counts_length counts bank n = length-set counts bank n

pub ring_after : (call : RingCall) (state : RingState) → IsRing state → MayCall call state → IsRing (after_call call state)
ring_after (Erase slot) state ring may =
    let r = goes_range state.banks state.words state.pair slot ring.two ring.pair may.0 may.1 in
    record {
      two = ring.two;
      words = record {
        count = erased_length state.words _ (header_fits state.banks state.words _ ring.words r.0) ∙ ring.words.count;
        each = λ i. erased_small state.banks state.words (goes_to state.banks state.words state.pair slot) ring.words r.0 i;
      };
      erases = counts_length state.erases _ _ ∙ ring.erases;
      pair = with_range state.banks state.pair slot _ ring.pair may.0 r.0 r.1;
    }
  where
    erased_small : (banks : ℕ) (words : List ℕ) (bank : ℕ) → AreMediaWords banks words → bank < banks → (i : ℕ) → slice_index (erased_bank bank words) i < 2 ^ 64
    erased_small banks words bank are l i =
        let fits = header_fits banks words bank are l in
        ⊎_elim
        (λ (b : i < bank * 512). rw (erased_below words bank fits i b) (are.each i))
        (λ (a : bank * 512 ≤ i). ⊎_elim
        (λ (b : i < bank * 512 + 512). rw (erased_inside words bank fits i a b) (lit< tt))
        (λ (p : bank * 512 + 512 ≤ i). rw (erased_above words bank fits i p) (are.each i))
        (cases_lt i (bank * 512 + 512)))
        (cases_lt i (bank * 512))
ring_after (Program at word) state ring may = record {
  two = ring.two;
  words = words_set state.banks state.words _ word ring.words may.1;
  erases = ring.erases;
  pair = ring.pair;
}

orderly_after : (call : RingCall) (state : RingState) → IsRing state → IsOrderly state.banks (header state.words) state.pair → MayCall call state
    → IsOrderly (after_call call state).banks (header (after_call call state).words) (after_call call state).pair
orderly_after (Erase slot) state ring orderly may = erased_orderly state ring orderly slot may
orderly_after (Program at word) state ring orderly may = program_orderly state ring orderly at word may

orderly_cut : (call : RingCall) (state new : RingState) → IsRing state → IsOrderly state.banks (header state.words) state.pair → MayCall call state → IsCut call state new
    → IsOrderly new.banks (header new.words) new.pair
orderly_cut (Erase slot) state new ring orderly may cut = torn_orderly state ring orderly slot may new cut
orderly_cut (Program at word) state new ring orderly may cut = program_cut state ring orderly at word may new cut

pub stays_orderly : (calls : List RingCall) (old new : RingState) → IsRing old → IsOrderly old.banks (header old.words) old.pair → MayRun calls old → RunsOrCut calls old new
    → IsOrderly new.banks (header new.words) new.pair
stays_orderly [] old new ring orderly may runs = subst (λ (s : RingState). IsOrderly s.banks (header s.words) s.pair) (sym runs) orderly
stays_orderly (call ∷ calls) old new ring orderly may runs =
    ⊎_elim
    (λ (cut : IsCut call old new). orderly_cut call old new ring orderly may.0 cut)
    (λ (later : RunsOrCut calls (after_call call old) new). stays_orderly calls (after_call call old) new (ring_after call old ring may.0) (orderly_after call old ring orderly may.0) may.1 later)
    runs
