-- A ring that starts on an orderly media shows the device that was shown.
use Rattle.std.proofs.Common.{◌≡◌, ◌≢◌, ℕ, zero, suc, ◌+◌, ◌-◌, ◌*◌, ◌/◌, ◌%◌, ◌<◌, ◌≤◌, ◌==◌, ◌⊎◌, inl, inr, Bool, true, false, nat_lt, Option, Some, None, Result, Ok, Err, ok_or, List, refl, sym, ◌∙◌, ap, subst, arith, ⊎_elim}
use Rattle.std.specs.Prelude.{is_some, slice_index, IfSome, IsSomeAnd, if◌then◌else◌}
use Rattle.std.specs.Option.{option_map}
use Rattle.std.proofs.lemmas.Bool.{cases_eq, cases_Bool}
use Rattle.std.proofs.lemmas.Bool.Decides.{nat_tests}
use Rattle.paygo_spec.specs.Least.{least}
use Rattle.paygo_spec.proofs.Leasts.{least_of_none, least_of_some, least_says_none}
use Rattle.paygo_spec.specs.History.{Summary}
use Rattle.paygo_spec.specs.Clock.{unit_of}
use Rattle.paygo_spec.specs.EntryNumber.{after_number}
use Rattle.paygo_spec.specs.Rail.{railed, is_railed, number_in}
use Rattle.paygo_spec.specs.Recovery.{JournalView, Made, recover, word_at, is_header, after_word, summary_after, used}
use Rattle.journal_laws.specs.Banks.{BanksHold, IsBehind}
use Rattle.journal_laws.proofs.Recovered.{made_holds, holds_made}
use Rattle.journal_laws.proofs.Words.{railed_number}
use Rattle.journal_laws.proofs.Entries.{summary_step, summary_none, used_step, used_none}
use Rattle.bank_ring.specs.declared.pair.Pair.{Pair}
use Rattle.media_ports.specs.Media.{MediaView, IsMedia, AreMediaWords}
use Rattle.bank_ring.specs.View.{IsPair, flash_view, header, in_slot, pair_of, previous_bank, is_bad, is_twin, has_twin, is_passed, is_newest, start_pair, shown_words}
use Rattle.bank_ring.specs.Shown.{Fit, fit_of, shown_at, shown_whole}
use Rattle.bank_ring.specs.Starts.{start_newest, previous_range}
use Rattle.bank_ring.specs.Orderly.{IsOrderly, in_first}
use Rattle.bank_ring.proofs.Calls.{slot_range}

-- The bank in use leads all others: it is railed with this number, and every other railed number is smaller.
pub record IsLed (banks : ℕ) (words : List ℕ) (bank number : ℕ) : Type 0 where
  pub within : bank < banks
  pub railed_is : is_railed (header words bank) ≡ true
  pub number_is : number_in (header words bank) ≡ number
  pub sound : (b : ℕ) → b < banks → is_header (header words b) ≡ true
  pub behind : (b : ℕ) → b < banks → b ≢ bank → is_railed (header words b) ≡ true → number_in (header words b) < number
  pub alone : (a b : ℕ) → a < banks → b < banks → a ≢ b → is_railed (header words a) ≡ true → is_railed (header words b) ≡ true → number_in (header words a) ≢ number_in (header words b)

-- a word of a bank that is shown
slot_word : (words : List ℕ) (pair : Pair) (slot place : ℕ) → Fit words pair → slot < 2 → place < 512 → word_at (shown_words words pair) slot place ≡ slice_index words (in_slot pair slot * 512 + place)
slot_word words pair slot place fit two small =
    let d : (512 * slot + place) / 512 ≡ slot = omega arith in
    let m : (512 * slot + place) % 512 ≡ place = omega arith in
    shown_at words pair (512 * slot + place) fit (omega arith)
    ∙ ap (λ s. slice_index words (in_slot pair s * 512 + (512 * slot + place) % 512)) d
    ∙ ap (λ p. slice_index words (in_slot pair slot * 512 + p)) m

pub slot_header : (words : List ℕ) (pair : Pair) (slot : ℕ) → Fit words pair → slot < 2 → word_at (shown_words words pair) slot 0 ≡ header words (in_slot pair slot)
slot_header words pair slot fit two = slot_word words pair slot 0 fit two (omega arith) ∙ ap (λ k. slice_index words k) (omega arith)

-- the summary after the words of a bank is that after the same words in another
word_moved : (unit at at' word : ℕ) (before before' : Result Summary ℕ) (t : Summary) → ((s : Summary) → before ≡ Ok s → before' ≡ Ok s) → after_word unit at word before ≡ Ok t → after_word unit at' word before' ≡ Ok t
word_moved unit at at' word (Err e) before' t same h = cc
word_moved unit at at' word (Ok s) before' t same h = rw (same s refl) (moved (is_railed word) (after_number unit s (number_in word)) h)
  where
    moved : (railed_is : Bool) (next : Option Summary) → (if railed_is then ok_or next at else Ok s) ≡ Ok t → (if railed_is then ok_or next at' else Ok s) ≡ Ok t
    moved true (Some n) q = q
    moved true None q = cc
    moved false next q = q

summary_moved : (ws vs : List ℕ) (b b' unit : ℕ) (s t : Summary) (n : ℕ) → ((k : ℕ) → k < n → word_at vs b' (12 + k) ≡ word_at ws b (12 + k)) → summary_after ws b unit s n ≡ Ok t → summary_after vs b' unit s n ≡ Ok t
summary_moved ws vs b b' unit s t zero same h = summary_none vs b' unit s ∙ sym (summary_none ws b unit s) ∙ h
summary_moved ws vs b b' unit s t (suc n) same h =
    let step = summary_step ws b unit s n in
    let step' = summary_step vs b' unit s n in
    let w = same n (omega arith) in
    let old : after_word unit (512 * b + (12 + n)) (word_at ws b (12 + n)) (summary_after ws b unit s n) ≡ Ok t = sym step ∙ ap (λ k. summary_after ws b unit s k) (omega arith) ∙ h in
    let new = word_moved unit (512 * b + (12 + n)) (512 * b' + (12 + n)) (word_at ws b (12 + n)) (summary_after ws b unit s n) (summary_after vs b' unit s n) t
    (λ u e. summary_moved ws vs b b' unit s u n (λ k l. same k (omega arith)) e) old in
    ap (λ k. summary_after vs b' unit s k) (let e : suc n ≡ n + 1 = omega arith in e) ∙ step' ∙ rw w new

used_moved : (ws vs : List ℕ) (b b' n : ℕ) → ((k : ℕ) → k < n → word_at vs b' (12 + k) ≡ word_at ws b (12 + k)) → used vs b' n ≡ used ws b n
used_moved ws vs b b' zero same = used_none vs b' ∙ sym (used_none ws b)
used_moved ws vs b b' (suc n) same =
    let w = same n (omega arith) in
    let before = used_moved ws vs b b' n (λ k l. same k (omega arith)) in
    ap (λ k. used vs b' k) (let e : suc n ≡ n + 1 = omega arith in e) ∙ used_step vs b' n
    ∙ rw (w, before) (sym (used_step ws b n) ∙ ap (λ k. used ws b k) (let e : n + 1 ≡ suc n = omega arith in e))

-- a led media starts with the bank that leads, shown as bank 0
module _ (banks : ℕ) (words : List ℕ) (bank number : ℕ) (led : IsLed banks words bank number) where
  no_bad : least (is_bad (header words)) banks ≡ None
  no_bad = least_of_none (is_bad (header words)) banks (λ b l. rw (led.sound b l) refl)

  not_twin : (a b : ℕ) → a < banks → b < banks → is_twin (header words) a b ≡ false
  not_twin a b la lb =
      ⊎_elim
      (λ (e : a ≡ b). let t : (a == b) ≡ true = grind (arith, nat_tests) in rw t refl)
      (λ (ne : a ≡ b → ⊥). let t : (a == b) ≡ false = grind (arith, nat_tests) in
      ⊎_elim
      (λ (r : is_railed (header words a) ≡ true). ⊎_elim
      (λ (q : is_railed (header words b) ≡ true).
      let d = led.alone a b la lb ne r q in
      let f : (number_in (header words a) == number_in (header words b)) ≡ false = grind (arith, nat_tests) in
      rw (t, r, q, f) refl)
      (λ (q : is_railed (header words b) ≡ false). rw (t, r, q) refl)
      (cases_Bool (is_railed (header words b))))
      (λ (r : is_railed (header words a) ≡ false). rw (t, r) refl)
      (cases_Bool (is_railed (header words a))))
      (cases_eq a b)

  no_twin : least (has_twin (header words) banks) banks ≡ None
  no_twin = least_of_none (has_twin (header words) banks) banks (λ a l. ap is_some (least_of_none (is_twin (header words) a) banks (λ b m. not_twin a b l m)))

  not_passed : (b : ℕ) → b < banks → is_passed (header words) bank b ≡ false
  not_passed b l =
      let n = led.number_is in
      ⊎_elim
      (λ (e : b ≡ bank). let t : nat_lt (number_in (header words bank)) (number_in (header words b)) ≡ false = subst (λ (k : ℕ). nat_lt (number_in (header words bank)) (number_in (header words k)) ≡ false) (sym e) (grind (arith, nat_tests)) in
      ⊎_elim (λ (r : is_railed (header words b) ≡ true). rw (r, t) refl) (λ (r : is_railed (header words b) ≡ false). rw r refl) (cases_Bool (is_railed (header words b))))
      (λ (ne : b ≡ bank → ⊥).
      ⊎_elim
      (λ (r : is_railed (header words b) ≡ true).
      let d = led.behind b l ne r in
      let t : nat_lt (number_in (header words bank)) (number_in (header words b)) ≡ false = grind (arith, nat_tests) in
      rw (r, t) refl)
      (λ (r : is_railed (header words b) ≡ false). rw r refl)
      (cases_Bool (is_railed (header words b))))
      (cases_eq b bank)

  -- another railed bank is passed by the one that leads
  some_passed : (b : ℕ) → b < banks → b ≢ bank → is_railed (header words b) ≡ true → (found : Option ℕ) → least (is_passed (header words) b) banks ≡ found → is_some found ≡ true
  some_passed b l ne r (Some o) e = refl
  some_passed b l ne r None e =
      let n = led.number_is in
      let d = led.behind b l ne r in
      let p = led.railed_is in
      let t : nat_lt (number_in (header words b)) (number_in (header words bank)) ≡ true = grind (arith, nat_tests) in
      let yes : is_passed (header words) b bank ≡ true = rw (p, t) refl in
      let no = least_says_none (is_passed (header words) b) banks e bank led.within in
      absurd (let q : true ≡ false = sym yes ∙ no in cc)

  newest_is : least (is_newest (header words) banks) banks ≡ Some bank
  newest_is = least_of_some (is_newest (header words) banks) banks bank (record {
    below = led.within;
    passes = (let r = led.railed_is in let p = least_of_none (is_passed (header words) bank) banks not_passed in rw (r, p) refl);
    first = λ m l. ⊎_elim
        (λ (r : is_railed (header words m) ≡ true).
        let p = some_passed m (let w = led.within in omega arith) (λ e. omega arith) r (least (is_passed (header words) m) banks) refl in
        rw (r, p) refl)
        (λ (r : is_railed (header words m) ≡ false). rw r refl)
        (cases_Bool (is_railed (header words m)));
  })

  pub led_start : start_pair (header words) banks ≡ pair_of bank (previous_bank banks bank)
  led_start = start_newest (header words) banks (Some bank) (sym no_bad) (sym no_twin) (sym newest_is)

-- and so the device is the one that was shown
module _ (banks : ℕ) (words : List ℕ) (pair : Pair) (j : JournalView) (two : 2 ≤ banks) (are : AreMediaWords banks words) (in_range : IsPair banks pair)
    (holds : BanksHold (shown_words words pair) j) (led : IsLed banks words (in_slot pair j.bank) j.at.number) where
  fit : Fit words pair
  fit = fit_of banks words pair are in_range

  now : Pair
  now = pair_of (in_slot pair j.bank) (previous_bank banks (in_slot pair j.bank))

  now_range : IsPair banks now
  unfolding now
  now_range =
      let r = previous_range banks (in_slot pair j.bank) two led.within in
      record { first = led.within; second = r.0; differ = λ e. r.1 (sym e) }

  fit_now : Fit words now
  fit_now = fit_of banks words now are now_range

  moved : (place : ℕ) → place < 512 → word_at (shown_words words now) 0 place ≡ word_at (shown_words words pair) j.bank place
  unfolding now
  moved place l = slot_word words now 0 place fit_now (omega arith) l ∙ sym (slot_word words pair j.bank place fit holds.ranges.bank l)

  other_header : word_at (shown_words words now) 1 0 ≡ header words (previous_bank banks (in_slot pair j.bank))
  unfolding now
  other_header = slot_header words now 1 fit_now (omega arith)

  holds_now : BanksHold (shown_words words now) (in_first j)
  holds_now =
      let r = previous_range banks (in_slot pair j.bank) two led.within in
      record {
        start = holds.start;
        whole = shown_whole banks words now are now_range;
        ranges = record {
          bank = omega arith;
          first = holds.ranges.first;
          last = holds.ranges.last;
          behind_head = holds.ranges.behind_head;
          within = holds.ranges.within;
          key = holds.ranges.key;
          config = holds.ranges.config;
          summary = holds.ranges.summary;
        };
        start_is = holds.start_is;
        head = λ p l. moved p (omega arith) ∙ holds.head p l;
        other = subst (λ w. IsBehind w j.at.number) (sym other_header) (record { sound = led.sound _ r.0; older = λ q. led.behind _ r.0 r.1 q });
        entries = summary_moved (shown_words words pair) (shown_words words now) j.bank 0 (unit_of j.config.divider) holds.start j.summary 500 (λ k l. moved (12 + k) (omega arith)) holds.entries;
        place = ap (λ x. 12 + x) (used_moved (shown_words words pair) (shown_words words now) j.bank 0 500 (λ k l. moved (12 + k) (omega arith))) ∙ holds.place;
      }

  pub led_restart : recover (shown_words words (start_pair (header words) banks)) ≡ Made (in_first j)
  unfolding now
  led_restart = ap (λ p. recover (shown_words words p)) (led_start banks words (in_slot pair j.bank) j.at.number led) ∙ holds_made (shown_words words now) (in_first j) holds_now

-- an orderly media whose words shown stand for a device is led by its bank
module _ (banks : ℕ) (words : List ℕ) (pair : Pair) (j : JournalView) (are : AreMediaWords banks words) (in_range : IsPair banks pair)
    (orderly : IsOrderly banks (header words) pair) (holds : BanksHold (shown_words words pair) j) where
  own : header words (in_slot pair j.bank) ≡ railed j.at.number
  own = sym (slot_header words pair j.bank (fit_of banks words pair are in_range) holds.ranges.bank) ∙ holds.head 0 (omega arith)

  own_number : (is_railed (header words (in_slot pair j.bank)) ≡ true) × (number_in (header words (in_slot pair j.bank)) ≡ j.at.number)
  own_number = let n = holds.ranges.last in let r = railed_number j.at.number (omega arith) in rw own r

  other_behind : IsBehind (header words (in_slot pair (1 - j.bank))) j.at.number
  other_behind = subst (λ w. IsBehind w j.at.number) (slot_header words pair (1 - j.bank) (fit_of banks words pair are in_range) (omega arith)) holds.other

  -- a bank shown has no greater number
  shown_behind : (slot : ℕ) → slot < 2 → is_railed (header words (in_slot pair slot)) ≡ true → number_in (header words (in_slot pair slot)) ≤ j.at.number
  shown_behind slot two r =
      let b = holds.ranges.bank in
      ⊎_elim
      (λ (e : slot ≡ j.bank). let n = own_number.1 in subst (λ s. number_in (header words (in_slot pair s)) ≤ j.at.number) (sym e) (omega (arith, n)))
      (λ (ne : slot ≡ j.bank → ⊥).
      let e : slot ≡ 1 - j.bank = omega (arith, ne) in
      let q = other_behind.older (subst (λ s. is_railed (header words (in_slot pair s)) ≡ true) e r) in
      subst (λ s. number_in (header words (in_slot pair s)) ≤ j.at.number) (sym e) (omega (arith, q)))
      (cases_eq slot j.bank)

  is_shown : (bank : ℕ) → (bank ≡ pair.first) ⊎ (bank ≡ pair.second) → bank ≢ in_slot pair j.bank → bank ≡ in_slot pair (1 - j.bank)
  is_shown bank (inl e) ne =
      ⊎_elim
      (λ (z : j.bank ≡ 0). absurd (ne (e ∙ rw z refl)))
      (λ (z : j.bank ≡ 0 → ⊥). let b = holds.ranges.bank in let o : j.bank ≡ 1 = omega (arith, z) in e ∙ rw o refl)
      (cases_eq j.bank 0)
  is_shown bank (inr e) ne =
      ⊎_elim
      (λ (z : j.bank ≡ 0). e ∙ rw z refl)
      (λ (z : j.bank ≡ 0 → ⊥). let b = holds.ranges.bank in let o : j.bank ≡ 1 = omega (arith, z) in absurd (ne (e ∙ rw o refl)))
      (cases_eq j.bank 0)

  shown_or_not : (bank : ℕ) → ((bank ≡ pair.first) ⊎ (bank ≡ pair.second)) ⊎ ((bank ≢ pair.first) × (bank ≢ pair.second))
  shown_or_not bank =
      ⊎_elim (λ (e : bank ≡ pair.first). inl (inl e))
      (λ (ne : bank ≡ pair.first → ⊥). ⊎_elim (λ (e : bank ≡ pair.second). inl (inr e)) (λ (n : bank ≡ pair.second → ⊥). inr (ne, n)) (cases_eq bank pair.second))
      (cases_eq bank pair.first)

  behind_at : (b : ℕ) → b < banks → b ≢ in_slot pair j.bank → is_railed (header words b) ≡ true → ((b ≡ pair.first) ⊎ (b ≡ pair.second)) ⊎ ((b ≢ pair.first) × (b ≢ pair.second)) → number_in (header words b) < j.at.number
  behind_at b l ne r (inl shown) =
      let e = is_shown b shown ne in
      subst (λ k. number_in (header words k) < j.at.number) (sym e) (other_behind.older (subst (λ k. is_railed (header words k) ≡ true) e r))
  behind_at b l ne r (inr hid) =
      let h = orderly.hidden b l hid.0 hid.1 r in
      let s = shown_behind h.slot h.two h.railed_is in
      let a = h.above in
      omega (arith, s, a)

  pub orderly_led : IsLed banks words (in_slot pair j.bank) j.at.number
  orderly_led = record {
    within = slot_range banks pair j.bank in_range;
    railed_is = own_number.0;
    number_is = own_number.1;
    sound = orderly.sound;
    behind = λ b l ne r. behind_at b l ne r (shown_or_not b);
    alone = orderly.alone;
  }

-- the law
pub orderly_restart : (banks : ℕ) (words : List ℕ) (pair : Pair) (j : JournalView) → 2 ≤ banks → AreMediaWords banks words → IsPair banks pair → IsOrderly banks (header words) pair
    → recover (shown_words words pair) ≡ Made j → recover (shown_words words (start_pair (header words) banks)) ≡ Made (in_first j)
orderly_restart banks words pair j two are in_range orderly made =
    let holds = made_holds (shown_words words pair) j (shown_whole banks words pair are in_range) made in
    led_restart banks words pair j two are in_range holds (orderly_led banks words pair j are in_range orderly holds)

-- the same for what is seen of a ring that starts on this media
pub restart_told : (media : MediaView) (kept : Option Pair) (words : List ℕ) (pair : Pair) (j : JournalView) → IsMedia media → IfSome kept (IsPair media.banks) → kept ≡ Some pair → media.words ≡ Some words
    → IsOrderly media.banks (header words) pair → recover (shown_words words pair) ≡ Made j → IsSomeAnd (flash_view media None).words (λ shown. recover shown ≡ Made (in_first j))
restart_told media kept words pair j is in_range e told orderly made =
    let are : AreMediaWords media.banks words = subst (λ o. IfSome o (AreMediaWords media.banks)) told is.words in
    let range : IsPair media.banks pair = subst (λ k. IfSome k (IsPair media.banks)) e in_range in
    subst (λ o. IsSomeAnd (option_map (λ ws. shown_words ws (start_pair (header ws) media.banks)) o) (λ shown. recover shown ≡ Made (in_first j))) (sym told)
    (orderly_restart media.banks words pair j is.least are range orderly made)
