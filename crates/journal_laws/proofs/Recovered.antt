-- What recovery finds is what the banks hold.
use Rattle.std.proofs.Common.{◌≡◌, ℕ, true, false, ◌+◌, ◌-◌, ◌*◌, ◌%◌, ◌^◌, ◌<◌, ◌≤◌, nat_lt, List, nat_le, Option, Some, None, Result, Ok, Err, refl, arith, sym, ◌∙◌, ap, subst, ⊎_elim}
use Rattle.std.proofs.lemmas.Bool.{and_right, cases_Bool, cases_eq}
use Rattle.std.proofs.lemmas.Bool.Decides.{nat_tests}
use Rattle.paygo_spec.specs.declared.Config.{Config}
use Rattle.paygo_spec.specs.Flash.{AreWords}
use Rattle.paygo_spec.specs.Rail.{railed, is_railed, is_paired, number_in}
use Rattle.paygo_spec.specs.Least.{least}
use Rattle.paygo_spec.specs.History.{Summary}
use Rattle.paygo_spec.specs.Clock.{unit_of}
use Rattle.paygo_spec.specs.Layout.{head_number, last_bank}
use Rattle.paygo_spec.specs.Recovery.{JournalView, Unmade, Made, word_at, number_at, is_header, newest_bank, keeps_rule, config_in_head, summary_in_head, is_damaged, summary_after, used, by_entries, by_head, by_bank, by_headers, recover}
use Rattle.word_rail.proofs.Bits.{railed_is, railed_is_paired, railed_number, paired_is}
use Rattle.paygo_spec.proofs.Leasts.{least_says_none, least_of_none}
use Rattle.journal_laws.specs.Banks.{IsBehind, BanksHold, BanksHoldNone}
use Rattle.journal_laws.proofs.Words.{railed_number as railed_back}
use Rattle.journal_laws.proofs.HeadRead.{IsHead, head_says, head_key, head_config, head_summary}
use Rattle.journal_laws.proofs.HeadWritten.{IsWrittenHead, head_fits, head_rules, config_back, summary_back, config_same, summary_same, rules_same}
use Rattle.journal_laws.proofs.Headers.{IsAhead, newest_first, newest_second, newest_none, Chosen, ByFirst, BySecond, ByNone, ByDamage, chosen, header_number}
use Rattle.journal_laws.proofs.Kept.{unit_fits, summary_keeps, used_within}

-- the word in which a number stands
pub stands_in : (word x : ℕ) → x < 2 ^ 32 → word ≡ railed x → (is_railed word ≡ true) × (number_in word ≡ x)
stands_in word x h e = subst (λ w. (is_railed w ≡ true) × (number_in w ≡ x)) (sym e) (railed_back x h)

-- the bank in use, by the headers
pub record IsNewest (words : List ℕ) (bank : ℕ) : Type 0 where
  pub within : bank < 2
  pub ahead : IsAhead (word_at words bank 0) (word_at words (1 - bank) 0)

pub newest_is : (words : List ℕ) (bank : ℕ) → IsNewest words bank → newest_bank (word_at words 0 0) (word_at words 1 0) ≡ Ok (Some bank)
newest_is words bank n =
    ⊎_elim
    (λ (z : bank ≡ 0). subst (λ k. IsNewest words k → newest_bank (word_at words 0 0) (word_at words 1 0) ≡ Ok (Some k)) (sym z) (λ m. newest_first _ _ m.ahead) n)
    (λ (z : bank ≡ 0 → ⊥).
    let w : bank < 2 = n.within in
    let o : bank ≡ 1 = omega arith in
    subst (λ k. IsNewest words k → newest_bank (word_at words 0 0) (word_at words 1 0) ≡ Ok (Some k)) (sym o) (λ m. newest_second _ _ m.ahead) n)
    (cases_eq bank 0)

newest_of : (words : List ℕ) (bank : ℕ) (answer : Result (Option ℕ) ℕ) → Chosen (word_at words 0 0) (word_at words 1 0) answer → answer ≡ Ok (Some bank) → IsNewest words bank
newest_of words bank (_) (ByFirst a) e = let z : 0 ≡ bank = cc in subst (IsNewest words) z (record { within = omega arith; ahead = a })
newest_of words bank (_) (BySecond a) e = let z : 1 ≡ bank = cc in subst (IsNewest words) z (record { within = omega arith; ahead = a })
newest_of words bank (_) (ByNone a b) e = cc
newest_of words bank (_) (ByDamage place) e = cc

pub is_newest : (words : List ℕ) (bank : ℕ) → newest_bank (word_at words 0 0) (word_at words 1 0) ≡ Ok (Some bank) → IsNewest words bank
is_newest words bank e = newest_of words bank _ (chosen (word_at words 0 0) (word_at words 1 0)) e

-- no bank is in use
none_of : (words : List ℕ) (answer : Result (Option ℕ) ℕ) → AreWords words → Chosen (word_at words 0 0) (word_at words 1 0) answer → answer ≡ Ok None → BanksHoldNone words
none_of words (_) whole (ByFirst a) e = cc
none_of words (_) whole (BySecond a) e = cc
none_of words (_) whole (ByNone a b) e = record { whole = whole; first = a; second = b }
none_of words (_) whole (ByDamage place) e = cc

pub headers_quiet : (words : List ℕ) → AreWords words → newest_bank (word_at words 0 0) (word_at words 1 0) ≡ Ok None → BanksHoldNone words
headers_quiet words whole e = none_of words _ whole (chosen (word_at words 0 0) (word_at words 1 0)) e

pub none_unmade : (words : List ℕ) → BanksHoldNone words → recover words ≡ Unmade
unfolding recover
none_unmade words h = ap (by_headers words) (newest_none (word_at words 0 0) (word_at words 1 0) h.first h.second)

-- a bank isn't read as no device
entries_unmade : (words : List ℕ) (bank : ℕ) (answer : Result Summary ℕ) → by_entries words bank answer ≡ Unmade → ⊥
entries_unmade words bank (Ok summary) e = cc
entries_unmade words bank (Err damaged) e = cc

pub bank_unmade : (words : List ℕ) (bank : ℕ) (damaged : Option ℕ) → by_head words bank damaged ≡ Unmade → ⊥
bank_unmade words bank None e = entries_unmade words bank _ e
bank_unmade words bank (Some place) e = cc

pub headers_unmade : (words : List ℕ) (answer : Result (Option ℕ) ℕ) → by_headers words answer ≡ Unmade → answer ≡ Ok None
headers_unmade words (Err damaged) e = cc
headers_unmade words (Ok None) e = refl
headers_unmade words (Ok (Some bank)) e = absurd (bank_unmade words bank _ e)

pub unmade_none : (words : List ℕ) → AreWords words → recover words ≡ Unmade → BanksHoldNone words
unfolding recover
unmade_none words whole e = headers_quiet words whole (headers_unmade words _ e)

-- what is found of a device that was made
headers_made : (words : List ℕ) (journal : JournalView) (answer : Result (Option ℕ) ℕ) → by_headers words answer ≡ Made journal → (bank : ℕ) × (answer ≡ Ok (Some bank)) × (by_bank words bank ≡ Made journal)
headers_made words journal (Err damaged) e = cc
headers_made words journal (Ok None) e = cc
headers_made words journal (Ok (Some bank)) e = (bank, refl, e)

abbrev summary_of_bank : List ℕ → ℕ → Result Summary ℕ
summary_of_bank words bank = summary_after words bank (unit_of (number_at words bank 6 % 2 ^ 8)) (summary_in_head (number_at words bank)) 500

head_made : (words : List ℕ) (bank : ℕ) (journal : JournalView) (damaged : Option ℕ) → by_head words bank damaged ≡ Made journal → (damaged ≡ None) × (by_entries words bank (summary_of_bank words bank) ≡ Made journal)
head_made words bank journal None e = (refl, e)
head_made words bank journal (Some place) e = cc

abbrev journal_in : List ℕ → ℕ → Summary → JournalView
journal_in words bank summary =
    record {
      bank = bank;
      at = record { number = number_at words bank 0; place = 12 + used words bank 500 };
      config = config_in_head (number_at words bank);
      summary = summary;
    }

entries_made : (words : List ℕ) (bank : ℕ) (journal : JournalView) (answer : Result Summary ℕ) → by_entries words bank answer ≡ Made journal → (summary : Summary) × (answer ≡ Ok summary) × (journal_in words bank summary ≡ journal)
entries_made words bank journal (Err damaged) e = cc
entries_made words bank journal (Ok summary) e = (summary, refl, cc)

undamaged : (words : List ℕ) (bank place : ℕ) → 1 ≤ place → is_damaged words bank place ≡ false → (is_railed (word_at words bank place) ≡ true) × (keeps_rule (number_at words bank) place ≡ true)
undamaged words bank place l h =
    let inside : nat_lt 0 place ≡ true = grind (arith, nat_tests) in
    ⊎_elim
    (λ (r : is_railed (word_at words bank place) ≡ true). ⊎_elim
    (λ (k : keeps_rule (number_at words bank) place ≡ true). (r, k))
    (λ (k : keeps_rule (number_at words bank) place ≡ false). let e : true ≡ false = rw (inside, r, k) at h in cc)
    (cases_Bool (keeps_rule (number_at words bank) place)))
    (λ (r : is_railed (word_at words bank place) ≡ false). let e : true ≡ false = rw (inside, r) at h in cc)
    (cases_Bool (is_railed (word_at words bank place)))

number_small : (words : List ℕ) (bank place : ℕ) → AreWords words → number_at words bank place < 2 ^ 32
number_small words bank place whole =
    let small : word_at words bank place < 2 ^ 64 = whole.each (512 * bank + place) in
    omega arith

-- a bank that is in use and has no damage
pub record IsSound (words : List ℕ) (bank : ℕ) : Type 0 where
  pub whole : AreWords words
  pub newest : IsNewest words bank
  pub head : least (is_damaged words bank) 12 ≡ None

sound_place : (words : List ℕ) (bank place : ℕ) → IsSound words bank → 1 ≤ place → place < 12 → (is_railed (word_at words bank place) ≡ true) × (keeps_rule (number_at words bank) place ≡ true)
sound_place words bank place h l b = undamaged words bank place l (least_says_none (is_damaged words bank) 12 h.head place b)

sound_head : (words : List ℕ) (bank : ℕ) → IsSound words bank → IsHead (number_at words bank)
sound_head words bank h = record {
  fits = λ place. number_small words bank place h.whole;
  rule = record { each = λ place l b. (sound_place words bank place h l b).1 };
}

sound_railed : (words : List ℕ) (bank place : ℕ) → IsSound words bank → place < 12 → is_railed (word_at words bank place) ≡ true
sound_railed words bank place h b =
    ⊎_elim
    (λ (z : place ≡ 0). subst (λ p. is_railed (word_at words bank p) ≡ true) (sym z) h.newest.ahead.railed)
    (λ (z : place ≡ 0 → ⊥). (sound_place words bank place h (omega arith) b).0)
    (cases_eq place 0)

sound_word : (words : List ℕ) (bank place : ℕ) → IsSound words bank → place < 12 → word_at words bank place ≡ railed (number_at words bank place)
sound_word words bank place h b = railed_number (word_at words bank place) (h.whole.each (512 * bank + place)) (sound_railed words bank place h b)

pub bank_holds : (words : List ℕ) (bank : ℕ) (summary : Summary) → IsSound words bank → summary_of_bank words bank ≡ Ok summary → BanksHold words (journal_in words bank summary)
bank_holds words bank summary h e =
    let numbers : ℕ → ℕ = number_at words bank in
    let head = sound_head words bank h in
    let start = head_summary numbers head.rule in
    let range = header_number (word_at words bank 0) h.newest.ahead.sound h.newest.ahead.railed in
    let most : used words bank 500 ≤ 500 = used_within words bank 500 in
    record {
      start = summary_in_head numbers;
      whole = h.whole;
      ranges = record {
        bank = h.newest.within;
        first = range.0;
        last = range.1;
        behind_head = omega arith;
        within = omega arith;
        key = head_key numbers;
        config = head_config numbers head.rule;
        summary = summary_keeps words bank (unit_of (numbers 6 % 2 ^ 8)) (summary_in_head numbers) 500 (unit_fits (numbers 6 % 2 ^ 8)) start summary e;
      };
      start_is = start;
      head = λ place b. sound_word words bank place h b ∙ ap railed (sym (head_says numbers head place b));
      other = h.newest.ahead.behind;
      entries = e;
      place = refl;
    }

pub made_holds : (words : List ℕ) (journal : JournalView) → AreWords words → recover words ≡ Made journal → BanksHold words journal
unfolding recover
made_holds words journal whole e =
    let headers = headers_made words journal (newest_bank (word_at words 0 0) (word_at words 1 0)) e in
    let head = head_made words headers.0 journal (least (is_damaged words headers.0) 12) headers.2 in
    let entries = entries_made words headers.0 journal (summary_of_bank words headers.0) head.1 in
    let sound : IsSound words headers.0 = record { whole = whole; newest = is_newest words headers.0 headers.1; head = head.0 } in
    subst (BanksHold words) entries.2 (bank_holds words headers.0 entries.0 sound entries.1)

-- a head that was written is read back
abbrev written : JournalView → Summary → ℕ → ℕ
written journal start = head_number journal.at.number journal.config start

is_written : (words : List ℕ) (journal : JournalView) (h : BanksHold words journal) → IsWrittenHead journal.at.number journal.config h.start
is_written words journal h = record { counted = h.ranges.last; key = h.ranges.key; made = h.ranges.config; begins = h.start_is }

place_back : (words : List ℕ) (journal : JournalView) (h : BanksHold words journal) (place : ℕ) → place < 12 → (is_railed (word_at words journal.bank place) ≡ true) × (number_at words journal.bank place ≡ written journal h.start place)
place_back words journal h place b =
    stands_in (word_at words journal.bank place) (written journal h.start place) (head_fits journal.at.number journal.config h.start (is_written words journal h) place b) (h.head place b)

header_sound : (word number : ℕ) → word < 2 ^ 64 → is_railed word ≡ true → number_in word ≡ number → 1 ≤ number → number ≤ last_bank → is_header word ≡ true
header_sound word number small r e l g =
    let paired : is_paired word ≡ true = (paired_is word small).1 (railed_is_paired word small ((railed_is word).0 r)) in
    let first : nat_le 1 (number_in word) ≡ true = grind (arith, nat_tests) in
    let last : nat_le (number_in word) last_bank ≡ true = grind (arith, nat_tests) in
    rw (paired, r, first, last) refl

holds_newest : (words : List ℕ) (journal : JournalView) → BanksHold words journal → IsNewest words journal.bank
holds_newest words journal h =
    let p = place_back words journal h 0 (omega arith) in
    record {
      within = h.ranges.bank;
      ahead = record {
        sound = header_sound (word_at words journal.bank 0) journal.at.number (h.whole.each (512 * journal.bank + 0)) p.0 p.1 h.ranges.first h.ranges.last;
        railed = p.0;
        behind = subst (IsBehind (word_at words (1 - journal.bank) 0)) (sym p.1) h.other;
      };
    }

place_undamaged : (words : List ℕ) (journal : JournalView) → BanksHold words journal → (place : ℕ) → place < 12 → is_damaged words journal.bank place ≡ false
place_undamaged words journal h place b =
    let p = place_back words journal h place b in
    let rule : keeps_rule (number_at words journal.bank) place ≡ true =
    rules_same (number_at words journal.bank) (written journal h.start) (λ k _ l. (place_back words journal h k l).1) place ∙ head_rules journal.at.number journal.config h.start (is_written words journal h) place b in
    rw (p.0, rule) (and_right (nat_lt 0 place) false refl)

config_read : (words : List ℕ) (journal : JournalView) → BanksHold words journal → config_in_head (number_at words journal.bank) ≡ journal.config
config_read words journal h =
    config_same (number_at words journal.bank) (written journal h.start) (λ k _ l. (place_back words journal h k l).1)
    ∙ config_back journal.at.number journal.config h.start (is_written words journal h)

start_read : (words : List ℕ) (journal : JournalView) (h : BanksHold words journal) → summary_in_head (number_at words journal.bank) ≡ h.start
start_read words journal h =
    summary_same (number_at words journal.bank) (written journal h.start) (λ k _ l. (place_back words journal h k l).1)
    ∙ summary_back journal.at.number journal.config h.start (is_written words journal h)

summary_read : (words : List ℕ) (journal : JournalView) → BanksHold words journal → summary_of_bank words journal.bank ≡ Ok journal.summary
summary_read words journal h =
    ap (λ config. summary_after words journal.bank (unit_of config.divider) (summary_in_head (number_at words journal.bank)) 500) (config_read words journal h)
    ∙ ap (λ start. summary_after words journal.bank (unit_of journal.config.divider) start 500) (start_read words journal h)
    ∙ h.entries

abbrev pub journal_with : ℕ → ℕ → ℕ → Config → Summary → JournalView
journal_with bank number place config summary =
    record { bank = bank; at = record { number = number; place = place }; config = config; summary = summary }

journal_read : (words : List ℕ) (journal : JournalView) → BanksHold words journal → journal_in words journal.bank journal.summary ≡ journal
journal_read words journal h =
    ap (λ x. journal_with journal.bank x (12 + used words journal.bank 500) (config_in_head (number_at words journal.bank)) journal.summary) (place_back words journal h 0 (omega arith)).1
    ∙ ap (λ x. journal_with journal.bank journal.at.number x (config_in_head (number_at words journal.bank)) journal.summary) h.place
    ∙ ap (λ x. journal_with journal.bank journal.at.number journal.at.place x journal.summary) (config_read words journal h)

pub holds_made : (words : List ℕ) (journal : JournalView) → BanksHold words journal → recover words ≡ Made journal
unfolding recover
holds_made words journal h =
    ap (by_headers words) (newest_is words journal.bank (holds_newest words journal h))
    ∙ ap (by_head words journal.bank) (least_of_none (is_damaged words journal.bank) 12 (place_undamaged words journal h))
    ∙ ap (by_entries words journal.bank) (summary_read words journal h)
    ∙ ap Made (journal_read words journal h)
