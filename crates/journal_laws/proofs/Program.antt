-- The word of an entry is programmed at the next place, whole or torn.
use Rattle.std.proofs.Common.{◌≡◌, ◌≢◌, ℕ, true, false, ◌+◌, ◌-◌, ◌*◌, ◌^◌, ◌<◌, ◌≤◌, ◌==◌, ◌⊎◌, inl, inr, if◌then◌else◌, List, [], ◌∷◌, length, Ok, Some, refl, arith, sym, ◌∙◌, ap, subst, ⊎_elim, get_or-set_other, get_or-set_same}
use Rattle.std.specs.Prelude.{slice_set}
use Rattle.std.proofs.Math.Nat.{div-le_self}
use Rattle.std.proofs.lemmas.Bool.{cases_eq, cases_Bool}
use Rattle.std.proofs.lemmas.Bool.Decides.{nat_tests}
use Rattle.paygo_spec.specs.declared.Entry.{Entry}
use Rattle.paygo_spec.specs.Flash.{AreWords, HasOnesOf, erased_word}
use Rattle.paygo_spec.specs.Rail.{railed, is_railed, number_in}
use Rattle.paygo_spec.specs.History.{Summary, IsLimit}
use Rattle.paygo_spec.specs.Clock.{unit_of}
use Rattle.paygo_spec.specs.Lawful.{IsSummary, follows}
use Rattle.paygo_spec.specs.Snapshot.{snapshot}
use Rattle.paygo_spec.specs.EntryNumber.{number_of, after_entry, after_number}
use Rattle.paygo_spec.specs.Recovery.{JournalView, word_at, after_word, summary_after, used}
use Rattle.paygo_spec.proofs.Entries.{follows_is, may_has_number, number_fits, read_back}
use Rattle.paygo_spec.proofs.Snapshots.{snapshot_keeps}
use Rattle.word_rail.proofs.Bits.{railed_if_same}
use Rattle.journal_laws.specs.Journal.{summary_with}
use Rattle.journal_laws.specs.Banks.{BanksHold, IsBehind, IsJournal}
use Rattle.journal_laws.proofs.Words.{words_set, railed_number, railed_fits, railed_paired}
use Rattle.journal_laws.proofs.Entries.{summary_step, used_step, summary_same, used_same}
use Rattle.journal_laws.proofs.Erased.{summary_tail, used_tail, erased_above}

-- a journal at another place of its bank, with another summary
abbrev pub in_place : JournalView → Summary → ℕ → JournalView
in_place journal summary place = record { bank = journal.bank; at = record { number = journal.at.number; place = place }; config = journal.config; summary = summary }

-- the place of the next entry is erased
pub next_place : (ws : List ℕ) (j : JournalView) → BanksHold ws j → j.at.place < 512 → word_at ws j.bank j.at.place ≡ erased_word
next_place ws j h free =
    let p : 12 + used ws j.bank 500 ≡ j.at.place = h.place in
    subst (λ q. word_at ws j.bank q ≡ erased_word) p (erased_above ws j.bank 500 (used ws j.bank 500) (omega arith) (omega arith))

-- one word more behind the last one that isn't erased
module _ (ws : List ℕ) (bank unit : ℕ) (s : Summary) (n t : ℕ) (few : n < 500) (are : AreWords ws) (two : bank < 2) (u : used ws bank 500 ≡ n) where
  at_new : word_at (slice_set ws (512 * bank + (12 + n)) t) bank (12 + n) ≡ t
  at_new = let l : 512 * bank + (12 + n) < length ws = omega (arith, are.count) in get_or-set_same ws (512 * bank + (12 + n)) t 0 l

  pub elsewhere : (b p : ℕ) → 512 * b + p ≢ 512 * bank + (12 + n) → word_at (slice_set ws (512 * bank + (12 + n)) t) b p ≡ word_at ws b p
  elsewhere b p ne = get_or-set_other ws (512 * bank + (12 + n)) (512 * b + p) t 0 ne

  erased_old : (k : ℕ) → n ≤ k → k < 500 → word_at ws bank (12 + k) ≡ erased_word
  erased_old k h l = erased_above ws bank 500 k (omega arith) l

  erased_new : (k : ℕ) → n + 1 ≤ k → k < 500 → word_at (slice_set ws (512 * bank + (12 + n)) t) bank (12 + k) ≡ erased_word
  erased_new k h l = elsewhere bank (12 + k) (λ e. omega arith) ∙ erased_old k (omega arith) l

  before_new : (k : ℕ) → k < n → word_at (slice_set ws (512 * bank + (12 + n)) t) bank (12 + k) ≡ word_at ws bank (12 + k)
  before_new k l = elsewhere bank (12 + k) (λ e. omega arith)

  pub new_summary : summary_after (slice_set ws (512 * bank + (12 + n)) t) bank unit s 500 ≡ after_word unit (512 * bank + (12 + n)) t (summary_after ws bank unit s 500)
  new_summary =
      summary_tail (slice_set ws (512 * bank + (12 + n)) t) bank unit s (n + 1) 500 (omega arith) erased_new
      ∙ summary_step (slice_set ws (512 * bank + (12 + n)) t) bank unit s n
      ∙ ap (λ x. after_word unit (512 * bank + (12 + n)) x (summary_after (slice_set ws (512 * bank + (12 + n)) t) bank unit s n)) at_new
      ∙ ap (after_word unit (512 * bank + (12 + n)) t) (summary_same ws (slice_set ws (512 * bank + (12 + n)) t) bank unit s n before_new ∙ sym (summary_tail ws bank unit s n 500 (omega arith) erased_old))

  pub new_used : used (slice_set ws (512 * bank + (12 + n)) t) bank 500 ≡ (if t == erased_word then n else n + 1)
  new_used =
      used_tail (slice_set ws (512 * bank + (12 + n)) t) bank (n + 1) 500 (omega arith) erased_new
      ∙ used_step (slice_set ws (512 * bank + (12 + n)) t) bank n
      ∙ ap (λ x. if x == erased_word then used (slice_set ws (512 * bank + (12 + n)) t) bank n else n + 1) at_new
      ∙ ap (λ x. if t == erased_word then x else n + 1) (used_same ws (slice_set ws (512 * bank + (12 + n)) t) bank n before_new ∙ sym (used_tail ws bank n 500 (omega arith) erased_old) ∙ u)

-- a journal in range, at another place
pub ranges_in : (j : JournalView) (summary : Summary) (place : ℕ) → IsJournal j → IsSummary summary → 12 ≤ place → place ≤ 512 → IsJournal (in_place j summary place)
ranges_in j summary place r k low high =
    record { bank = r.bank; first = r.first; last = r.last; behind_head = low; within = high; key = r.key; config = r.config; summary = k }

-- the next place, where a word may be erased
next_in : (t n place : ℕ) → n < 500 → place ≡ (if t == erased_word then 12 + n else 12 + n + 1) → (12 ≤ place) × (place ≤ 512)
next_in t n place few z =
    ⊎_elim
    (λ (e : (t == erased_word) ≡ true). let y : place ≡ 12 + n = z ∙ rw e refl in (omega arith, omega arith))
    (λ (e : (t == erased_word) ≡ false). let y : place ≡ 12 + n + 1 = z ∙ rw e refl in (omega arith, omega arith))
    (cases_Bool (t == erased_word))

next_place_is : (t n place : ℕ) → place ≡ (if t == erased_word then 12 + n else 12 + n + 1) → 12 + (if t == erased_word then n else n + 1) ≡ place
next_place_is t n place z =
    ⊎_elim
    (λ (e : (t == erased_word) ≡ true). rw e (sym (z ∙ rw e refl)))
    (λ (e : (t == erased_word) ≡ false). let y : place ≡ 12 + n + 1 = z ∙ rw e refl in rw e (omega arith))
    (cases_Bool (t == erased_word))

-- the words with one word more in the bank hold the journal with what the word makes of it
built : (ws : List ℕ) (j : JournalView) (t : ℕ) (summary : Summary) (place : ℕ) → BanksHold ws j → j.at.place < 512 → t < 2 ^ 64
    → after_word (unit_of j.config.divider) (512 * j.bank + j.at.place) t (Ok j.summary) ≡ Ok summary
    → place ≡ (if t == erased_word then j.at.place else j.at.place + 1) → IsSummary summary
    → BanksHold (slice_set ws (512 * j.bank + j.at.place) t) (in_place j summary place)
built ws j t summary place h free fits a0 z0 keeps =
    subst
    (λ q. 12 ≤ q → q < 512 → after_word (unit_of j.config.divider) (512 * j.bank + q) t (Ok j.summary) ≡ Ok summary → place ≡ (if t == erased_word then q else q + 1) → BanksHold (slice_set ws (512 * j.bank + q) t) (in_place j summary place))
    h.place
    (λ low few a z.
    let n : ℕ = used ws j.bank 500 in
    let m : n < 500 = omega arith in
    let two : j.bank < 2 = h.ranges.bank in
    let old = elsewhere ws j.bank (unit_of j.config.divider) h.start n t m h.whole two refl in
    let range = next_in t n place m z in
    record {
      start = h.start;
      whole = words_set ws (512 * j.bank + (12 + n)) t h.whole fits;
      ranges = ranges_in j summary place h.ranges keeps range.0 range.1;
      start_is = h.start_is;
      head = λ p l. old j.bank p (λ e. omega arith) ∙ h.head p l;
      other = subst (λ x. IsBehind x j.at.number) (sym (old (1 - j.bank) 0 (λ e. omega arith))) h.other;
      entries =
          new_summary ws j.bank (unit_of j.config.divider) h.start n t m h.whole two refl
          ∙ ap (after_word (unit_of j.config.divider) (512 * j.bank + (12 + n)) t) h.entries
          ∙ a;
      place =
          ap (λ x. 12 + x) (new_used ws j.bank (unit_of j.config.divider) h.start n t m h.whole two refl)
          ∙ next_place_is t n place z;
    })
    h.ranges.behind_head free a0 z0

-- an entry that follows leads on by its number, and keeps the rules
pub entry_next : (unit : ℕ) (s : Summary) (e : Entry) → IsLimit s.limit → follows s e ≡ true → (after_number unit s (number_of e) ≡ Some (snapshot unit s (e ∷ []))) × (number_of e < 2 ^ 32)
entry_next unit s e l f =
    let k = (follows_is unit s e).0 f in
    let h = may_has_number unit s [] e l k.1 k.0 in
    (ap (after_entry unit s) (read_back e h) ∙ rw f refl, number_fits e h)

pub entry_keeps : (divider : ℕ) (s : Summary) (e : Entry) → IsSummary s → follows s e ≡ true → IsSummary (snapshot (unit_of divider) s (e ∷ []))
entry_keeps divider s e k f =
    snapshot_keeps (unit_of divider) s (e ∷ []) (div-le_self 86400 divider) (k, ((follows_is (unit_of divider) s e).0 f).0)

-- what a word makes of the summary
after_entry_word : (unit at w x : ℕ) (s more : Summary) → is_railed w ≡ true → number_in w ≡ x → after_number unit s x ≡ Some more → after_word unit at w (Ok s) ≡ Ok more
after_entry_word unit at w x s more r n e = rw (r, n, e) refl

after_torn_word : (unit at w : ℕ) (s : Summary) → is_railed w ≡ false → after_word unit at w (Ok s) ≡ Ok s
after_torn_word unit at w s r = rw r refl

-- the entry is programmed whole
pub added : (ws : List ℕ) (j : JournalView) (e : Entry) → BanksHold ws j → j.at.place < 512 → follows j.summary e ≡ true
    → BanksHold (slice_set ws (512 * j.bank + j.at.place) (railed (number_of e))) (in_place j (summary_with j e) (j.at.place + 1))
added ws j e h free f =
    let q = entry_next (unit_of j.config.divider) j.summary e h.ranges.summary.limited f in
    let r = railed_number (number_of e) q.1 in
    let ne : railed (number_of e) ≢ erased_word = λ z. (let b : is_railed (railed (number_of e)) ≡ false = ap is_railed z ∙ refl in let a = r.0 in cc) in
    built ws j (railed (number_of e)) (summary_with j e) (j.at.place + 1) h free (railed_fits (number_of e) q.1)
    (after_entry_word _ _ (railed (number_of e)) (number_of e) j.summary (summary_with j e) r.0 r.1 q.0)
    (grind (arith, nat_tests, ne))
    (entry_keeps j.config.divider j.summary e h.ranges.summary f)

-- the entry is torn: the journal is as before, or its place is used up, or it has the entry
pub torn : (ws : List ℕ) (j : JournalView) (e : Entry) (t : ℕ) → BanksHold ws j → j.at.place < 512 → follows j.summary e ≡ true → t < 2 ^ 64 → HasOnesOf (railed (number_of e)) t
    → BanksHold (slice_set ws (512 * j.bank + j.at.place) t) j ⊎
    (BanksHold (slice_set ws (512 * j.bank + j.at.place) t) (in_place j j.summary (j.at.place + 1)) ⊎
    BanksHold (slice_set ws (512 * j.bank + j.at.place) t) (in_place j (summary_with j e) (j.at.place + 1)))
torn ws j e t h free f fits ones =
    let q = entry_next (unit_of j.config.divider) j.summary e h.ranges.summary.limited f in
    let r = railed_number (number_of e) q.1 in
    let w = railed_fits (number_of e) q.1 in
    let p = railed_paired (number_of e) q.1 in
    ⊎_elim
    (λ (y : is_railed t ≡ true).
    let same : t ≡ railed (number_of e) = railed_if_same (railed (number_of e)) t w fits p ones y in
    inr (inr (subst (λ x. BanksHold (slice_set ws (512 * j.bank + j.at.place) x) (in_place j (summary_with j e) (j.at.place + 1))) (sym same) (added ws j e h free f))))
    (λ (y : is_railed t ≡ false).
    ⊎_elim
    (λ (z : t ≡ erased_word). inl (built ws j t j.summary j.at.place h free fits (after_torn_word _ _ t j.summary y) (grind (arith, nat_tests)) h.ranges.summary))
    (λ (z : t ≡ erased_word → ⊥). inr (inl (built ws j t j.summary (j.at.place + 1) h free fits (after_torn_word _ _ t j.summary y) (grind (arith, nat_tests)) h.ranges.summary)))
    (cases_eq t erased_word))
    (cases_Bool (is_railed t))
