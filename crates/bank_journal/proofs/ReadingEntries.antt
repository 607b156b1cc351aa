-- The entries of a bank, read word by word.
use Rattle.std.proofs.Common.{◌≡◌, ℕ, zero, suc, ◌+◌, ◌-◌, ◌*◌, ◌<◌, ◌≤◌, ◌==◌, if◌then◌else◌, List, slice_index, Ok, Err, Result, refl, arith, sym, ◌∙◌, ap, subst, add-suc, add-zero}
use Rattle.paygo_spec.specs.Flash.{erased_word}
use Rattle.paygo_spec.specs.History.{Summary as SummaryOf}
use Rattle.paygo_spec.specs.Recovery.{word_at, after_word, summary_after, used}
use Rattle.journal_laws.proofs.Entries.{summary_step, used_step}
use Rattle.bank_journal.specs.declared.journal.JournalFault.{JournalFault}
use Rattle.bank_journal.specs.declared.journal.JournalFault.TheVariants as fault
use Rattle.bank_journal.specs.declared.summary.Summary.{Summary}
use Rattle.bank_journal.specs.Summary.{summary_of}
use Rattle.bank_journal.specs.Reading.{TakenAs, EntriesAs}

-- damage stays
damaged_more : (words : List ℕ) (bank unit : ℕ) (start : SummaryOf) (n place : ℕ) → summary_after words bank unit start n ≡ Err place → summary_after words bank unit start (suc n) ≡ Err place
unfolding summary_after
damaged_more words bank unit start n place h = rw h refl

damaged_by : (words : List ℕ) (bank unit : ℕ) (start : SummaryOf) (n place more : ℕ) → summary_after words bank unit start n ≡ Err place → summary_after words bank unit start (n + more) ≡ Err place
damaged_by words bank unit start n place zero h = rw add-zero h
damaged_by words bank unit start n place (suc more) h = rw add-suc (damaged_more words bank unit start (n + more) place (damaged_by words bank unit start n place more h))

damaged_to : (words : List ℕ) (bank unit : ℕ) (start : SummaryOf) (n place end : ℕ) → n ≤ end → summary_after words bank unit start n ≡ Err place → summary_after words bank unit start end ≡ Err place
damaged_to words bank unit start n place end l h =
    let whole : n + (end - n) ≡ end = omega arith in
    subst (λ y. summary_after words bank unit start y ≡ Err place) whole (damaged_by words bank unit start n place (end - n) h)

-- what is known after the first n words
pub record IsReadTo (words : List ℕ) (bank unit : ℕ) (start : SummaryOf) (n : ℕ) (summary : SummaryOf) (used_so_far : ℕ) : Type 0 where
  pub summary_is : summary_after words bank unit start n ≡ Ok summary
  pub used_is : used words bank n ≡ used_so_far

pub read_none : (words : List ℕ) (bank unit : ℕ) (start : SummaryOf) → IsReadTo words bank unit start 0 start 0
unfolding summary_after used
read_none words bank unit start = record { summary_is = refl; used_is = refl }

pub read_more : (words : List ℕ) (bank unit at word : ℕ) (start : SummaryOf) (n : ℕ) (summary : SummaryOf) (after : SummaryOf) (used_before used_now : ℕ) → at ≡ 512 * bank + (12 + n) → IsReadTo words bank unit start n summary used_before → slice_index words at ≡ word → after_word unit at word (Ok summary) ≡ Ok after → used_now ≡ (if word == erased_word then used_before else n + 1) → IsReadTo words bank unit start (n + 1) after used_now
read_more words bank unit at word start n summary after used_before used_now at_is read word_is taken used_is =
    let here : word_at words bank (12 + n) ≡ word = subst (λ x. slice_index words x ≡ word) at_is word_is in
    let next : after_word unit (512 * bank + (12 + n)) word (Ok summary) ≡ Ok after = subst (λ x. after_word unit x word (Ok summary) ≡ Ok after) at_is taken in
    record {
      summary_is = summary_step words bank unit start n ∙ rw (read.summary_is, here) next;
      used_is = used_step words bank n ∙ rw (read.used_is, here) (sym used_is);
    }

-- a word that is no entry that may come next
pub entry_refused : (words : List ℕ) (bank unit at word : ℕ) (start : SummaryOf) (n : ℕ) (summary : SummaryOf) (used_before : ℕ) (e : JournalFault) → at ≡ 512 * bank + (12 + n) → n < 500 → IsReadTo words bank unit start n summary used_before → slice_index words at ≡ word → TakenAs (after_word unit at word (Ok summary)) (Err e) → EntriesAs words bank unit start (Err e)
entry_refused words bank unit at word start n summary used_before fault.Flash at_is l read word_is h = tt
entry_refused words bank unit at word start n summary used_before fault.Unmade at_is l read word_is h = h
entry_refused words bank unit at word start n summary used_before (fault.Made number) at_is l read word_is h = h
entry_refused words bank unit at word start n summary used_before (fault.Damaged place) at_is l read word_is h =
    let here : word_at words bank (12 + n) ≡ word = subst (λ x. slice_index words x ≡ word) at_is word_is in
    let next : after_word unit (512 * bank + (12 + n)) word (Ok summary) ≡ Err place = subst (λ x. after_word unit x word (Ok summary) ≡ Err place) at_is h in
    damaged_to words bank unit start (n + 1) place 500 (omega arith) (summary_step words bank unit start n ∙ rw (read.summary_is, here) next)
entry_refused words bank unit at word start n summary used_before fault.Worn at_is l read word_is h = h

-- only a damage refuses a word
pub refused_by_damage : (after : Result SummaryOf ℕ) (e : JournalFault) → TakenAs after (Err e) → (place : ℕ) × (e ≡ fault.Damaged place)
refused_by_damage after fault.Flash h = absurd h
refused_by_damage after fault.Unmade h = absurd h
refused_by_damage after (fault.Made number) h = absurd h
refused_by_damage after (fault.Damaged place) h = (place, refl)
refused_by_damage after fault.Worn h = absurd h

-- what is known after all of them
pub read_all : (words : List ℕ) (bank unit : ℕ) (start : SummaryOf) (summary : Summary) (used_so_far : ℕ) → IsReadTo words bank unit start 500 (summary_of summary) used_so_far → EntriesAs words bank unit start (Ok (summary, 12 + used_so_far))
read_all words bank unit start summary used_so_far read = (read.summary_is, ap (λ x. 12 + x) read.used_is)
