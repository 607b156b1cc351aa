-- The bank in use, read from its head to its last entry.
use Rattle.std.proofs.Common.{◌≡◌, ℕ, ◌+◌, ◌<◌, ◌==◌, if◌then◌else◌, List, slice_index, Option, Some, None, Ok, Err, Result, refl, arith, sym, ◌∙◌, ap, subst, ⊎_elim}
use Rattle.std.proofs.lemmas.Bool.{cases_eq}
use Rattle.paygo_spec.specs.Flash.{FlashView, Passed}
use Rattle.paygo_spec.specs.Rail.{number_in}
use Rattle.paygo_spec.specs.Machine.{IsConfig}
use Rattle.journal_laws.specs.Banks.{IsKeyBytes, KeepsRules}
use Rattle.journal_laws.proofs.Headers.{Chosen, ByFirst, BySecond, ByNone, ByDamage, chosen}
use Rattle.journal_laws.proofs.Recovered.{bank_unmade, journal_with}
use Rattle.journal_laws.proofs.HeadRead.{head_key, head_config}
use Rattle.bank_journal.proofs.Calls.{passed_more}
use Rattle.bank_journal.proofs.ReadingCalls.{read_failed}
use Rattle.paygo_spec.specs.declared.Config.{Config}
use Rattle.paygo_spec.specs.Least.{least}
use Rattle.paygo_spec.specs.Clock.{unit_of}
use Rattle.paygo_spec.specs.History.{Summary as SummaryOf}
use Rattle.paygo_spec.specs.Recovery.{JournalView, Unmade, Damaged, Made, number_at, config_in_head, summary_in_head, is_damaged, summary_after, used, by_entries, by_head, by_bank, by_headers, newest_bank, recover}
use Rattle.journal_laws.proofs.HeadWritten.{config_same, summary_same}
use Rattle.bank_journal.specs.declared.journal.JournalFault.{JournalFault}
use Rattle.bank_journal.specs.declared.journal.JournalFault.TheVariants as fault
use Rattle.bank_journal.specs.declared.summary.Summary.{Summary}
use Rattle.bank_journal.specs.Summary.{summary_of}
use Rattle.bank_journal.specs.Outcomes.{LoadsAs, LoadCalls}
use Rattle.bank_journal.specs.Reading.{ReadCalls, HeadAs, EntriesAs}

-- a damaged head
pub head_refused : (words : List ℕ) (bank : ℕ) (e : JournalFault) → HeadAs words bank (Err e) → LoadsAs (by_bank words bank) (Err e)
head_refused words bank fault.Flash h = tt
head_refused words bank fault.Unmade h = absurd h
head_refused words bank (fault.Made number) h = absurd h
head_refused words bank (fault.Damaged at) h = ap (by_head words bank) h.2 ∙ ap Damaged (sym h.1)
head_refused words bank fault.Worn h = absurd h

-- what a head that was read says
pub record IsHeadRead (words : List ℕ) (bank : ℕ) (config : Config) (start : SummaryOf) : Type 0 where
  pub sound : least (is_damaged words bank) 12 ≡ None
  pub config_is : config_in_head (number_at words bank) ≡ config
  pub start_is : summary_in_head (number_at words bank) ≡ start

pub head_read : (words : List ℕ) (bank : ℕ) (numbers : List ℕ) (config : Config) (start : SummaryOf) → config ≡ config_in_head (slice_index numbers) → start ≡ summary_in_head (slice_index numbers) → HeadAs words bank (Ok numbers) → IsHeadRead words bank config start
head_read words bank numbers config start config_is start_is h = record {
  sound = h.0;
  config_is = config_same (number_at words bank) (slice_index numbers) h.1 ∙ sym config_is;
  start_is = summary_same (number_at words bank) (slice_index numbers) h.1 ∙ sym start_is;
}

abbrev entries_of : List ℕ → ℕ → Config → SummaryOf → Result SummaryOf ℕ
entries_of words bank config start = summary_after words bank (unit_of config.divider) start 500

bank_is : (words : List ℕ) (bank : ℕ) (config : Config) (start : SummaryOf) → IsHeadRead words bank config start → by_bank words bank ≡ by_entries words bank (entries_of words bank config start)
bank_is words bank config start h =
    ap (by_head words bank) h.sound
    ∙ ap (λ c. by_entries words bank (entries_of words bank c (summary_in_head (number_at words bank)))) h.config_is
    ∙ ap (λ s. by_entries words bank (entries_of words bank config s)) h.start_is

-- a damaged entry
pub entries_refused : (words : List ℕ) (bank unit : ℕ) (config : Config) (start : SummaryOf) (e : JournalFault) → unit ≡ unit_of config.divider → IsHeadRead words bank config start → EntriesAs words bank unit start (Err e) → LoadsAs (by_bank words bank) (Err e)
entries_refused words bank unit config start fault.Flash unit_is head h = tt
entries_refused words bank unit config start fault.Unmade unit_is head h = absurd h
entries_refused words bank unit config start (fault.Made number) unit_is head h = absurd h
entries_refused words bank unit config start (fault.Damaged place) unit_is head h =
    bank_is words bank config start head
    ∙ ap (by_entries words bank) (subst (λ u. summary_after words bank u start 500 ≡ Err place) unit_is h)
entries_refused words bank unit config start fault.Worn unit_is head h = absurd h

-- a bank without damage
pub bank_read : (words : List ℕ) (bank unit number place : ℕ) (config : Config) (start : SummaryOf) (summary : Summary) → unit ≡ unit_of config.divider → IsHeadRead words bank config start → EntriesAs words bank unit start (Ok (summary, place)) → number_at words bank 0 ≡ number → by_bank words bank ≡ Made (journal_with bank number place config (summary_of summary))
bank_read words bank unit number place config start summary unit_is head h number_is =
    bank_is words bank config start head
    ∙ ap (by_entries words bank) (subst (λ u. summary_after words bank u start 500 ≡ Ok (summary_of summary)) unit_is h.0)
    ∙ ap (λ n. Made (journal_with bank n (12 + used words bank 500) (config_in_head (number_at words bank)) (summary_of summary))) number_is
    ∙ ap (λ p. Made (journal_with bank number p (config_in_head (number_at words bank)) (summary_of summary))) h.1
    ∙ ap (λ c. Made (journal_with bank number place c (summary_of summary))) head.config_is

-- the configuration of a head that keeps its rules
pub config_range : (numbers : ℕ → ℕ) (config : Config) → config ≡ config_in_head numbers → KeepsRules numbers → IsConfig config
config_range numbers config is rules = subst IsConfig (sym is) (head_config numbers rules)

pub key_range : (numbers : ℕ → ℕ) (config : Config) → config ≡ config_in_head numbers → IsKeyBytes config.key
key_range numbers config is = subst (λ c. IsKeyBytes c.key) (sym is) (head_key numbers)

-- the two headers of the words
pub record AreHeaders (first second : ℕ) (words : List ℕ) : Type 0 where
  pub first_is : first ≡ slice_index words 0
  pub second_is : second ≡ slice_index words 512

-- what is found by them
pub headers_found : (words : List ℕ) (first second : ℕ) (answer : Result (Option ℕ) ℕ) → AreHeaders first second words → newest_bank first second ≡ answer → recover words ≡ by_headers words answer
unfolding recover
headers_found words first second answer h e =
    ap (by_headers words) (ap (λ x. newest_bank x (slice_index words 512)) (sym h.first_is) ∙ ap (newest_bank first) (sym h.second_is) ∙ e)

-- the header of the bank in use
pub header_is : (words : List ℕ) (first second bank : ℕ) → bank < 2 → AreHeaders first second words → number_at words bank 0 ≡ number_in (if bank == 0 then first else second)
header_is words first second bank two h =
    ⊎_elim
    (λ (z : bank ≡ 0). subst (λ k. number_at words k 0 ≡ number_in (if k == 0 then first else second)) (sym z) (ap number_in (sym h.first_is)))
    (λ (z : bank ≡ 0 → ⊥).
    let o : bank ≡ 1 = omega arith in
    subst (λ k. number_at words k 0 ≡ number_in (if k == 0 then first else second)) (sym o) (ap number_in (sym h.second_is)))
    (cases_eq bank 0)

-- there are two banks
one_of_two : (first second bank : ℕ) (answer : Result (Option ℕ) ℕ) → Chosen first second answer → answer ≡ Ok (Some bank) → bank < 2
one_of_two first second bank (_) (ByFirst ahead) e = let z : 0 ≡ bank = cc in omega arith
one_of_two first second bank (_) (BySecond ahead) e = let z : 1 ≡ bank = cc in omega arith
one_of_two first second bank (_) (ByNone a b) e = cc
one_of_two first second bank (_) (ByDamage place) e = cc

pub bank_within : (first second bank : ℕ) → newest_bank first second ≡ Ok (Some bank) → bank < 2
bank_within first second bank e = one_of_two first second bank _ (chosen first second) e

-- a bank in use is no flash on which no device was made
pub not_unmade : (words : List ℕ) (first second bank : ℕ) → AreHeaders first second words → newest_bank first second ≡ Ok (Some bank) → recover words ≡ Unmade → ⊥
not_unmade words first second bank h e unmade = bank_unmade words bank (least (is_damaged words bank) 12) (sym (headers_found words first second (Ok (Some bank)) h e) ∙ unmade)

-- what was read of the bank in use is what the words stand for
pub bank_found : (words : List ℕ) (first second bank number : ℕ) (answer : Result JournalView JournalFault) → AreHeaders first second words → newest_bank first second ≡ Ok (Some bank) → number ≡ number_in (if bank == 0 then first else second) → (number_at words bank 0 ≡ number → LoadsAs (by_bank words bank) answer) → LoadsAs (recover words) answer
bank_found words first second bank number answer h e number_is loads =
    subst (λ x. LoadsAs x answer) (sym (headers_found words first second (Ok (Some bank)) h e))
    (loads (header_is words first second bank (bank_within first second bank e) h ∙ sym number_is))

-- a bank that was read, behind two headers
pub bank_loaded : (answer : Result JournalView JournalFault) (old mid new : FlashView) → Passed 2 old mid → ReadCalls 511 answer mid new → LoadCalls answer old new
bank_loaded (Ok journal) old mid new first h = passed_more 2 511 513 old mid new refl first h
bank_loaded (Err fault.Flash) old mid new first h = read_failed 2 511 513 fault.Flash old mid new (omega arith) first h
bank_loaded (Err fault.Unmade) old mid new first h = absurd h
bank_loaded (Err (fault.Made number)) old mid new first h = absurd h
bank_loaded (Err (fault.Damaged place)) old mid new first h = read_failed 2 511 513 (fault.Damaged place) old mid new (omega arith) first h
bank_loaded (Err fault.Worn) old mid new first h = absurd h
