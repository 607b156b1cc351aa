-- The head of a bank, read place by place.
use Rattle.std.proofs.Common.{◌≡◌, ℕ, true, false, ◌+◌, ◌*◌, ◌%◌, ◌^◌, ◌<◌, ◌≤◌, ◌==◌, nat_lt, nat_le, List, slice_index, slice_set, Some, None, arith, refl, sym, ◌∙◌, subst, ⊎_elim}
use Rattle.std.proofs.lemmas.Bool.{cases_eq, and_right}
use Rattle.std.proofs.lemmas.Bool.Decides.{nat_tests}
use Rattle.std.proofs.Math.Pow.{pow_mono}
use Rattle.paygo_spec.specs.Rail.{is_railed, number_in}
use Rattle.paygo_spec.specs.Least.{least}
use Rattle.paygo_spec.specs.Clock.{longest_block}
use Rattle.paygo_spec.specs.Recovery.{word_at, number_at, keeps_rule, is_damaged}
use Rattle.std.proofs.Common.{Ok, Err, get_or-set_other, get_or-set_same, length}
use Rattle.bank_journal.specs.declared.journal.JournalFault.{JournalFault}
use Rattle.bank_journal.specs.declared.journal.JournalFault.TheVariants as fault
use Rattle.bank_journal.specs.Reading.{NumberAs, HeadAs}
use Rattle.paygo_spec.proofs.Leasts.{least_none, least_skip, least_found}
use Rattle.journal_laws.proofs.HeadPlaces.{at_each_place}

-- a block of 32 bits against the longest one
pub block_few : (fails block : ℕ) → 1 ≤ fails → fails ≤ 26 → nat_le block (60 * 2 ^ fails % 2 ^ 32) ≡ nat_le block (longest_block fails)
block_few fails block some few =
    let most : 2 ^ fails ≤ 2 ^ 26 = pow_mono few in
    let whole : 60 * 2 ^ fails % 2 ^ 32 ≡ 60 * 2 ^ fails = omega arith in
    let none : (fails == 0) ≡ false = grind (arith, nat_tests) in
    rw (whole, none) refl

pub block_many : (fails block : ℕ) → 27 ≤ fails → block < 2 ^ 32 → nat_le block (longest_block fails) ≡ true
block_many fails block many small =
    let least_power : 2 ^ 27 ≤ 2 ^ fails = pow_mono many in
    let none : (fails == 0) ≡ false = grind (arith, nat_tests) in
    let below : nat_le block (60 * 2 ^ fails) ≡ true = grind (arith, nat_tests) in
    rw none below

-- the rule of a place looks at the numbers up to it
pub rule_same : (f g : ℕ → ℕ) (place : ℕ) → place < 12 → ((k : ℕ) → 1 ≤ k → k ≤ place → f k ≡ g k) → keeps_rule f place ≡ keeps_rule g place
rule_same f g place b =
    at_each_place (λ p. ((k : ℕ) → 1 ≤ k → k ≤ p → f k ≡ g k) → keeps_rule f p ≡ keeps_rule g p) (record {
      at_0 = λ h. refl;
      at_1 = λ h. refl;
      at_2 = λ h. refl;
      at_3 = λ h. refl;
      at_4 = λ h. refl;
      at_5 = λ h. rw (h 5 (omega arith) (omega arith)) refl;
      at_6 = λ h. rw (h 6 (omega arith) (omega arith)) refl;
      at_7 = λ h. rw (h 6 (omega arith) (omega arith), h 7 (omega arith) (omega arith)) refl;
      at_8 = λ h. refl;
      at_9 = λ h. rw (h 8 (omega arith) (omega arith), h 9 (omega arith) (omega arith)) refl;
      at_10 = λ h. rw (h 8 (omega arith) (omega arith), h 9 (omega arith) (omega arith), h 10 (omega arith) (omega arith)) refl;
      at_11 = λ h. rw (h 10 (omega arith) (omega arith), h 11 (omega arith) (omega arith)) refl;
    }) place b

-- what is known of a head below a place: no place is damaged, and these are its numbers
pub record IsReadTo (words : List ℕ) (bank : ℕ) (numbers : ℕ → ℕ) (end : ℕ) : Type 0 where
  pub sound : least (is_damaged words bank) end ≡ None
  pub numbers_are : (place : ℕ) → 1 ≤ place → place < end → number_at words bank place ≡ numbers place

pub read_none : (words : List ℕ) (bank : ℕ) (numbers : ℕ → ℕ) → IsReadTo words bank numbers 1
read_none words bank numbers = record {
  sound = least_skip (is_damaged words bank) 0 (least_none (is_damaged words bank)) refl;
  numbers_are = λ place l b. absurd (omega arith);
}

-- a place whose word isn't railed is damaged
pub unrailed_damaged : (words : List ℕ) (bank place : ℕ) → 1 ≤ place → is_railed (word_at words bank place) ≡ false → is_damaged words bank place ≡ true
unrailed_damaged words bank place l r =
    let inside : nat_lt 0 place ≡ true = grind (arith, nat_tests) in
    rw (inside, r) refl

-- the numbers with one place more
pub record IsNext (words : List ℕ) (bank : ℕ) (old new : ℕ → ℕ) (place : ℕ) : Type 0 where
  pub before : (k : ℕ) → 1 ≤ k → k < place → new k ≡ old k
  pub railed : is_railed (word_at words bank place) ≡ true
  pub here : number_at words bank place ≡ new place

numbers_to : (words : List ℕ) (bank : ℕ) (old new : ℕ → ℕ) (place : ℕ) → IsReadTo words bank old place → IsNext words bank old new place → (k : ℕ) → 1 ≤ k → k ≤ place → number_at words bank k ≡ new k
numbers_to words bank old new place read more k l b =
    ⊎_elim
    (λ (e : k ≡ place). subst (λ x. number_at words bank x ≡ new x) (sym e) more.here)
    (λ (ne : k ≡ place → ⊥). read.numbers_are k l (omega arith) ∙ sym (more.before k l (omega arith)))
    (cases_eq k place)

rule_there : (words : List ℕ) (bank : ℕ) (old new : ℕ → ℕ) (place : ℕ) → place < 12 → IsReadTo words bank old place → IsNext words bank old new place → keeps_rule (number_at words bank) place ≡ keeps_rule new place
rule_there words bank old new place b read more = rule_same (number_at words bank) new place b (numbers_to words bank old new place read more)

pub read_more : (words : List ℕ) (bank : ℕ) (old new : ℕ → ℕ) (place : ℕ) → place < 12 → IsReadTo words bank old place → IsNext words bank old new place → keeps_rule new place ≡ true → IsReadTo words bank new (place + 1)
read_more words bank old new place b read more rule =
    let kept : keeps_rule (number_at words bank) place ≡ true = rule_there words bank old new place b read more ∙ rule in
    record {
      sound = least_skip (is_damaged words bank) place read.sound (rw (more.railed, kept) (and_right (nat_lt 0 place) false refl));
      numbers_are = λ k l s. numbers_to words bank old new place read more k l (omega arith);
    }

pub rule_broken : (words : List ℕ) (bank : ℕ) (old new : ℕ → ℕ) (place : ℕ) → 1 ≤ place → place < 12 → IsReadTo words bank old place → IsNext words bank old new place → keeps_rule new place ≡ false → is_damaged words bank place ≡ true
rule_broken words bank old new place l b read more rule =
    let inside : nat_lt 0 place ≡ true = grind (arith, nat_tests) in
    let broken : keeps_rule (number_at words bank) place ≡ false = rule_there words bank old new place b read more ∙ rule in
    rw (inside, more.railed, broken) refl

pub first_damaged : (words : List ℕ) (bank : ℕ) (numbers : ℕ → ℕ) (place : ℕ) → place < 12 → IsReadTo words bank numbers place → is_damaged words bank place ≡ true → least (is_damaged words bank) 12 ≡ Some place
first_damaged words bank numbers place b read broken = least_found (is_damaged words bank) place 12 read.sound broken b

-- a place whose number isn't read
pub number_missed : (words : List ℕ) (bank at place : ℕ) (numbers : ℕ → ℕ) (e : JournalFault) → at ≡ 512 * bank + place → 1 ≤ place → place < 12 → IsReadTo words bank numbers place → NumberAs (slice_index words at) at (Err e) → HeadAs words bank (Err e)
number_missed words bank at place numbers fault.Flash is l b read h = tt
number_missed words bank at place numbers fault.Unmade is l b read h = h
number_missed words bank at place numbers (fault.Made number) is l b read h = h
number_missed words bank at place numbers (fault.Damaged word) is l b read h =
    let unrailed : is_railed (word_at words bank place) ≡ false = subst (λ x. is_railed (slice_index words x) ≡ false) is h.0 in
    (place, h.1 ∙ is, first_damaged words bank numbers place b read (unrailed_damaged words bank place l unrailed))
number_missed words bank at place numbers fault.Worn is l b read h = h

-- numbers with one more written among them
pub set_before : (numbers : List ℕ) (i x place k : ℕ) → i ≡ place → k < place → slice_index (slice_set numbers i x) k ≡ slice_index numbers k
set_before numbers i x place k is l = get_or-set_other numbers i k x 0 (omega arith)

pub set_here : (numbers : List ℕ) (i x place : ℕ) → i ≡ place → place < length numbers → slice_index (slice_set numbers i x) place ≡ x
set_here numbers i x place is l = subst (λ k. slice_index (slice_set numbers i x) k ≡ x) is (get_or-set_same numbers i x 0 (omega arith))

abbrev pub with_number : List ℕ → ℕ → ℕ → ℕ → ℕ
with_number numbers i x = slice_index (slice_set numbers i x)

pub is_next : (words : List ℕ) (bank at i x place : ℕ) (numbers : List ℕ) → at ≡ 512 * bank + place → i ≡ place → place < length numbers → NumberAs (slice_index words at) at (Ok x) → IsNext words bank (slice_index numbers) (with_number numbers i x) place
is_next words bank at i x place numbers at_is is l h = record {
  before = λ k first below. set_before numbers i x place k is below;
  railed = subst (λ y. is_railed (slice_index words y) ≡ true) at_is h.0;
  here = subst (λ y. number_in (slice_index words y) ≡ x) at_is h.1 ∙ sym (set_here numbers i x place is l);
}

-- one number more is read, and keeps its rule
pub number_read : (words : List ℕ) (bank at i x place : ℕ) (numbers : List ℕ) → at ≡ 512 * bank + place → i ≡ place → place < 12 → length numbers ≡ 12 → keeps_rule (with_number numbers i x) place ≡ true → IsReadTo words bank (slice_index numbers) place → NumberAs (slice_index words at) at (Ok x) → IsReadTo words bank (with_number numbers i x) (place + 1)
number_read words bank at i x place numbers at_is is b n rule read h =
    read_more words bank (slice_index numbers) (with_number numbers i x) place b read (is_next words bank at i x place numbers at_is is (omega arith) h) rule

pub rules_more : (numbers : List ℕ) (i x place : ℕ) → i ≡ place → place < 12 → ((k : ℕ) → 1 ≤ k → k < place → keeps_rule (slice_index numbers) k ≡ true) → keeps_rule (with_number numbers i x) place ≡ true → (k : ℕ) → 1 ≤ k → k < place + 1 → keeps_rule (with_number numbers i x) k ≡ true
rules_more numbers i x place is b before rule k l below =
    ⊎_elim
    (λ (e : k ≡ place). subst (λ y. keeps_rule (with_number numbers i x) y ≡ true) (sym e) rule)
    (λ (ne : k ≡ place → ⊥).
    rule_same (with_number numbers i x) (slice_index numbers) k (omega arith) (λ m first up. set_before numbers i x place m is (omega arith))
    ∙ before k l (omega arith))
    (cases_eq k place)

-- or it breaks its rule
pub number_refused : (words : List ℕ) (bank at i x place : ℕ) (numbers : List ℕ) → at ≡ 512 * bank + place → i ≡ place → 1 ≤ place → place < 12 → length numbers ≡ 12 → keeps_rule (with_number numbers i x) place ≡ false → IsReadTo words bank (slice_index numbers) place → NumberAs (slice_index words at) at (Ok x) → HeadAs words bank (Err (fault.Damaged at))
number_refused words bank at i x place numbers at_is is l b n rule read h = (
  place,
  at_is,
  first_damaged words bank (slice_index numbers) place b read
      (rule_broken words bank (slice_index numbers) (with_number numbers i x) place l b read (is_next words bank at i x place numbers at_is is (omega arith) h) rule),
)
