-- What is done to a bank up to its header leaves the other bank, and so what the words stand for.
use Rattle.std.proofs.Common.{◌≡◌, ℕ, Option, IfSome, ◌+◌, ◌-◌, ◌*◌, ◌^◌, ◌<◌, ◌≤◌, List, arith, sym, ◌∙◌, ap, subst, lit<}
use Rattle.std.specs.Prelude.{bit_and, slice_set}
use Rattle.std.proofs.lemmas.Nat.{and_mask, and_comm, and_assoc}
use Rattle.std.specs.Option.{option_map}
use Rattle.paygo_spec.specs.Rail.{railed}
use Rattle.paygo_spec.specs.Flash.{AreWords, Becomes, HasOnesOf, erased_word, erased_bank}
use Rattle.paygo_spec.specs.Recovery.{word_at}
use Rattle.journal_laws.specs.Banks.{IsBegun, LeavesOther}
use Rattle.journal_laws.proofs.Words.{erased_in, erased_out}
use Rattle.journal_laws.proofs.Begin.{begun_erased, begun_more, other_word}
use Rattle.bank_journal.specs.Begin.{BeginsBank}
use Rattle.bank_journal.proofs.Told.{told_change, told_more, told_now, told_then}

-- an erased word has every 1 bit
ones_of_erased : (w : ℕ) → w < 2 ^ 64 → HasOnesOf w erased_word
ones_of_erased w l = and_comm erased_word w ∙ and_mask w 64 ∙ (omega arith)

pub left_then : (bank : ℕ) (a b c : List ℕ) → LeavesOther bank a b → LeavesOther bank b c → LeavesOther bank a c
left_then bank a b c x y = record {
  header =
      let h : bit_and (word_at b bank 0) (word_at a bank 0) ≡ word_at a bank 0 = x.header in
      let k : bit_and (word_at c bank 0) (word_at b bank 0) ≡ word_at b bank 0 = y.header in
      ap (λ i. bit_and (word_at c bank 0) i) (sym h) ∙ sym (and_assoc (word_at a bank 0) (word_at c bank 0) (word_at b bank 0)) ∙ ap (λ i. bit_and i (word_at a bank 0)) k ∙ h;
  other = λ p l. y.other p l ∙ x.other p l;
}

-- the bank was erased, or in part
pub left_erased : (bank : ℕ) (ws : List ℕ) → AreWords ws → bank < 2 → LeavesOther bank ws (erased_bank bank ws)
left_erased bank ws are two = record {
  header = subst (λ x. HasOnesOf (word_at ws bank 0) x) (sym (erased_in ws bank are two 0 (lit< tt))) (ones_of_erased (word_at ws bank 0) (are.each (512 * bank + 0)));
  other = erased_out ws bank are two;
}

-- a word behind its header was written, whole or torn
pub left_word : (bank k at t : ℕ) (ws vs : List ℕ) → bank < 2 → at ≡ 512 * bank + k → 1 ≤ k → k < 512 → LeavesOther bank ws vs → LeavesOther bank ws (slice_set vs at t)
left_word bank k at t ws vs two is low few x = record {
  header = subst (λ y. HasOnesOf (word_at ws bank 0) y) (sym (other_word vs at t bank 0 (λ q. omega arith))) x.header;
  other = λ p l. other_word vs at t (1 - bank) p (λ q. omega arith) ∙ x.other p l;
}

-- a bank is begun on words that are told
pub begins_first : (bank : ℕ) (head : ℕ → ℕ) (o n : Option (List ℕ)) → bank < 2 → IfSome o AreWords → n ≡ option_map (erased_bank bank) o → Becomes (BeginsBank bank head 1) o n
begins_first bank head o n two are e = told_change AreWords (BeginsBank bank head 1) (erased_bank bank) o n are e (λ a h. (left_erased bank a h two, begun_erased a bank head h two))

pub begins_more : (bank : ℕ) (head : ℕ → ℕ) (place at word : ℕ) (o m n : Option (List ℕ)) → bank < 2 → at ≡ 512 * bank + place → 1 ≤ place → place < 512 → word ≡ railed (head place)
    → Becomes (BeginsBank bank head place) o m → IfSome m AreWords → n ≡ option_map (λ (ws : List ℕ). slice_set ws at word) m → Becomes (BeginsBank bank head (place + 1)) o n
begins_more bank head place at word o m n two is low few w begun are e =
    told_more AreWords (BeginsBank bank head place) (BeginsBank bank head (place + 1)) (λ (ws : List ℕ). slice_set ws at word) o m n begun are e
    (λ a b r h. (left_word bank place at word a b two is low few r.0, begun_more b bank head place at word is h two low few w r.1))

pub begins_now : (bank : ℕ) (head : ℕ → ℕ) (end : ℕ) (o n : Option (List ℕ)) → Becomes (BeginsBank bank head end) o n → IfSome n (λ ws. IsBegun ws bank head end)
begins_now bank head end o n begun = told_now (BeginsBank bank head end) (λ ws. IsBegun ws bank head end) o n begun (λ a b r. r.1)

pub begins_then : (bank : ℕ) (head : ℕ → ℕ) (low high : ℕ) (o m n : Option (List ℕ)) → Becomes (BeginsBank bank head low) o m → Becomes (BeginsBank bank head high) m n → Becomes (BeginsBank bank head high) o n
begins_then bank head low high o m n first more = told_then (BeginsBank bank head low) (BeginsBank bank head high) (BeginsBank bank head high) o m n first more (λ x y z r s. (left_then bank x y z r.0 s.0, s.1))

pub begins_cut : (bank : ℕ) (head : ℕ → ℕ) (low : ℕ) (o m n : Option (List ℕ)) → Becomes (BeginsBank bank head low) o m → Becomes (LeavesOther bank) m n → Becomes (LeavesOther bank) o n
begins_cut bank head low o m n first more = told_then (BeginsBank bank head low) (LeavesOther bank) (LeavesOther bank) o m n first more (λ x y z r s. left_then bank x y z r.0 s)
