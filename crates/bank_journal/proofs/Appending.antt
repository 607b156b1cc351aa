-- An entry is added to a journal whose words are told.
use Rattle.std.proofs.Common.{◌≡◌, ◌⊎◌, inl, ℕ, ◌+◌, ◌-◌, ◌*◌, ◌<◌, ◌≤◌, true, List, [], ◌∷◌, Option, IfSome, arith, sym, subst}
use Rattle.std.specs.Prelude.{slice_index, slice_set}
use Rattle.std.specs.Option.{option_map}
use Rattle.paygo_spec.specs.declared.Entry.{Entry}
use Rattle.paygo_spec.specs.Clock.{unit_of}
use Rattle.paygo_spec.specs.EntryNumber.{number_of}
use Rattle.paygo_spec.specs.Flash.{AreWords, Becomes, TornProgram, erased_word}
use Rattle.paygo_spec.specs.History.{Summary}
use Rattle.paygo_spec.specs.Lawful.{IsSummary, follows}
use Rattle.paygo_spec.specs.Layout.{head_number, last_bank}
use Rattle.paygo_spec.specs.Rail.{railed}
use Rattle.paygo_spec.specs.Recovery.{JournalView, Made, recover}
use Rattle.paygo_spec.specs.Snapshot.{snapshot}
use Rattle.journal_laws.specs.Banks.{IsJournal, LeavesOther}
use Rattle.journal_laws.specs.Journal.{summary_with, begun_with, with_entry, IsCut}
use Rattle.journal_laws.proofs.Program.{in_place, next_place, ranges_in, entry_keeps}
use Rattle.journal_laws.proofs.Laws.{entry_added, entry_cut, other_left, bank_turned, turn_cut}
use Rattle.journal_laws.proofs.Recovered.{made_holds}
use Rattle.bank_journal.specs.Begin.{BeginsBank}
use Rattle.bank_journal.proofs.Told.{told_all, told_both, told_change, told_cut, told_more, told_more_cut, told_with}

-- A journal in memory with one entry more is in range.
pub journal_more : (j : JournalView) (e : Entry) (summary : Summary) → IsJournal j → follows j.summary e ≡ true → j.at.place < 512 → summary ≡ snapshot (unit_of j.config.divider) j.summary (e ∷ []) → IsJournal (in_place j summary (j.at.place + 1))
journal_more j e summary r f free is =
    let low : 12 ≤ j.at.place = r.behind_head in
    subst (λ s. IsJournal (in_place j s (j.at.place + 1))) (sym is) (ranges_in j (summary_with j e) (j.at.place + 1) r (entry_keeps j.config.divider j.summary e r.summary f) (omega arith) (omega arith))

-- the words of a flash that stand for a journal
module _ (j : JournalView) (o : Option (List ℕ)) (are : IfSome o AreWords) (holds : IfSome o (λ ws. recover ws ≡ Made j)) where
  abbrev Was : List ℕ → Type 0
  Was ws = AreWords ws × (recover ws ≡ Made j)

  was : IfSome o Was
  was = told_both AreWords (λ ws. recover ws ≡ Made j) o are holds

  -- an entry is added in the bank in use
  module _ (e : Entry) (at x : ℕ) (free : j.at.place < 512) (is : at ≡ 512 * j.bank + j.at.place) where
    pub place_erased : IfSome o (λ ws. slice_index ws at ≡ erased_word)
    place_erased = told_all Was (λ ws. slice_index ws at ≡ erased_word) o was
        (λ ws h. subst (λ i. slice_index ws i ≡ erased_word) (sym is) (next_place ws j (made_holds ws j h.0 h.1) free))

    pub entry_whole : (n : Option (List ℕ)) → follows j.summary e ≡ true → x ≡ number_of e → n ≡ option_map (λ (ws : List ℕ). slice_set ws at (railed x)) o → Becomes (λ old new. recover new ≡ Made (with_entry e j)) o n
    entry_whole n f w done = told_change Was (λ old new. recover new ≡ Made (with_entry e j)) (λ (ws : List ℕ). slice_set ws at (railed x)) o n was done
        (λ a h. rw (is, w) (entry_added a j e h.0 h.1 free f))

    pub entry_torn : (n : Option (List ℕ)) → IfSome n AreWords → follows j.summary e ≡ true → x ≡ number_of e → Becomes (TornProgram at (railed x)) o n → Becomes (λ old new. IsCut e j new) o n
    entry_torn n after f w torn = told_cut Was AreWords (TornProgram at (railed x)) (λ old new. IsCut e j new) o n was after torn
        (λ a b h v t. entry_cut a b j e h.0 h.1 free f (subst (λ i. TornProgram i (railed (number_of e)) a b) is (subst (λ i. TornProgram at (railed i) a b) w t)))

  -- the bank is left for the other one
  module _ (s : Summary) where
    abbrev pub Either : List ℕ → List ℕ → Type 0
    Either old new = (recover new ≡ Made j) ⊎ (recover new ≡ Made (begun_with s j))

  pub turn_begun : (s : Summary) (n : Option (List ℕ)) → IfSome n AreWords → Becomes (LeavesOther (1 - j.bank)) o n → Becomes (Either s) o n
  turn_begun s n after left = told_cut Was AreWords (LeavesOther (1 - j.bank)) (Either s) o n was after left
      (λ a b h v l. inl (other_left a b j h.0 v h.1 l))

  module _ (s : Summary) (rule : IsSummary s) (m : Option (List ℕ)) (mid : IfSome m AreWords) (begun : Becomes (BeginsBank (1 - j.bank) (head_number (j.at.number + 1) j.config s) 12) o m)
      (at : ℕ) (is : at ≡ 512 * (1 - j.bank)) (few : j.at.number < last_bank) where
    abbrev Begun : List ℕ → List ℕ → Type 0
    Begun a b = Was a × BeginsBank (1 - j.bank) (head_number (j.at.number + 1) j.config s) 12 a b

    all_begun : Becomes Begun o m
    all_begun = told_with Was (BeginsBank (1 - j.bank) (head_number (j.at.number + 1) j.config s) 12) o m was begun

    pub turn_done : (n : Option (List ℕ)) → n ≡ option_map (λ (ws : List ℕ). slice_set ws at (railed (j.at.number + 1))) m → Becomes (λ old new. recover new ≡ Made (begun_with s j)) o n
    turn_done n done = told_more AreWords Begun (λ old new. recover new ≡ Made (begun_with s j)) (λ (ws : List ℕ). slice_set ws at (railed (j.at.number + 1))) o m n all_begun mid done
        (λ a b r v. rw is (bank_turned b j s rule v (other_left a b j r.0.0 v r.0.1 r.1.0) few r.1.1))

    pub turn_torn : (n : Option (List ℕ)) → IfSome n AreWords → Becomes (TornProgram at (railed (j.at.number + 1))) m n → Becomes (Either s) o n
    turn_torn n after torn = told_more_cut AreWords AreWords Begun (TornProgram at (railed (j.at.number + 1))) (Either s) o m n all_begun mid after torn
        (λ a b c r v w t. turn_cut b c j s rule v (other_left a b j r.0.0 v r.0.1 r.1.0) few r.1.1 (subst (λ i. TornProgram i (railed (j.at.number + 1)) b c) is t))
