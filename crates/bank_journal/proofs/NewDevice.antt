-- A device is made on a flash whose words are told.
use Rattle.std.proofs.Common.{◌≡◌, inl, inr, ℕ, ◌==◌, if◌then◌else◌, List, Option, Some, None, IfSome, Ok, Err, sym, ◌∙◌}
use Rattle.std.specs.Prelude.{slice_index, slice_set}
use Rattle.std.specs.Option.{option_map}
use Rattle.paygo_spec.specs.declared.Config.{Config}
use Rattle.paygo_spec.specs.Flash.{AreWords, Becomes, TornProgram}
use Rattle.paygo_spec.specs.History.{fresh}
use Rattle.paygo_spec.specs.Layout.{head_number}
use Rattle.paygo_spec.specs.Machine.{IsConfig}
use Rattle.paygo_spec.specs.Rail.{railed, number_in}
use Rattle.paygo_spec.specs.Recovery.{Made, Unmade, recover, word_at, newest_bank}
use Rattle.journal_laws.specs.Banks.{IsKeyBytes, LeavesOther}
use Rattle.journal_laws.specs.Journal.{new_journal, IsCutMake}
use Rattle.journal_laws.proofs.Laws.{unmade_left, device_made, make_cut}
use Rattle.journal_laws.proofs.Recovered.{headers_quiet, none_unmade}
use Rattle.bank_journal.specs.declared.journal.JournalFault.TheVariants as fault
use Rattle.bank_journal.specs.Begin.{BeginsBank}
use Rattle.bank_journal.specs.Outcomes.{MakesAs}
use Rattle.bank_journal.proofs.ReadingBank.{bank_within, header_is}
use Rattle.bank_journal.proofs.Told.{told_both, told_cut, told_more, told_more_cut, told_with}

-- the headers say that a device was made before
pub made_before : (o : Option (List ℕ)) (first second bank x : ℕ) → IfSome o (λ ws. first ≡ slice_index ws 0) → IfSome o (λ ws. second ≡ slice_index ws 512) → newest_bank first second ≡ Ok (Some bank)
    → x ≡ number_in (if bank == 0 then first else second) → IfSome o (λ ws. MakesAs ws (Err (fault.Made x)))
made_before None first second bank x a b e n = tt
made_before (Some ws) first second bank x a b e n =
    let w : newest_bank (word_at ws 0 0) (word_at ws 1 0) ≡ Ok (Some bank) = rw (← a, ← b) e in
    (bank, w, n ∙ sym (header_is ws first second bank (bank_within first second bank e) (record { first_is = a; second_is = b })))

-- they are damaged
pub damaged_before : (o : Option (List ℕ)) (first second place : ℕ) → IfSome o (λ ws. first ≡ slice_index ws 0) → IfSome o (λ ws. second ≡ slice_index ws 512) → newest_bank first second ≡ Err place
    → IfSome o (λ ws. MakesAs ws (Err (fault.Damaged place)))
damaged_before None first second place a b e = tt
damaged_before (Some ws) first second place a b e = rw (← a, ← b) e

-- they say that no device was made
pub unmade_before : (o : Option (List ℕ)) (first second : ℕ) → IfSome o AreWords → IfSome o (λ ws. first ≡ slice_index ws 0) → IfSome o (λ ws. second ≡ slice_index ws 512) → newest_bank first second ≡ Ok None
    → IfSome o (λ ws. recover ws ≡ Unmade)
unmade_before None first second are a b e = tt
unmade_before (Some ws) first second are a b e = none_unmade ws (headers_quiet ws are (rw (← a, ← b) e))

-- the words of a flash that stand for no device
module _ (config : Config) (key : IsKeyBytes config.key) (in_range : IsConfig config) (o : Option (List ℕ)) (are : IfSome o AreWords) (unmade : IfSome o (λ ws. recover ws ≡ Unmade)) where
  abbrev Was : List ℕ → Type 0
  Was ws = AreWords ws × (recover ws ≡ Unmade)

  was : IfSome o Was
  was = told_both AreWords (λ ws. recover ws ≡ Unmade) o are unmade

  pub make_begun : (n : Option (List ℕ)) → IfSome n AreWords → Becomes (LeavesOther 0) o n → Becomes (IsCutMake config) o n
  make_begun n after left = told_cut Was AreWords (LeavesOther 0) (IsCutMake config) o n was after left
      (λ a b h v l. inl (unmade_left a b h.0 v h.1 l ∙ sym h.1))

  module _ (m : Option (List ℕ)) (mid : IfSome m AreWords) (begun : Becomes (BeginsBank 0 (head_number 1 config fresh) 12) o m) where
    abbrev Begun : List ℕ → List ℕ → Type 0
    Begun a b = Was a × BeginsBank 0 (head_number 1 config fresh) 12 a b

    all_begun : Becomes Begun o m
    all_begun = told_with Was (BeginsBank 0 (head_number 1 config fresh) 12) o m was begun

    pub make_done : (n : Option (List ℕ)) → n ≡ option_map (λ (ws : List ℕ). slice_set ws 0 (railed 1)) m → Becomes (λ old new. recover new ≡ Made (new_journal config)) o n
    make_done n done = told_more AreWords Begun (λ old new. recover new ≡ Made (new_journal config)) (λ (ws : List ℕ). slice_set ws 0 (railed 1)) o m n all_begun mid done
        (λ a b r v. device_made b config v (unmade_left a b r.0.0 v r.0.1 r.1.0) key in_range r.1.1)

    -- what a cut of the header leaves, by the words before the bank was begun
    cut_since : (a b c : List ℕ) → recover a ≡ Unmade → recover b ≡ Unmade → IsCutMake config b c → IsCutMake config a c
    cut_since a b c x y (inl same) = inl (same ∙ y ∙ sym x)
    cut_since a b c x y (inr made) = inr (x, made.1)

    pub make_torn : (n : Option (List ℕ)) → IfSome n AreWords → Becomes (TornProgram 0 (railed 1)) m n → Becomes (IsCutMake config) o n
    make_torn n after torn = told_more_cut AreWords AreWords Begun (TornProgram 0 (railed 1)) (IsCutMake config) o m n all_begun mid after torn
        (λ a b c r v w t.
        let none = unmade_left a b r.0.0 v r.0.1 r.1.0 in
        cut_since a b c r.0.1 none (make_cut b c config v none key in_range r.1.1 t))
