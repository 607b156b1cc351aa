-- The laws on what recovery finds, by what the banks hold.
use Rattle.std.proofs.Common.{◌≡◌, ◌⊎◌, inl, inr, ℕ, ◌+◌, ◌-◌, ◌*◌, ◌<◌, true, List, refl, arith, sym, subst, lit<}
use Rattle.std.specs.Prelude.{slice_set}
use Rattle.paygo_spec.specs.declared.Config.{Config}
use Rattle.paygo_spec.specs.declared.Entry.{Entry}
use Rattle.paygo_spec.specs.EntryNumber.{number_of}
use Rattle.paygo_spec.specs.Flash.{AreWords, TornProgram}
use Rattle.paygo_spec.specs.History.{Summary, fresh}
use Rattle.paygo_spec.specs.Lawful.{IsSummary, follows}
use Rattle.paygo_spec.specs.Layout.{head_number, last_bank}
use Rattle.paygo_spec.specs.Machine.{IsConfig}
use Rattle.paygo_spec.specs.Rail.{railed}
use Rattle.paygo_spec.specs.Recovery.{JournalView, Unmade, Made, recover, word_at}
use Rattle.journal_laws.specs.Banks.{BanksHold, IsBegun, IsKeyBytes, IsQuiet, LeavesOther}
use Rattle.journal_laws.specs.Journal.{new_journal, begun_with, with_entry, IsCut, IsCutMake}
use Rattle.journal_laws.proofs.OtherHeader.{behind_torn, quiet_torn}
use Rattle.journal_laws.proofs.Recovered.{made_holds, holds_made, unmade_none, none_unmade}
use Rattle.journal_laws.proofs.Program.{added, torn}
use Rattle.journal_laws.proofs.Turn.{holds_outside, turn_whole, turn_torn}
use Rattle.journal_laws.proofs.Make.{make_whole, make_torn}
use Rattle.journal_laws.proofs.Cuts.{with_here, cut_here, cut_make}

-- an entry is added in the bank in use
pub entry_added : (words : List ℕ) (j : JournalView) (e : Entry) → AreWords words → recover words ≡ Made j → j.at.place < 512 → follows j.summary e ≡ true
    → recover (slice_set words (512 * j.bank + j.at.place) (railed (number_of e))) ≡ Made (with_entry e j)
entry_added words j e are found free f =
    holds_made _ _ (subst (λ k. BanksHold (slice_set words (512 * j.bank + j.at.place) (railed (number_of e))) k) (with_here e j free) (added words j e (made_holds words j are found) free f))

pub entry_cut : (words after : List ℕ) (j : JournalView) (e : Entry) → AreWords words → recover words ≡ Made j → j.at.place < 512 → follows j.summary e ≡ true
    → TornProgram (512 * j.bank + j.at.place) (railed (number_of e)) words after → IsCut e j after
entry_cut words after j e are found free f t =
    subst (λ ws. IsCut e j ws) (sym t.3) (cut_here e j _ free (torn words j e t.0 (made_holds words j are found) free f t.1 t.2))

-- the other bank is erased, and its head is written
pub other_left : (words after : List ℕ) (j : JournalView) → AreWords words → AreWords after → recover words ≡ Made j → LeavesOther (1 - j.bank) words after → recover after ≡ Made j
other_left words after j are are_after found x =
    let h = made_holds words j are found in
    let two : j.bank < 2 = h.ranges.bank in
    let back : 1 - (1 - j.bank) ≡ j.bank = omega arith in
    holds_made after j (holds_outside words after j h are_after
    (subst (λ b. (p : ℕ) → p < 512 → word_at after b p ≡ word_at words b p) back x.other)
    (behind_torn (word_at words (1 - j.bank) 0) (word_at after (1 - j.bank) 0) j.at.number (are.each (512 * (1 - j.bank) + 0)) (are_after.each (512 * (1 - j.bank) + 0)) x.header h.other))

-- its header is written
pub bank_turned : (words : List ℕ) (j : JournalView) (s : Summary) → IsSummary s → AreWords words → recover words ≡ Made j → j.at.number < last_bank
    → IsBegun words (1 - j.bank) (head_number (j.at.number + 1) j.config s) 12
    → recover (slice_set words (512 * (1 - j.bank)) (railed (j.at.number + 1))) ≡ Made (begun_with s j)
bank_turned words j s rule are found few begun = holds_made _ _ (turn_whole words j s _ rule refl few begun (made_holds words j are found))

either : (words : List ℕ) (j : JournalView) (s : Summary) → BanksHold words j ⊎ BanksHold words (begun_with s j) → (recover words ≡ Made j) ⊎ (recover words ≡ Made (begun_with s j))
either words j s (inl h) = inl (holds_made words j h)
either words j s (inr h) = inr (holds_made words (begun_with s j) h)

pub turn_cut : (words after : List ℕ) (j : JournalView) (s : Summary) → IsSummary s → AreWords words → recover words ≡ Made j → j.at.number < last_bank
    → IsBegun words (1 - j.bank) (head_number (j.at.number + 1) j.config s) 12
    → TornProgram (512 * (1 - j.bank)) (railed (j.at.number + 1)) words after → (recover after ≡ Made j) ⊎ (recover after ≡ Made (begun_with s j))
turn_cut words after j s rule are found few begun t =
    subst (λ ws. (recover ws ≡ Made j) ⊎ (recover ws ≡ Made (begun_with s j))) (sym t.3)
    (either _ j s (turn_torn words j s _ t.0 rule refl few begun t.1 t.2 (made_holds words j are found)))

-- bank 0 of a flash without a device is erased, and its head is written
pub unmade_left : (words after : List ℕ) → AreWords words → AreWords after → recover words ≡ Unmade → LeavesOther 0 words after → recover after ≡ Unmade
unmade_left words after are are_after found x =
    let h = unmade_none words are found in
    none_unmade after (record {
      whole = are_after;
      first = quiet_torn (word_at words 0 0) (word_at after 0 0) (are.each (512 * 0 + 0)) (are_after.each (512 * 0 + 0)) x.header h.first;
      second = subst (λ y. IsQuiet y) (sym (x.other 0 (lit< tt))) h.second;
    })

-- its header is written
pub device_made : (words : List ℕ) (config : Config) → AreWords words → recover words ≡ Unmade → IsKeyBytes config.key → IsConfig config
    → IsBegun words 0 (head_number 1 config fresh) 12 → recover (slice_set words 0 (railed 1)) ≡ Made (new_journal config)
device_made words config are found key in_range begun = holds_made _ _ (make_whole words config key in_range begun (unmade_none words are found))

pub make_cut : (words after : List ℕ) (config : Config) → AreWords words → recover words ≡ Unmade → IsKeyBytes config.key → IsConfig config
    → IsBegun words 0 (head_number 1 config fresh) 12 → TornProgram 0 (railed 1) words after → IsCutMake config words after
make_cut words after config are found key in_range begun t =
    let none = unmade_none words are found in
    subst (λ ws. IsCutMake config words ws) (sym t.3) (cut_make config words _ none (make_torn words config t.0 key in_range begun t.1 t.2 none))
