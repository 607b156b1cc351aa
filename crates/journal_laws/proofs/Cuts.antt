-- What recovery finds where the power was cut.
use Rattle.std.proofs.Common.{◌≡◌, ℕ, true, false, ◌+◌, ◌<◌, ◌==◌, ◌⊎◌, inl, inr, List, arith, refl, sym, ◌∙◌}
use Rattle.std.proofs.lemmas.Bool.Decides.{nat_tests}
use Rattle.paygo_spec.specs.declared.Entry.{Entry}
use Rattle.paygo_spec.specs.Layout.{Position, further}
use Rattle.paygo_spec.specs.Recovery.{JournalView}
use Rattle.paygo_spec.specs.declared.Config.{Config}
use Rattle.journal_laws.specs.Journal.{new_journal, IsCutMake, summary_with, with_entry, IsCut}
use Rattle.journal_laws.specs.Banks.{BanksHold, BanksHoldNone}
use Rattle.journal_laws.proofs.Program.{in_place}
use Rattle.journal_laws.proofs.Recovered.{holds_made, none_unmade}

-- the position one entry on, in this bank
pub further_here : (at : Position) → at.place < 512 → further at ≡ record { number = at.number; place = at.place + 1 }
further_here at free = let e : (at.place == 512) ≡ false = grind (arith, nat_tests) in rw e refl

-- so is the journal
pub with_here : (e : Entry) (j : JournalView) → j.at.place < 512 → in_place j (summary_with j e) (j.at.place + 1) ≡ with_entry e j
with_here e j free = let q : (j.at.place == 512) ≡ false = grind (arith, nat_tests) in rw q refl

-- the journal is as before
pub cut_before : (e : Entry) (j : JournalView) (ws : List ℕ) → BanksHold ws j → IsCut e j ws
cut_before e j ws h = record { counted = false; now = j; recovered = holds_made ws j h; position = inl refl; config = refl; summary = refl }

-- the word of the entry was torn in the bank in use
pub cut_here : (e : Entry) (j : JournalView) (ws : List ℕ) → j.at.place < 512
    → BanksHold ws j ⊎ (BanksHold ws (in_place j j.summary (j.at.place + 1)) ⊎ BanksHold ws (in_place j (summary_with j e) (j.at.place + 1))) → IsCut e j ws
cut_here e j ws free (inl h) = cut_before e j ws h
cut_here e j ws free (inr (inl h)) =
    record { counted = false; now = in_place j j.summary (j.at.place + 1); recovered = holds_made ws _ h; position = inr (inl (sym (further_here j.at free))); config = refl; summary = refl }
cut_here e j ws free (inr (inr h)) =
    record { counted = true; now = in_place j (summary_with j e) (j.at.place + 1); recovered = holds_made ws _ h; position = sym (further_here j.at free); config = refl; summary = refl }

-- a device was being made
pub cut_make_none : (config : Config) (ws vs : List ℕ) → BanksHoldNone ws → BanksHoldNone vs → IsCutMake config ws vs
cut_make_none config ws vs a b = inl (none_unmade vs b ∙ sym (none_unmade ws a))

pub cut_make : (config : Config) (ws vs : List ℕ) → BanksHoldNone ws → BanksHoldNone vs ⊎ BanksHold vs (new_journal config) → IsCutMake config ws vs
cut_make config ws vs a (inl b) = cut_make_none config ws vs a b
cut_make config ws vs a (inr h) = inr (none_unmade ws a, holds_made vs (new_journal config) h)
