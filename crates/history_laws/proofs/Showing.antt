-- Seconds after which the clock shows the same change nothing.
use Rattle.std.proofs.Common.{◌≡◌, ℕ, true, ◌==◌, ◌&&◌, ◌↔◌, List, ◌∷◌, arith, ◌∙◌, ap}
use Rattle.std.proofs.lemmas.Bool.Decides.{nat_tests}
use Rattle.paygo_spec.specs.declared.Entry.{Entry}
use Rattle.paygo_spec.specs.declared.Entry.TheVariants.{Elapsed}
use Rattle.paygo_spec.specs.History.{Summary}
use Rattle.paygo_spec.specs.Snapshot.{snapshot}
use Rattle.paygo_spec.specs.Machine.{History, unit_for, clock_at, shows_same}

-- two tests on numbers hold where the numbers are the same
same_numbers : (a b c d : ℕ) → (((a == b) && (c == d)) ≡ true) ↔ ((a ≡ b) × (c ≡ d))
same_numbers a b c d = (λ h. (grind (arith, nat_tests), grind (arith, nat_tests)), λ h. grind (arith, nat_tests))

-- a summary with another time left and another block
abbrev with_time : Summary → ℕ → ℕ → Summary
with_time s left block = record s { left = left; block = block }

module _ (history : History) (entries : List Entry) (seconds : ℕ) where
  abbrev before : Summary
  before = snapshot (unit_for history) history.start entries

  abbrev after : Summary
  after = snapshot (unit_for history) history.start (Elapsed seconds ∷ entries)

  kept : (after.left ≡ before.left) × (after.block ≡ before.block) → after ≡ before
  kept h = ap (λ l. with_time before l after.block) h.0 ∙ ap (λ b. with_time before before.left b) h.1

  pub same : (shows_same (clock_at history (Elapsed seconds ∷ entries)) (clock_at history entries) ≡ true) ↔ (after ≡ before)
  same =
      let test = same_numbers after.left before.left after.block before.block in
      (λ h. kept (test.0 h), λ h. test.1 (ap (λ (s : Summary). s.left) h, ap (λ (s : Summary). s.block) h))
