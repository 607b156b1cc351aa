use Rattle.std.proofs.Common.{◌≡◌, ℕ, ◌+◌, ◌≤◌, List, Option, Some, None, Result, Ok, Err, false, IfSome, OnOk, is_err, refl, ◌∙◌, sym, subst}
use Rattle.std.specs.Option.{option_map}
use Rattle.paygo_spec.specs.Flash.{FlashView, Passes, Passed, same_words}
use Rattle.paygo_spec.specs.Recovery.{Damaged, recover}
use Rattle.bank_journal.proofs.Calls.{passed_more}
use Rattle.device_core.specs.Changes.{Starts}
use Rattle.device_core.specs.declared.device.Phase.TheVariants as phase
use Rattle.device_core.proofs.power.start.Goals as goal

on_ok : {T E : Type 0} (r : Result T E) (P : Type 0) → is_err r ≡ false → OnOk r P → P
on_ok (Ok value) P ok is = is
on_ok (Err fault) P ok is = cc

same_told : (words : Option (List ℕ)) → option_map same_words words ≡ words
same_told None = refl
same_told (Some words) = refl

-- the power came, and then a damage was found
damaged : (was mid now : FlashView) (place : ℕ) → Passes same_words was mid → now.words ≡ mid.words → IfSome mid.words (λ words. recover words ≡ Damaged place) → (calls : ℕ) × (calls ≤ 513) × Passed calls mid now
    → Starts (phase.Damaged place) was now
damaged was mid now place up same found (calls, most, passed) =
    let told : mid.words ≡ was.words = up.words ∙ same_told was.words in (
      same ∙ told,
      subst (λ (w : Option (List ℕ)). IfSome w (λ words. recover words ≡ Damaged place)) told found,
      (1 + calls, passed_more 1 calls (1 + calls) was mid now refl up.call passed),
    )

pub returns-in-Err-Damaged : goal.returns-in-Err-Damaged
returns-in-Err-Damaged g c =
    let said = rw c.in-Err-Damaged.field-0-is at c.in-Err-Damaged.ensures in
    damaged _ _ _ c.in-Err-Damaged.place (on_ok c.power_up.result _ (sym c.if-is_err.ensures.value) c.power_up.ensures.ok) said.words said.found said.calls
