-- What was planned for a flash, over calls that come one after another.
use Rattle.std.proofs.Common.{◌≡◌, ℕ, ◌-◌, ◌≤◌, Option, Some, None, inl, inr, refl, ◌∙◌, subst, arith}
use Rattle.paygo_spec.specs.Faults.{Rose}
use Rattle.paygo_spec.specs.Flash.{FlashView, DueAfter, DueWithin, Passed, Failed, PlanFrom, KeepsPlan}

pub rose_later : (before now : ℕ) → Rose before now → before ≤ now
rose_later before now rose = omega (arith, rose)

same_later : (before now : ℕ) → now ≡ before → before ≤ now
same_later before now same = omega (arith, same)

-- no call was made
stays : (due : Option (Option ℕ)) (old new : FlashView) → old.due ≡ due → new.due ≡ old.due → new.faults ≡ old.faults → PlanFrom due old new
stays None old new is same faults = (same ∙ is, same_later old.faults new.faults faults)
stays (Some None) old new is same faults = (same ∙ is, faults)
stays (Some (Some due)) old new is same faults = inl (record { left = due; most = omega arith; due_is = same ∙ is; faults_are = faults })

pub plan_stays : (old new : FlashView) → new.due ≡ old.due → new.faults ≡ old.faults → KeepsPlan old new
plan_stays old new same faults = stays old.due old new refl same faults

-- n calls succeeded
passed : (n : ℕ) (due : Option (Option ℕ)) (old new : FlashView) → DueAfter n due new.due → new.faults ≡ old.faults → PlanFrom due old new
passed n None old new after faults = (after, same_later old.faults new.faults faults)
passed n (Some None) old new after faults = (after, faults)
passed n (Some (Some due)) old new after faults = inl (record { left = due - n; most = omega arith; due_is = after.1; faults_are = faults })

pub plan_passed : (n : ℕ) (old new : FlashView) → Passed n old new → KeepsPlan old new
plan_passed n old new p = passed n old.due old new p.due p.faults

-- one of n calls failed
failed : (n : ℕ) (due : Option (Option ℕ)) (old new : FlashView) → DueWithin n due new.due → Rose old.faults new.faults → PlanFrom due old new
failed n None old new within rose = (within, rose_later old.faults new.faults rose)
failed n (Some None) old new within rose = absurd within
failed n (Some (Some due)) old new within rose = inr (record { due_is = within.1; rose = rose })

pub plan_failed : (n : ℕ) (old new : FlashView) → Failed n old new → KeepsPlan old new
plan_failed n old new p = failed n old.due old new p.due p.rose

-- then further calls
behind : (due : Option (Option ℕ)) (old mid new : FlashView) → mid.due ≡ due → KeepsPlan mid new → PlanFrom due mid new
behind due old mid new is kept = subst (λ (d : Option (Option ℕ)). PlanFrom d mid new) is kept

ahead_then : (due left : ℕ) (old mid new : FlashView) → left ≤ due → mid.faults ≡ old.faults → PlanFrom (Some (Some left)) mid new → PlanFrom (Some (Some due)) old new
ahead_then due left old mid new most same (inl ahead) =
    inl (record { left = ahead.left; most = omega (arith, most, ahead.most); due_is = ahead.due_is; faults_are = ahead.faults_are ∙ same })
ahead_then due left old mid new most same (inr come) =
    inr (record { due_is = come.due_is; rose = subst (λ (n : ℕ). Rose n new.faults) same come.rose })

come_then : (due : ℕ) (old mid new : FlashView) → Rose old.faults mid.faults → PlanFrom (Some None) mid new → PlanFrom (Some (Some due)) old new
come_then due old mid new rose after = inr (record { due_is = after.0; rose = after.1 ∙ rose })

then : (due : Option (Option ℕ)) (old mid new : FlashView) → PlanFrom due old mid → KeepsPlan mid new → PlanFrom due old new
then None old mid new first second =
    let after = behind None old mid new first.0 second in (after.0, omega (arith, first.1, after.1))
then (Some None) old mid new first second =
    let after = behind (Some None) old mid new first.0 second in (after.0, after.1 ∙ first.1)
then (Some (Some due)) old mid new (inl ahead) second =
    ahead_then due ahead.left old mid new ahead.most ahead.faults_are (behind (Some (Some ahead.left)) old mid new ahead.due_is second)
then (Some (Some due)) old mid new (inr come) second = come_then due old mid new come.rose (behind (Some None) old mid new come.due_is second)

pub plan_then : (old mid new : FlashView) → KeepsPlan old mid → KeepsPlan mid new → KeepsPlan old new
plan_then old mid new first second = then old.due old mid new first second

-- the count never falls
later : (due : Option (Option ℕ)) (old new : FlashView) → PlanFrom due old new → old.faults ≤ new.faults
later None old new kept = kept.1
later (Some None) old new kept = same_later old.faults new.faults kept.1
later (Some (Some due)) old new (inl ahead) = same_later old.faults new.faults ahead.faults_are
later (Some (Some due)) old new (inr come) = rose_later old.faults new.faults come.rose

pub plan_later : (old new : FlashView) → KeepsPlan old new → old.faults ≤ new.faults
plan_later old new kept = later old.due old new kept
