-- What `advise` answers.
use Rattle.std.specs.Prelude.{◌≡◌, ℕ, ◌<◌, ◌≤◌, List, Result, Ok, Err}
use Rattle.ledger_spec.specs.declared.Order.{Order}
use Rattle.sync_advice.specs.declared.advice.Advice.{Advice}
use Rattle.sync_advice.specs.declared.advice.Advice.TheVariants as advice
use Rattle.sync_advice.specs.declared.advice.AdviceFault.{AdviceFault}
use Rattle.sync_advice.specs.declared.advice.AdviceFault.TheVariants as fault
use Rattle.sync_advice.specs.Advice.{last_count, Climbs, Stops}

-- A list climbs from the floor to the greatest count, a gap is where the climb stops, and the floor is above the greatest
-- count, or isn't.
abbrev pub AnswersAs : List Order → ℕ → ℕ → Result Advice AdviceFault → Type 0
AnswersAs orders limit floor (Ok (advice.List list)) =
    (floor ≤ last_count orders) × Climbs orders limit floor list.items (last_count orders)
AnswersAs orders limit floor (Ok (advice.Gap count)) = (floor ≤ last_count orders) × Stops orders limit floor count
AnswersAs orders limit floor (Err (fault.Above last)) = (last_count orders < floor) × (last ≡ last_count orders)
AnswersAs orders limit floor (Err fault.Memory) = Unit {0}

-- Two answers say the same: the same orders in the same order, the same gap, or the same greatest count.
abbrev pub SayTheSame : Result Advice AdviceFault → Result Advice AdviceFault → Type 0
SayTheSame (Ok (advice.List one)) (Ok (advice.List other)) = one.items ≡ other.items
SayTheSame (Ok (advice.Gap one)) (Ok (advice.Gap other)) = one ≡ other
SayTheSame (Err (fault.Above one)) (Err (fault.Above other)) = one ≡ other
SayTheSame one other = ⊥

-- What is said of the list that is advised.
abbrev pub IfList : Advice → (List Order → Type 0) → Type 0
IfList (advice.List list) P = P list.items
IfList (advice.Gap count) P = Unit {0}

-- What is said where no list is advised.
abbrev pub IfGap : Advice → Type 0 → Type 0
IfGap (advice.List list) P = Unit {0}
IfGap (advice.Gap count) P = P
