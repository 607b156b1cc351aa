-- The flash's count of faults in a run: each `down` is one fault, and nothing else is.
use Rattle.std.proofs.Common.{◌≡◌, ℕ, Bool, true, false, List, [], ◌∷◌, Option, Some, None, inl, inr, ap, arith}
use Rattle.paygo_spec.specs.declared.Event.{Event}
use Rattle.paygo_spec.specs.declared.Event.TheVariants.{Power, Make, Key, Tick, Show, Raise}
use Rattle.paygo_spec.specs.declared.Reply.{Reply}
use Rattle.paygo_spec.specs.declared.Reply.TheVariants.{Down, Damaged, Made}
use Rattle.paygo_spec.specs.Faults.{raised, Rose}
use Rattle.paygo_spec.specs.Pad.{Keys}
use Rattle.paygo_spec.specs.Machine.{State, Stored, Blank, Broken, Journal, Acts, ActsIf, Powers, GoesBy, FaultsBy, keys_after, reply_to_power}
use Rattle.run_spec.specs.Run.{Step, Say, Do, Act, Answer, Said, Did, Told, World, MayAnswerBy, RunBy, Run}
use Rattle.run_spec.specs.Unseen.{Finds, ActsUnseen}
use Rattle.run_spec.specs.Downs.{downs}

powers_count : (reply : Option Reply) (old new : State) → Powers reply old new → FaultsBy reply old.faults new.faults
powers_count (Some Down) old new p = p.rose
powers_count _ old new p = p.1.faults_are

goes_count : (reply : Option Reply) (keys : Keys) (old new : State) → GoesBy reply keys old new → FaultsBy reply old.faults new.faults
goes_count (Some Down) keys old new goes = goes.rose
goes_count _ keys old new goes = goes.faults_are

-- a device that is off answers nothing
off_count : (reply : Option Reply) (old new : State) → reply ≡ None → new.faults ≡ old.faults → FaultsBy reply old.faults new.faults
off_count None old new none same = same
off_count (Some reply) old new none same = absurd cc

acts_if_count : (on : Bool) (next : List ℕ → ℕ → ℕ) (event : Event) (reply : Option Reply) (old new : State) → ActsIf on next event reply old new → FaultsBy reply old.faults new.faults
acts_if_count true next event reply old new acts = goes_count reply (keys_after old.stored event old.keys) old new acts.1
acts_if_count false next event reply old new acts = off_count reply old new acts.0 acts.2.faults_are

pub acts_count : (next : List ℕ → ℕ → ℕ) (event : Event) (reply : Option Reply) (old new : State) → Acts next event reply old new → FaultsBy reply old.faults new.faults
acts_count next Power reply old new acts = powers_count reply old new acts.1
acts_count next (Make config) reply old new acts = acts_if_count old.on next (Make config) reply old new acts
acts_count next (Key key) reply old new acts = acts_if_count old.on next (Key key) reply old new acts
acts_count next (Tick seconds) reply old new acts = acts_if_count old.on next (Tick seconds) reply old new acts
acts_count next Show reply old new acts = acts_if_count old.on next Show reply old new acts
acts_count next Raise reply old new acts = acts_if_count old.on next Raise reply old new acts

-- the same where the flash isn't seen
found_count : (stored : Stored) (reply : Option Reply) (old new : State) → reply ≡ Some (reply_to_power stored) → new.faults ≡ old.faults → FaultsBy reply old.faults new.faults
found_count Blank (Some Down) old new is same = absurd cc
found_count (Broken word) (Some Down) old new is same = absurd cc
found_count (Journal history) (Some Down) old new is same = absurd cc
found_count stored _ old new is same = same

finds_count : (event : Event) (reply : Option Reply) (old new : State) → Finds event reply old new → FaultsBy reply old.faults new.faults
finds_count Power reply old new finds = found_count new.stored reply old new finds.0 finds.1.faults_are
finds_count (Make config) (Some (Damaged word)) old new finds = finds.2.faults_are
finds_count (Make config) (Some (Made number)) old new finds = finds.1.faults_are
finds_count _ _ old new finds = absurd finds

pub unseen_count : (next : List ℕ → ℕ → ℕ) (event : Event) (reply : Option Reply) (old new : State) → ActsUnseen next event reply old new → FaultsBy reply old.faults new.faults
unseen_count next event reply old new (inl acts, lawful) = acts_count next event reply old new acts
unseen_count next event reply old new (inr finds, lawful) = finds_count event reply old new finds

-- An answer `down` is one fault, and any other is none.
abbrev pub OneFault : Option Answer → ℕ → ℕ → Type 0
OneFault (Some (Told Down)) before after = Rose before after
OneFault answer before after = after ≡ before

-- one answer more in front
more : (answer : Option Answer) (answers : List (Option Answer)) (before mid now : ℕ) → OneFault answer before mid → now ≡ raised mid (downs answers) → now ≡ raised before (downs (answer ∷ answers))
more None answers before mid now one rest = omega (arith, one, rest)
more (Some (Said said)) answers before mid now one rest = omega (arith, one, rest)
more (Some (Did answer)) answers before mid now one rest = omega (arith, one, rest)
more (Some (Told Down)) answers before mid now one rest = omega (arith, one, rest)
more (Some (Told _)) answers before mid now one rest = omega (arith, one, rest)

told : (reply : Reply) (before after : ℕ) → FaultsBy (Some reply) before after → OneFault (Some (Told reply)) before after
told Down before after counted = counted
told _ before after counted = counted

none_yet : (before now : ℕ) → now ≡ before → now ≡ raised before 0
none_yet before now same = omega (arith, same)

module _ (acts : Event → Option Reply → State → State → Type 0)
    (counted : (event : Event) (reply : Option Reply) (old new : State) → acts event reply old new → FaultsBy reply old.faults new.faults) where
  answer_counts : (next : List ℕ → ℕ → ℕ) (step : Step) (answer : Option Answer) (old new : World) → MayAnswerBy acts next step answer old new → OneFault answer old.device.faults new.device.faults
  answer_counts next (Say text) (Some (Said said)) old new t = ap (λ (s : World). s.device.faults) t.1
  answer_counts next (Do command) (Some (Did answer)) old new t = ap (λ (s : State). s.faults) t.1
  answer_counts next (Act event) (Some (Told reply)) old new t = told reply old.device.faults new.device.faults (counted event (Some reply) old.device new.device t.0.1)
  answer_counts next (Act event) None old new t = counted event None old.device new.device t.0.1
  answer_counts next _ _ old new t = absurd t

  pub downs_counted_by : (next : List ℕ → ℕ → ℕ) (start now : World) (steps : List Step) (answers : List (Option Answer)) → RunBy acts next start steps answers now
      → now.device.faults ≡ raised start.device.faults (downs answers)
  downs_counted_by next start now [] [] run = none_yet start.device.faults now.device.faults (ap (λ (s : World). s.device.faults) run)
  downs_counted_by next start now (step ∷ steps) (answer ∷ answers) run =
      more answer answers start.device.faults run.0.device.faults now.device.faults (answer_counts next step answer start run.0 run.1) (downs_counted_by next run.0 now steps answers run.2)
  downs_counted_by next start now [] (answer ∷ answers) run = absurd run
  downs_counted_by next start now (step ∷ steps) [] run = absurd run

pub downs_counted : (next : List ℕ → ℕ → ℕ) (start now : World) (steps : List Step) (answers : List (Option Answer)) → Run next start steps answers now
    → now.device.faults ≡ raised start.device.faults (downs answers)
downs_counted next = downs_counted_by (Acts next) (acts_count next) next
