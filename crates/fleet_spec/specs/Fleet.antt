-- What becomes of a fleet: one shop, whose tables all share, and a machine for each device with the power cut that is
-- planned for its flash. Its only free choice is what a power cut leaves: whether the event that it cut off counts.
use Rattle.std.specs.Prelude.{◌≡◌, ℕ, ◌-◌, ◌^◌, ◌<◌, ◌≤◌, All, Bool, true, false, nat_lt, ◌↔◌, min, List, [], ◌∷◌, ◌++◌, length, map, sum_by, slice_get, slice_set, Option, Some, None, unwrap_or, if◌then◌else◌}
use Rattle.std.specs.Option.{option_map}
use Rattle.std.specs.List.{count_by}
use Rattle.paygo_spec.specs.declared.Config.{Config}
use Rattle.paygo_spec.specs.declared.Event.{Event}
use Rattle.paygo_spec.specs.declared.Event.TheVariants as event
use Rattle.paygo_spec.specs.declared.Reply.{Reply}
use Rattle.paygo_spec.specs.declared.Reply.TheVariants as reply
use Rattle.paygo_spec.specs.Digits.{digits_of}
use Rattle.paygo_spec.specs.Machine.{Stored, Blank, Journal, State, Acts, IsEvent, starting, clock_at, calls_of}
use Rattle.ledger_spec.specs.declared.Command.TheVariants.{Enroll}
use Rattle.ledger_spec.specs.declared.Enrol.{Enrol}
use Rattle.ledger_spec.specs.declared.Order.{Order}
use Rattle.ledger_spec.specs.Tables.{Tables, no_tables, order_of, form_in}
use Rattle.ledger_spec.specs.Ledger.{IsCommand, done}
use Rattle.fleet_spec.specs.declared.Step.{Step}
use Rattle.fleet_spec.specs.declared.Step.TheVariants.{Ledger, Plan, Wrong, Enter, Tick, Power}
use Rattle.fleet_spec.specs.declared.Totals.{Totals}

-- A device of the fleet: its machine, and how many calls of its flash pass before the one that is cut, where a cut is planned.
pub record Site : Type 0 where
  pub device : State
  pub due : Option ℕ

-- The shop's tables, and the devices.
pub record Fleet : Type 0 where
  pub tables : Tables
  pub sites : List Site

-- Whether a planned cut falls among so many calls.
abbrev pub falls_in : ℕ → Option ℕ → Bool
falls_in calls None = false
falls_in calls (Some due) = nat_lt due calls

-- What is planned after so many calls: once it came, nothing.
abbrev pub planned_after : ℕ → Option ℕ → Option ℕ
planned_after calls None = None
planned_after calls (Some due) = if nat_lt due calls then None else Some (due - calls)

-- An event that makes so many calls of the flash, where that is said, is answered `down` exactly where the planned cut falls
-- among them.
abbrev pub CutsByPlan : Option ℕ → Option Reply → Option ℕ → Option ℕ → Type 0
CutsByPlan None answer old new = Unit {0}
CutsByPlan (Some calls) answer old new =
    ((answer ≡ Some reply.Down) ↔ (falls_in calls old ≡ true)) × (new ≡ planned_after calls old)

-- An event happens to a device: it is answered as its machine may, and a planned cut comes where it falls.
pub record Happens (next : List ℕ → ℕ → ℕ) (happens : Event) (answer : Option Reply) (old new : Site) : Type 0 where
  pub is_event : IsEvent happens
  pub acts : Acts next happens answer old.device new.device
  pub cuts : CutsByPlan (calls_of next old.device happens) answer old.due new.due

-- Events happen to a device one after another.
abbrev pub Happen : (List ℕ → ℕ → ℕ) → List Event → List (Option Reply) → Site → Site → Type 0
Happen next [] [] old new = new ≡ old
Happen next (e ∷ events) (answer ∷ answers) old new =
    (mid : Site) × Happens next e answer old mid × Happen next events answers mid new
Happen next _ _ old new = ⊥

-- The configuration that a device gets which is sold like this.
abbrev pub config_of : Enrol → Config
config_of enrol = record { key = enrol.key; start = enrol.start; divider = enrol.divider; form = enrol.form }

-- Before its first event a device is off, its flash erased, and no cut planned.
abbrev pub new_site : ℕ → Site
new_site faults = record { device = starting Blank faults; due = None }

-- Each device that is sold was powered and made.
abbrev pub AreMade : (List ℕ → ℕ → ℕ) → List Enrol → List Site → Type 0
AreMade next [] [] = Unit {0}
AreMade next (enrol ∷ enrols) (site ∷ sites) =
    ((answers : List (Option Reply))
    × Happen next (event.Power ∷ event.Make (config_of enrol) ∷ []) answers (new_site 0) site)
    × AreMade next enrols sites
AreMade next _ _ = ⊥

-- The tables of a shop that sold these devices, after it had others.
abbrev pub sold : (List ℕ → ℕ → ℕ) → Tables → List Enrol → Tables
sold next tables [] = tables
sold next tables (enrol ∷ enrols) = sold next (done next tables (Enroll enrol)).tables enrols

-- Before the first step all devices are sold, and each of them is made.
pub record Begins (next : List ℕ → ℕ → ℕ) (enrols : List Enrol) (fleet : Fleet) : Type 0 where
  pub tables : fleet.tables ≡ sold next no_tables enrols
  pub sites : AreMade next enrols fleet.sites

-- The keys of these digits, and `#`.
abbrev pub typed : List ℕ → List Event
typed digits = map event.Key (digits ++ 35 ∷ [])

-- The keys of an order's token, in the form of the order's row.
abbrev pub typed_order : Tables → Order → List Event
typed_order tables order =
    unwrap_or (option_map (λ form. typed (digits_of form order.token)) (form_in tables order.serial)) []

-- Wrong digits in a form: as many as it has, each the least.
abbrev pub typed_wrong : Option Enrol → List Event
typed_wrong enrol = unwrap_or (option_map (λ e. typed (digits_of e.form 0)) enrol) []

-- The events of a step at its device: keys, a tick, or power.
abbrev pub events_of : List Enrol → Tables → Step → List Event
events_of enrols tables (Wrong device) = typed_wrong (slice_get enrols device)
events_of enrols tables (Enter device id) = unwrap_or (option_map (typed_order tables) (order_of tables id)) []
events_of enrols tables (Tick device seconds) = event.Tick seconds ∷ []
events_of enrols tables (Power device) = event.Power ∷ []
events_of enrols tables _ = []

-- These events happen to one of the devices, and the others stay as they were.
pub record HappenAt (next : List ℕ → ℕ → ℕ) (at : ℕ) (events : List Event) (answers : List (Option Reply))
    (old new : List Site) : Type 0 where
  pub before : Site
  pub after : Site
  pub found : slice_get old at ≡ Some before
  pub happen : Happen next events answers before after
  pub left : new ≡ slice_set old at after

-- A device with another plan.
abbrev pub planned : ℕ → Site → Site
planned due site = record site { due = Some due }

-- A plan is made for one of the devices.
pub record IsPlanned (at due : ℕ) (old new : List Site) : Type 0 where
  pub before : Site
  pub found : slice_get old at ≡ Some before
  pub left : new ≡ slice_set old at (planned due before)

-- A step of the fleet: a command is answered by the shop, a power cut is planned, or events happen to a device.
abbrev pub Steps : (List ℕ → ℕ → ℕ) → List Enrol → Step → List (Option Reply) → Fleet → Fleet → Type 0
Steps next enrols (Ledger command) answers old new =
    IsCommand command × (answers ≡ []) × (new.tables ≡ (done next old.tables command).tables) × (new.sites ≡ old.sites)
Steps next enrols (Plan device cut) answers old new =
    (answers ≡ []) × (new.tables ≡ old.tables) × IsPlanned device cut.after old.sites new.sites
Steps next enrols (Wrong device) answers old new =
    (new.tables ≡ old.tables)
    × HappenAt next device (events_of enrols old.tables (Wrong device)) answers old.sites new.sites
Steps next enrols (Enter device id) answers old new =
    (new.tables ≡ old.tables)
    × HappenAt next device (events_of enrols old.tables (Enter device id)) answers old.sites new.sites
Steps next enrols (Tick device seconds) answers old new =
    (new.tables ≡ old.tables)
    × HappenAt next device (events_of enrols old.tables (Tick device seconds)) answers old.sites new.sites
Steps next enrols (Power device) answers old new =
    (new.tables ≡ old.tables)
    × HappenAt next device (events_of enrols old.tables (Power device)) answers old.sites new.sites

-- Steps one after another, and all their answers in order.
abbrev pub Goes : (List ℕ → ℕ → ℕ) → List Enrol → List Step → List (Option Reply) → Fleet → Fleet → Type 0
Goes next enrols [] answers old new = (answers ≡ []) × (new ≡ old)
Goes next enrols (step ∷ steps) answers old new =
    (mid : Fleet) × (first : List (Option Reply)) × (others : List (Option Reply)) × (answers ≡ first ++ others)
    × Steps next enrols step first old mid × Goes next enrols steps others mid new

-- Whether an answer is one that accepts an entry, or one of these.
abbrev pub is_accepted : Option Reply → Bool
is_accepted (Some (reply.Set count value left)) = true
is_accepted (Some (reply.Added count value left free)) = true
is_accepted (Some (reply.Free count)) = true
is_accepted (Some (reply.Synced count)) = true
is_accepted _ = false

abbrev pub is_old : Option Reply → Bool
is_old (Some reply.Old) = true
is_old _ = false

abbrev pub is_invalid : Option Reply → Bool
is_invalid (Some (reply.Invalid block)) = true
is_invalid _ = false

abbrev pub is_blocked : Option Reply → Bool
is_blocked (Some (reply.Blocked block)) = true
is_blocked _ = false

abbrev pub is_down : Option Reply → Bool
is_down (Some reply.Down) = true
is_down _ = false

-- The seconds left that a device's flash stands for: none where no device was made on it, or where it is damaged.
abbrev pub left_of : Stored → ℕ
left_of (Journal history) = (clock_at history history.entries).left
left_of _ = 0

-- A number that stands still at 2^64 - 1.
abbrev pub still : ℕ → ℕ
still n = min n (2 ^ 64 - 1)

-- The totals of these answers, and of what stands at the end.
abbrev pub totals_of : List (Option Reply) → Fleet → Totals
totals_of answers fleet = record {
  orders = still (length fleet.tables.orders);
  accepted = still (count_by is_accepted answers);
  old = still (count_by is_old answers);
  invalid = still (count_by is_invalid answers);
  blocked = still (count_by is_blocked answers);
  down = still (count_by is_down answers);
  left = still (sum_by (λ site. left_of site.device.stored) fleet.sites);
}

-- These are the totals of a fleet of these devices after these steps.
pub record Came (next : List ℕ → ℕ → ℕ) (enrols : List Enrol) (steps : List Step) (totals : Totals) : Type 0 where
  pub start : Fleet
  pub begins : Begins next enrols start
  pub answers : List (Option Reply)
  pub end : Fleet
  pub goes : Goes next enrols steps answers start end
  pub totals_are : totals ≡ totals_of answers end

-- A step of a fleet of so many devices is in range: its device is one of them, its command in range, its seconds at most
-- 999,999,999.
abbrev pub StepIsInRange : ℕ → Step → Type 0
StepIsInRange devices (Ledger command) = IsCommand command
StepIsInRange devices (Plan device cut) = device < devices
StepIsInRange devices (Wrong device) = device < devices
StepIsInRange devices (Enter device id) = device < devices
StepIsInRange devices (Tick device seconds) = (device < devices) × (seconds ≤ 999999999)
StepIsInRange devices (Power device) = device < devices

-- A script is in range: what its devices are enrolled with, and its steps.
pub record IsInRange (enrols : List Enrol) (steps : List Step) : Type 0 where
  pub devices : All (λ enrol. IsCommand (Enroll enrol)) enrols
  pub steps_are : All (StepIsInRange (length enrols)) steps

-- No power cut is planned in these steps.
abbrev pub HasNoPlan : List Step → Type 0
HasNoPlan [] = Unit {0}
HasNoPlan (Plan device cut ∷ steps) = ⊥
HasNoPlan (step ∷ steps) = HasNoPlan steps
