-- What is drawn is in range.
use Rattle.std.proofs.Common.{◌≡◌, ℕ, ◌+◌, ◌-◌, ◌%◌, ◌<◌, ◌≤◌, ◌^◌, Bool, true, false, nat_le, List, zero, suc, [], ◌∷◌, ◌++◌, map, length, refl, sym, arith, subst}
use Rattle.std.specs.Prelude.{All, ◌==◌, if◌then◌else◌}
use Rattle.std.specs.List.{AllByRecursion, flat_map, range_with_len}
use Rattle.std.proofs.lemmas.List.Elements.{All-from_recursion}
use Rattle.std.proofs.lemmas.List.FromFn.{length-map-range_with_len}
use Rattle.ledger_spec.specs.declared.Enrol.{Enrol}
use Rattle.ledger_spec.specs.declared.Command.TheVariants.{Enroll}
use Rattle.ledger_spec.specs.Ledger.{IsCommand}
use Rattle.fleet_spec.specs.declared.Step.{Step}
use Rattle.fleet_spec.specs.declared.Step.TheVariants.{Plan, Wrong, Tick, Power}
use Rattle.fleet_spec.specs.Words.{word_on}
use Rattle.fleet_spec.specs.Script.{enrol_of, enrols_of, payment, payments, plans, cut_of, mistakes, entry, entries_by, entries, pay_day, bits_of, hours, steps_by, steps_of_day, steps_of}
use Rattle.fleet_spec.specs.Fleet.{StepIsInRange, IsInRange}
use Rattle.fleet_script.proofs.TextLemmas.{serial_is_short}

module _ {X : Type 0} (P : X → Type 0) where
  -- one list behind another
  both_in : (xs ys : List X) → AllByRecursion P xs → AllByRecursion P ys → AllByRecursion P (xs ++ ys)
  both_in [] ys one two = two
  both_in (x ∷ xs) ys one two = (one.0, both_in xs ys one.1 two)

  -- each of some lists, one for each number up to a bound
  flat_in : (f : ℕ → List X) (from n bound : ℕ) → from + n ≤ bound → ((k : ℕ) → k < bound → AllByRecursion P (f k)) → AllByRecursion P (flat_map f (range_with_len from n))
  flat_in f from zero bound within each = tt
  flat_in f from (suc n) bound within each = both_in (f from) (flat_map f (range_with_len (from + 1) n)) (each from (omega arith)) (flat_in f (from + 1) n bound (omega arith) each)

  -- one element for each number up to a bound
  map_in : (f : ℕ → X) (from n bound : ℕ) → from + n ≤ bound → ((k : ℕ) → k < bound → P (f k)) → AllByRecursion P (map f (range_with_len from n))
  map_in f from zero bound within each = tt
  map_in f from (suc n) bound within each = (each from (omega arith), map_in f (from + 1) n bound (omega arith) each)

  -- a list by a test
  either_in : (b : Bool) (xs ys : List X) → AllByRecursion P xs → AllByRecursion P ys → AllByRecursion P (if b then xs else ys)
  either_in true xs ys one two = one
  either_in false xs ys one two = two

-- a device may be enrolled so
enrol_in_range : (seed device : ℕ) → device < 2 ^ 32 → IsCommand (Enroll (enrol_of seed device))
enrol_in_range seed device small = record {
  serial = serial_is_short device small;
  start = omega arith;
  divider = refl;
  price = (omega arith, omega arith);
  total = (omega arith, omega arith);
}

module _ (devices : ℕ) where
  abbrev AreInRange : List Step → Type 0
  AreInRange = AllByRecursion (StepIsInRange devices)

  -- the steps of a device on a day, part by part
  payments_in_range : (drawn day device : ℕ) → AreInRange (payments drawn day device)
  payments_in_range drawn day device =
      let paid : StepIsInRange devices (payment device day) = (omega arith, omega arith) in
      either_in (StepIsInRange devices) (day % 7 == 0) _ [] (either_in (StepIsInRange devices) (bits_of drawn 0 2 == 0) _ _ (paid, (paid, tt)) (paid, tt)) tt

  plans_in_range : (drawn device : ℕ) → device < devices → AreInRange (plans drawn device)
  plans_in_range drawn device inside = either_in (StepIsInRange devices) (bits_of drawn 7 3 == 0) (Plan device (cut_of drawn) ∷ []) [] (inside, tt) tt

  mistakes_in_range : (drawn device : ℕ) → device < devices → AreInRange (mistakes drawn device)
  mistakes_in_range drawn device inside = either_in (StepIsInRange devices) (bits_of drawn 4 3 == 0) (Wrong device ∷ []) [] (inside, tt) tt

  entries_in_range : (choice day device : ℕ) → device < devices → AreInRange (entries_by choice day device)
  entries_in_range choice day device inside =
      either_in (StepIsInRange devices) (choice == 0) [] _ tt
      (either_in (StepIsInRange devices) (choice == 1) (entry device day ∷ []) _ (inside, tt)
      (either_in (StepIsInRange devices) (choice == 2) (entry device day ∷ entry device day ∷ []) _ (inside, (inside, tt))
      (either_in (StepIsInRange devices) (nat_le 7 day) (entry device day ∷ entry device (day - 7) ∷ []) (entry device day ∷ []) (inside, (inside, tt)) (inside, tt))))

  hours_in_range : (device : ℕ) → device < devices → AreInRange (hours device)
  hours_in_range device inside = map_in (StepIsInRange devices) (λ hour. Tick device 3600) 0 24 24 (omega arith) (λ hour h. (inside, omega arith))

  -- all of them
  device_day_in_range : (drawn day device : ℕ) → device < devices → AreInRange (steps_by drawn day device)
  device_day_in_range drawn day device inside =
      let In : Step → Type 0 = StepIsInRange devices in
      both_in In (payments drawn day device) _ (payments_in_range drawn day device)
      (both_in In (plans drawn device) _ (plans_in_range drawn device inside)
      (both_in In (mistakes drawn device) _ (mistakes_in_range drawn device inside)
      (both_in In (entries drawn day device) _ (entries_in_range (bits_of drawn 2 2) (pay_day day) device inside)
      (both_in In (hours device) (Power device ∷ []) (hours_in_range device inside) (inside, tt)))))

  -- the steps of a day, and of all days
  day_in_range : (seed day : ℕ) → AreInRange (steps_of_day seed devices day)
  day_in_range seed day =
      flat_in (StepIsInRange devices) (λ device. steps_by (word_on seed devices day device) day device) 0 devices devices (omega arith)
      (λ device inside. device_day_in_range (word_on seed devices day device) day device inside)

  days_in_range : (seed days : ℕ) → AreInRange (steps_of seed devices days)
  days_in_range seed days = flat_in (StepIsInRange devices) (steps_of_day seed devices) 0 days days (omega arith) (λ day inside. day_in_range seed day)

-- the script of fewer than 2^32 devices is in range
pub script_in_range : (seed devices days : ℕ) → devices ≤ 2 ^ 32 → IsInRange (enrols_of seed devices) (steps_of seed devices days)
script_in_range seed devices days few =
    let sold : length (enrols_of seed devices) ≡ devices = length-map-range_with_len (enrol_of seed) 0 devices in
    let Sold : Enrol → Type 0 = λ enrol. IsCommand (Enroll enrol) in
    record {
      devices = All-from_recursion Sold (enrols_of seed devices) (map_in Sold (enrol_of seed) 0 devices devices (omega arith) (λ device inside. enrol_in_range seed device (omega arith)));
      steps_are = subst (λ n. All (StepIsInRange n) (steps_of seed devices days)) (sym sold) (All-from_recursion (StepIsInRange devices) (steps_of seed devices days) (days_in_range devices seed days));
    }
