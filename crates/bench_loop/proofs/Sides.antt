-- The side that a run leaves out: lines of a device give no command, and lines of the ledger no event.
use Rattle.std.proofs.Common.{◌≡◌, ℕ, Bool, true, false, List, [], ◌∷◌, ◌++◌, length, map, Option, Some, None, Result, Ok, Err, if◌then◌else◌, sym, ap, ◌∙◌, subst}
use Rattle.std.specs.Prelude.{◌==◌, codes, nat_lt, unwrap_or}
use Rattle.std.specs.Option.{option_map}
use Rattle.std.specs.Fmt.{decimal}
use Rattle.ledger_spec.specs.declared.Command.{Command}
use Rattle.ledger_spec.specs.declared.TextFault.{TextFault}
use Rattle.paygo_spec.specs.declared.Event.{Event}
use Rattle.run_spec.specs.declared.Mode.{Mode}
use Rattle.run_spec.specs.declared.Mode.TheVariants as mode_is
use Rattle.run_spec.specs.declared.Status.{Status}
use Rattle.run_spec.specs.declared.Status.TheVariants as status
use Rattle.ledger_spec.specs.Reading.{command_in}
use Rattle.run_spec.specs.Lines.{whole_lines, all_lines}
use Rattle.paygo_spec.specs.declared.Reply.{Reply}
use Rattle.paygo_spec.specs.Machine.{State}
use Rattle.run_spec.specs.Run.{Step, Say, Do, Act, Answer, Said, Did, Told, World, RunBy, MayAnswerBy}
use Rattle.run_spec.specs.Meaning.{trimmed, steps_of_ledger, steps_of_device, steps_of_text, steps_of_line, step_of_reading}
use Rattle.run_spec.specs.Meaning.{steps_of}
use Rattle.run_spec.specs.Ran.{EndsBy}
use Rattle.run_spec.specs.DeviceLines.{events_in}
use Rattle.bench_loop.specs.Runs.{StaysAside}

-- No step is a command, and none is an event.
abbrev pub IsNoCommand : Step → Type 0
IsNoCommand (Do command) = ⊥
IsNoCommand _ = Unit {0}

abbrev pub IsNoEvent : Step → Type 0
IsNoEvent (Act event) = ⊥
IsNoEvent _ = Unit {0}

abbrev pub Each : (Step → Type 0) → List Step → Type 0
Each P [] = Unit {0}
Each P (step ∷ steps) = P step × Each P steps

each-append : (P : Step → Type 0) (xs ys : List Step) → Each P xs → Each P ys → Each P (xs ++ ys)
each-append P [] ys first second = second
each-append P (x ∷ xs) ys first second = (first.0, each-append P xs ys first.1 second)

each_front : (P : Step → Type 0) (xs ys : List Step) → Each P (xs ++ ys) → Each P xs
each_front P [] ys all = tt
each_front P (x ∷ xs) ys all = (all.0, each_front P xs ys all.1)

acts : (events : List Event) → Each IsNoCommand (map Act events)
acts [] = tt
acts (event ∷ events) = (tt, acts events)

asked : (events : Option (List Event)) → Each IsNoCommand (unwrap_or (option_map (λ events. map Act events) events) (Say (codes "unread") ∷ []))
asked None = (tt, tt)
asked (Some events) = acts events

meant : (reading : Result Command TextFault) → IsNoEvent (step_of_reading reading)
meant (Ok command) = tt
meant (Err fault) = tt

by_text : (P : Step → Type 0) (test : Bool) (a b : List Step) → Each P a → Each P b → Each P (if test then a else b)
by_text P true a b first second = first
by_text P false a b first second = second

device_text : (text : List ℕ) → Each IsNoCommand (steps_of_text mode_is.Device text)
device_text [] = tt
device_text (c ∷ cs) = by_text IsNoCommand (c == 123) (steps_of_ledger mode_is.Device (c ∷ cs)) (steps_of_device mode_is.Device (c ∷ cs)) (tt, tt) (asked (events_in (c ∷ cs)))

ledger_text : (text : List ℕ) → Each IsNoEvent (steps_of_text mode_is.Serve text)
ledger_text [] = tt
ledger_text (c ∷ cs) = by_text IsNoEvent (c == 123) (steps_of_ledger mode_is.Serve (c ∷ cs)) (steps_of_device mode_is.Serve (c ∷ cs)) (meant (command_in (c ∷ cs)), tt) (tt, tt)

device_line : (line : List ℕ) → Each IsNoCommand (steps_of_line mode_is.Device line)
device_line line = by_text IsNoCommand (nat_lt 4096 (length line)) (Say (codes "long " ++ decimal (length line)) ∷ []) (steps_of_text mode_is.Device (trimmed line)) (tt, tt) (device_text (trimmed line))

ledger_line : (line : List ℕ) → Each IsNoEvent (steps_of_line mode_is.Serve line)
ledger_line line = by_text IsNoEvent (nat_lt 4096 (length line)) (Say (codes "long " ++ decimal (length line)) ∷ []) (steps_of_text mode_is.Serve (trimmed line)) (tt, tt) (ledger_text (trimmed line))

of_lines : (P : Step → Type 0) (mode : Mode) → ((line : List ℕ) → Each P (steps_of_line mode line)) → (lines : List (List ℕ)) → Each P (steps_of mode lines)
of_lines P mode each [] = tt
of_lines P mode each (line ∷ lines) = each-append P (steps_of_line mode line) (steps_of mode lines) (each line) (of_lines P mode each lines)

-- so the steps that a run took are such steps too
taken : (next : List ℕ → ℕ → ℕ) (P : Step → Type 0) (mode : Mode) → ((line : List ℕ) → Each P (steps_of_line mode line)) → (result : Status) (ended : Bool) (bytes : List ℕ) (steps : List Step) (reached now : World)
    → EndsBy next mode result ended bytes steps reached now → Each P steps
taken next P mode each status.Ok ended bytes steps reached now ends = subst (Each P) (sym ends.0) (of_lines P mode each (all_lines bytes))
taken next P mode each status.Usage ended bytes steps reached now ends = absurd ends
taken next P mode each status.Read ended bytes steps reached now ends = subst (Each P) (sym ends.0) (of_lines P mode each (whole_lines bytes))
taken next P mode each status.Write ended bytes steps reached now ends =
    let within = ends.0.1 in
    subst (Each P) (sym within.steps_are)
    (each-append P (steps_of mode within.earlier) within.front (of_lines P mode each within.earlier) (each_front P within.front within.others (subst (Each P) within.own (each ends.0.0))))
taken next P mode each status.Keep ended bytes steps reached now ends = subst (Each P) (sym ends.2.steps_are) (of_lines P mode each ends.2.earlier)
taken next P mode each status.Memory ended bytes steps reached now ends = subst (Each P) (sym ends.0.1.steps_are) (of_lines P mode each ends.0.1.earlier)
taken next P mode each status.Long ended bytes steps reached now ends = subst (Each P) (sym ends.0) (of_lines P mode each (whole_lines bytes))

-- a step that is no command leaves the tables, and one that is no event the device
tables_stay : (acts : Event → Option Reply → State → State → Type 0) (next : List ℕ → ℕ → ℕ) (step : Step) (answer : Option Answer) (old new : World) → IsNoCommand step → MayAnswerBy acts next step answer old new → new.tables ≡ old.tables
tables_stay acts next (Do command) answer old new other may = absurd other
tables_stay acts next (Say text) None old new other may = absurd may
tables_stay acts next (Say text) (Some (Said said)) old new other may = ap (λ (w : World). w.tables) may.1
tables_stay acts next (Say text) (Some (Did answer)) old new other may = absurd may
tables_stay acts next (Say text) (Some (Told reply)) old new other may = absurd may
tables_stay acts next (Act event) None old new other may = may.1
tables_stay acts next (Act event) (Some (Said said)) old new other may = absurd may
tables_stay acts next (Act event) (Some (Did answer)) old new other may = absurd may
tables_stay acts next (Act event) (Some (Told reply)) old new other may = may.1

device_stays : (acts : Event → Option Reply → State → State → Type 0) (next : List ℕ → ℕ → ℕ) (step : Step) (answer : Option Answer) (old new : World) → IsNoEvent step → MayAnswerBy acts next step answer old new → new.device ≡ old.device
device_stays acts next (Act event) answer old new other may = absurd other
device_stays acts next (Say text) None old new other may = absurd may
device_stays acts next (Say text) (Some (Said said)) old new other may = ap (λ (w : World). w.device) may.1
device_stays acts next (Say text) (Some (Did answer)) old new other may = absurd may
device_stays acts next (Say text) (Some (Told reply)) old new other may = absurd may
device_stays acts next (Do command) None old new other may = absurd may
device_stays acts next (Do command) (Some (Said said)) old new other may = absurd may
device_stays acts next (Do command) (Some (Did answer)) old new other may = may.1
device_stays acts next (Do command) (Some (Told reply)) old new other may = absurd may

run_stays : {A : Type 0} → (acts : Event → Option Reply → State → State → Type 0) (next : List ℕ → ℕ → ℕ) (P : Step → Type 0) (part : World → A) → ((step : Step) (answer : Option Answer) (old new : World) → P step → MayAnswerBy acts next step answer old new → part new ≡ part old)
    → (start now : World) (steps : List Step) (answers : List (Option Answer)) → Each P steps → RunBy acts next start steps answers now → part now ≡ part start
run_stays acts next P part one start now [] [] each run = ap part run
run_stays acts next P part one start now (step ∷ steps) (answer ∷ answers) each run = run_stays acts next P part one run.0 now steps answers each.1 run.2 ∙ one step answer start run.0 each.0 run.1
run_stays acts next P part one start now [] (answer ∷ answers) each run = absurd run
run_stays acts next P part one start now (step ∷ steps) [] each run = absurd run

one_command : (command : Command) → Each IsNoCommand (Do command ∷ []) → ⊥
one_command command each = each.0

-- a command that failed is one of a run that may commands
reached_tables : (next : List ℕ → ℕ → ℕ) (result : Status) (ended : Bool) (bytes : List ℕ) (steps : List Step) (reached now : World) → EndsBy next mode_is.Device result ended bytes steps reached now → now.tables ≡ reached.tables
reached_tables next status.Ok ended bytes steps reached now ends = ap (λ (w : World). w.tables) ends.1
reached_tables next status.Usage ended bytes steps reached now ends = absurd ends
reached_tables next status.Read ended bytes steps reached now ends = ap (λ (w : World). w.tables) ends.1
reached_tables next status.Write ended bytes steps reached now ends = ap (λ (w : World). w.tables) ends.1
reached_tables next status.Memory ended bytes steps reached now ends = ap (λ (w : World). w.tables) ends.1
reached_tables next status.Long ended bytes steps reached now ends = ap (λ (w : World). w.tables) ends.1
reached_tables next status.Keep ended bytes steps reached now (line, command, before, asks, change) = absurd (one_command command (subst (Each IsNoCommand) asks.alone (device_line line)))

-- what a run leaves out stays
pub aside : (acts : Event → Option Reply → State → State → Type 0) (next : List ℕ → ℕ → ℕ) (mode : Mode) (result : Status) (ended : Bool) (bytes : List ℕ) (steps : List Step) (answers : List (Option Answer)) (start reached now : World)
    → RunBy acts next start steps answers reached → EndsBy next mode result ended bytes steps reached now → now.device ≡ reached.device → StaysAside mode start now
aside acts next mode_is.Both result ended bytes steps answers start reached now run ends same = record { tables = λ e. cc; device = λ e. cc }
aside acts next mode_is.Device result ended bytes steps answers start reached now run ends same = record {
  tables = λ e. reached_tables next result ended bytes steps reached now ends
      ∙ run_stays acts next IsNoCommand (λ (w : World). w.tables) (tables_stay acts next) start reached steps answers (taken next IsNoCommand mode_is.Device device_line result ended bytes steps reached now ends) run;
  device = λ e. cc;
}
aside acts next mode_is.Serve result ended bytes steps answers start reached now run ends same = record {
  tables = λ e. cc;
  device = λ e. same ∙ run_stays acts next IsNoEvent (λ (w : World). w.device) (device_stays acts next) start reached steps answers (taken next IsNoEvent mode_is.Serve ledger_line result ended bytes steps reached now ends) run;
}
