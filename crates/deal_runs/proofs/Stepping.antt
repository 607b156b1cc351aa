-- The steps of the lines of one side: a run of the shop has no event of the device, and a run of the device no command.
use Rattle.std.proofs.Common.{ℕ, Bool, ◌==◌, nat_lt, List, [], ◌∷◌, ◌++◌, length, map, codes, Option, Some, None, Result, Ok, Err, sym, subst}
use Rattle.std.specs.Prelude.{unwrap_or}
use Rattle.std.specs.Option.{option_map}
use Rattle.std.proofs.lemmas.Bool.{cond_both}
use Rattle.paygo_spec.specs.declared.Event.{Event}
use Rattle.ledger_spec.specs.declared.Command.{Command}
use Rattle.ledger_spec.specs.declared.TextFault.{TextFault}
use Rattle.ledger_spec.specs.Reading.{command_in}
use Rattle.run_spec.specs.declared.Mode.{Mode}
use Rattle.run_spec.specs.declared.Mode.TheVariants as mode_is
use Rattle.run_spec.specs.declared.Status.{Status}
use Rattle.run_spec.specs.declared.Status.TheVariants as status
use Rattle.run_spec.specs.DeviceLines.{events_in}
use Rattle.run_spec.specs.Lines.{whole_lines, all_lines}
use Rattle.run_spec.specs.Meaning.{trimmed, step_of_reading, steps_of_text, steps_of_line, steps_of}
use Rattle.run_spec.specs.Ran.{EndsBy}
use Rattle.run_spec.specs.Run.{Step, Say, Do, Act, World}

-- A step is no event; and it is no command.
abbrev pub NoAct : Step → Type 0
NoAct (Act event) = ⊥
NoAct _ = Unit {0}

abbrev pub NoDo : Step → Type 0
NoDo (Do command) = ⊥
NoDo _ = Unit {0}

-- It holds of each step.
abbrev pub Each : (Step → Type 0) → List Step → Type 0
Each P [] = Unit {0}
Each P (step ∷ steps) = P step × Each P steps

each_both : (P : Step → Type 0) (front others : List Step) → Each P front → Each P others → Each P (front ++ others)
each_both P [] others first second = second
each_both P (step ∷ front) others first second = (first.0, each_both P front others first.1 second)

each_front : (P : Step → Type 0) (front others : List Step) → Each P (front ++ others) → Each P front
each_front P [] others all = tt
each_front P (step ∷ front) others all = (all.0, each_front P front others all.1)

-- a line of the shop
reading_serves : (reading : Result Command TextFault) → Each NoAct (step_of_reading reading ∷ [])
reading_serves (Ok command) = (tt, tt)
reading_serves (Err fault) = (tt, tt)

text_serves : (line : List ℕ) → Each NoAct (steps_of_text mode_is.Serve line)
text_serves [] = tt
text_serves (c ∷ cs) = cond_both (c == 123) _ _ (Each NoAct) (λ is. reading_serves (command_in (c ∷ cs))) (λ is. (tt, tt))

pub line_serves : (line : List ℕ) → Each NoAct (steps_of_line mode_is.Serve line)
line_serves line = cond_both (nat_lt 4096 (length line)) _ _ (Each NoAct) (λ is. (tt, tt)) (λ is. text_serves (trimmed line))

-- a line of the device
acts_work : (events : List Event) → Each NoDo (map Act events)
acts_work [] = tt
acts_work (event ∷ events) = (tt, acts_work events)

events_work : (events : Option (List Event)) → Each NoDo (unwrap_or (option_map (λ es. map Act es) events) (Say (codes "unread") ∷ []))
events_work (Some events) = acts_work events
events_work None = (tt, tt)

text_works : (line : List ℕ) → Each NoDo (steps_of_text mode_is.Device line)
text_works [] = tt
text_works (c ∷ cs) = cond_both (c == 123) _ _ (Each NoDo) (λ is. (tt, tt)) (λ is. events_work (events_in (c ∷ cs)))

pub line_works : (line : List ℕ) → Each NoDo (steps_of_line mode_is.Device line)
line_works line = cond_both (nat_lt 4096 (length line)) _ _ (Each NoDo) (λ is. (tt, tt)) (λ is. text_works (trimmed line))

module _ (P : Step → Type 0) (mode : Mode) (each : (line : List ℕ) → Each P (steps_of_line mode line)) where
  each_line : (lines : List (List ℕ)) → Each P (steps_of mode lines)
  each_line [] = tt
  each_line (line ∷ lines) = each_both P (steps_of_line mode line) (steps_of mode lines) (each line) (each_line lines)

  -- the steps of a run, by its status
  pub each_step : (next : List ℕ → ℕ → ℕ) (result : Status) (ended : Bool) (taken : List ℕ) (steps : List Step) (reached now : World) → EndsBy next mode result ended taken steps reached now → Each P steps
  each_step next status.Ok ended taken steps reached now ends = subst (Each P) (sym ends.0) (each_line (all_lines taken))
  each_step next status.Read ended taken steps reached now ends = subst (Each P) (sym ends.0) (each_line (whole_lines taken))
  each_step next status.Long ended taken steps reached now ends = subst (Each P) (sym ends.0) (each_line (whole_lines taken))
  each_step next status.Write ended taken steps reached now ends =
      let within = ends.0.1 in
      subst (Each P) (sym within.steps_are)
      (each_both P (steps_of mode within.earlier) within.front (each_line within.earlier) (each_front P within.front within.others (subst (Each P) within.own (each ends.0.0))))
  each_step next status.Keep ended taken steps reached now ends = subst (Each P) (sym ends.2.steps_are) (each_line ends.2.earlier)
  each_step next status.Memory ended taken steps reached now ends = let before = ends.0.1 in subst (Each P) (sym before.steps_are) (each_line before.earlier)
  each_step next status.Usage ended taken steps reached now ends = absurd ends
