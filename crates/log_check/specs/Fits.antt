-- What fits a log so far: the steps that wait for their answers, the tables, and the states that the device may be in.
-- The tables are one for all of these states, since a command has one answer and changes nothing of a device.
use Rattle.std.specs.Prelude.{ℕ, Bool, true, false, not, ◌==◌, ◌&&◌, List, [], ◌∷◌, map, codes, Option, Some, None, is_none, if◌then◌else◌}
use Rattle.std.specs.List.{filter, flat_map}
use Rattle.std.specs.Str.{bytes_eq}
use Rattle.paygo_spec.specs.declared.Event.{Event}
use Rattle.paygo_spec.specs.declared.Event.TheVariants.{Power, Key}
use Rattle.paygo_spec.specs.declared.Reply.{Reply}
use Rattle.paygo_spec.specs.Machine.{State, Blank, starting}
use Rattle.paygo_spec.specs.Text.{text_of}
use Rattle.paygo_spec.specs.Words.{after_prefix}
use Rattle.ledger_spec.specs.AnswerText.{text_of_answer}
use Rattle.ledger_spec.specs.Ledger.{done}
use Rattle.ledger_spec.specs.Tables.{Tables, no_tables}
use Rattle.run_spec.specs.declared.Mode.TheVariants as mode
use Rattle.run_spec.specs.Meaning.{steps_of_line}
use Rattle.run_spec.specs.Run.{Step, Say, Do, Act}
use Rattle.log_check.specs.After.{Choice, after}
use Rattle.log_check.specs.Same.{put_all}

-- A line of a log, by its mark: what was typed, behind `> `; an answer, behind `< `; or it has neither mark.
pub data Marked : Type 0 where
  Typed : (line : List ℕ) → Marked
  Told : (text : List ℕ) → Marked
  Unmarked : Marked

abbrev pub told_in : Option (List ℕ) → Marked
told_in (Some text) = Told text
told_in None = Unmarked

abbrev pub typed_in : Option (List ℕ) → Marked → Marked
typed_in (Some line) other = Typed line
typed_in None other = other

abbrev pub marked : List ℕ → Marked
marked line = typed_in (after_prefix (codes "> ") line) (told_in (after_prefix (codes "< ") line))

-- The steps that wait, the tables, and the states of the device that fit.
pub record Fit : Type 0 where
  pub waiting : List Step
  pub tables : Tables
  pub states : List State

abbrev pub fit : List Step → Tables → List State → Fit
fit waiting tables states = record { waiting = waiting; tables = tables; states = states }

-- Before the first line: nothing waits, the tables are empty, and the device is off, on an erased flash.
abbrev pub first_fit : Fit
first_fit = fit [] no_tables (starting Blank 0 ∷ [])

-- What may be answered to the event in these states.
abbrev pub choices : (List ℕ → ℕ → ℕ) → Event → List State → List Choice
choices next event states = flat_map (λ state. after next state event) states

-- The states to which a device goes on whose reply passes this test.
abbrev pub going_on : (List ℕ → ℕ → ℕ) → (Option Reply → Bool) → Event → List State → List State
going_on next test event states =
    put_all [] (map (λ c. c.state) (filter (λ c. test c.reply) (choices next event states)))

-- Whether a device has a reply to the event: to Power always, and else where it is on, but to a key only where it is
-- `#`.
abbrev pub has_reply : Event → State → Bool
has_reply Power state = true
has_reply (Key key) state = state.on && (key == 35)
has_reply event state = state.on

-- No reply comes in these states: they are alike in it, so the first one decides.
abbrev pub is_silent : Event → List State → Bool
is_silent event [] = false
is_silent event (state ∷ states) = not (has_reply event state)

-- The first steps that have no reply are taken at once; then these wait.
abbrev pub settled : (List ℕ → ℕ → ℕ) → List Step → Tables → List State → Fit
settled next (Act event ∷ steps) tables states =
    if is_silent event states then settled next steps tables (going_on next is_none event states)
    else fit (Act event ∷ steps) tables states
settled next steps tables states = fit steps tables states

-- Whether this text is that of the reply.
abbrev pub says : List ℕ → Option Reply → Bool
says text (Some reply) = bytes_eq (text_of reply) text
says text None = false

abbrev pub if_says : List ℕ → List ℕ → List State → List State
if_says said text states = if bytes_eq said text then states else []

-- A line was typed: it may come only where no step waits, and its steps wait then.
abbrev pub after_typed : (List ℕ → ℕ → ℕ) → List ℕ → List Step → Tables → List State → Fit
after_typed next line [] tables states = settled next (steps_of_line mode.Both line) tables states
after_typed next line waiting tables states = fit waiting tables []

-- An answer was told: it may come only where a step waits, and is that of the first of them.
abbrev pub after_told : (List ℕ → ℕ → ℕ) → List ℕ → List Step → Tables → List State → Fit
after_told next text [] tables states = fit [] tables []
after_told next text (Say said ∷ steps) tables states = settled next steps tables (if_says said text states)
after_told next text (Do command ∷ steps) tables states =
    let did = done next tables command in
    settled next steps did.tables (if_says (text_of_answer did.answer) text states)
after_told next text (Act event ∷ steps) tables states =
    settled next steps tables (going_on next (says text) event states)

-- What fits with one line more.
abbrev pub after_line : (List ℕ → ℕ → ℕ) → Fit → Marked → Fit
after_line next old (Typed line) = after_typed next line old.waiting old.tables old.states
after_line next old (Told text) = after_told next text old.waiting old.tables old.states
after_line next old Unmarked = fit old.waiting old.tables []

abbrev pub after_lines : (List ℕ → ℕ → ℕ) → Fit → List Marked → Fit
after_lines next old [] = old
after_lines next old (line ∷ lines) = after_lines next (after_line next old line) lines

-- What fits a whole log.
abbrev pub fits : (List ℕ → ℕ → ℕ) → List Marked → Fit
fits next lines = after_lines next first_fit lines
