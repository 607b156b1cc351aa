-- What a log of a run is: each line that was typed, and behind it its answers.
use Rattle.std.specs.Prelude.{◌≡◌, ◌≢◌, ◌↔◌, ℕ, List, [], ◌∷◌, ◌++◌, map, Option, Some, None}
use Rattle.std.specs.List.{flat_map, Contains}
use Rattle.paygo_spec.specs.Text.{text_of}
use Rattle.paygo_spec.specs.Machine.{State, Blank}
use Rattle.ledger_spec.specs.AnswerText.{text_of_answer}
use Rattle.ledger_spec.specs.Tables.{Tables, no_tables}
use Rattle.run_spec.specs.declared.Mode.TheVariants as mode
use Rattle.run_spec.specs.Meaning.{steps_of_line}
use Rattle.run_spec.specs.Text.{text}
use Rattle.run_spec.specs.Run.{Step, Answer, Said, Did, Told as ToldOf, World, Run, beginning}
use Rattle.log_check.specs.After.{summed_state}
use Rattle.log_check.specs.Fits.{Marked, Typed, Told, Unmarked, Fit, after_line, fits}

-- The text of an answer, where there is one.
abbrev pub texts_of : Option Answer → List (List ℕ)
texts_of None = []
texts_of (Some (Said text)) = text ∷ []
texts_of (Some (Did answer)) = text_of_answer answer ∷ []
texts_of (Some (ToldOf reply)) = text_of reply ∷ []

-- The texts of these answers.
abbrev pub texts : List (Option Answer) → List (List ℕ)
texts answers = flat_map texts_of answers

-- A line that was typed, and what was answered to each of its steps.
pub record Talk : Type 0 where
  pub line : List ℕ
  pub answers : List (Option Answer)

-- The log of such lines.
abbrev pub log_of : List Talk → List Marked
log_of [] = []
log_of (talk ∷ talks) = Typed talk.line ∷ (map Told (texts talk.answers) ++ log_of talks)

-- A run of shop and device over these lines, with these answers.
abbrev pub RunOver : (List ℕ → ℕ → ℕ) → World → List Talk → World → Type 0
RunOver next start [] now = now ≡ start
RunOver next start (talk ∷ talks) now =
    (mid : World) × Run next start (steps_of_line mode.Both talk.line) talk.answers mid × RunOver next mid talks now

-- These lines are the whole log of a run that began with empty tables and an erased flash, or the first lines of one.
pub record IsLog (next : List ℕ → ℕ → ℕ) (lines : List Marked) : Type 0 where
  pub talks : List Talk
  pub now : World
  pub run : RunOver next (beginning no_tables Blank 0) talks now
  pub log_is : log_of talks ≡ lines

pub record BeginsLog (next : List ℕ → ℕ → ℕ) (lines : List Marked) : Type 0 where
  pub more : List Marked
  pub log : IsLog next (lines ++ more)

-- The steps that these lines asked for, and the texts that they told.
abbrev pub asked_in : List Marked → List Step
asked_in [] = []
asked_in (Typed line ∷ lines) = steps_of_line mode.Both line ++ asked_in lines
asked_in (_ ∷ lines) = asked_in lines

abbrev pub told_in : List Marked → List (List ℕ)
told_in [] = []
told_in (Told text ∷ lines) = text ∷ told_in lines
told_in (_ ∷ lines) = told_in lines

-- A world in which the history of the device is forgotten for its summary.
abbrev pub summed_world : World → World
summed_world world = record { tables = world.tables; device = summed_state world.device }

-- A run from this world over these steps, with answers of these texts, leads to what is this world with the history
-- forgotten.
pub record Reaches (next : List ℕ → ℕ → ℕ) (start : World) (steps : List Step) (told : List (List ℕ)) (world : World)
    : Type 0 where
  pub answers : List (Option Answer)
  pub now : World
  pub run : Run next start steps answers now
  pub told_are : texts answers ≡ told
  pub world_is : world ≡ summed_world now

-- The world has these tables, and its device is in one of the states.
abbrev pub Has : Tables → List State → World → Type 0
Has tables states world = (world.tables ≡ tables) × Contains states world.device

-- The line may come: some state is left, and where it is one that was typed no step waits, and where it is told one
-- does.
abbrev pub MayCome : Fit → Marked → Type 0
MayCome old (Typed line) = (old.states ≢ []) × (old.waiting ≡ [])
MayCome old (Told text) = (old.states ≢ []) × (old.waiting ≢ [])
MayCome old Unmarked = ⊥

-- Each of the lines may come, one after another.
abbrev pub MayAllCome : (List ℕ → ℕ → ℕ) → Fit → List Marked → Type 0
MayAllCome next old [] = Unit {0}
MayAllCome next old (line ∷ lines) = MayCome old line × MayAllCome next (after_line next old line) lines

-- Of the steps asked for, all but those that wait were taken; and a world fits exactly where a run from empty tables
-- and an erased flash leads to it over these steps, whose answers have the texts that were told.
pub record IsExact (next : List ℕ → ℕ → ℕ) (lines : List Marked) : Type 0 where
  pub steps : List Step
  pub taken : asked_in lines ≡ steps ++ (fits next lines).waiting
  pub exact : (world : World) → (Has (fits next lines).tables (fits next lines).states world
      ↔ Reaches next (beginning no_tables Blank 0) steps (told_in lines) world)

-- A text with the end of its line.
abbrev pub ended : List ℕ → List ℕ
ended text = text ++ 10 ∷ []

-- One run over all steps that the lines ask for, whose answers are written as the log tells them.
pub record IsRun (next : List ℕ → ℕ → ℕ) (lines : List Marked) : Type 0 where
  pub answers : List (Option Answer)
  pub now : World
  pub run : Run next (beginning no_tables Blank 0) (asked_in lines) answers now
  pub written : text answers ≡ flat_map ended (told_in lines)
