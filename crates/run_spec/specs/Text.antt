-- What is written for the answers of a run.
use Rattle.std.specs.Prelude.{ℕ, List, [], ◌∷◌, ◌++◌, Option, Some, None}
use Rattle.std.specs.List.{flat_map}
use Rattle.paygo_spec.specs.Text.{text_of}
use Rattle.ledger_spec.specs.AnswerText.{text_of_answer}
use Rattle.run_spec.specs.Run.{Answer, Said, Did, Told}

-- The line of an answer, where there is one.
abbrev pub line_of : Option Answer → List ℕ
line_of None = []
line_of (Some (Said text)) = text ++ 10 ∷ []
line_of (Some (Did answer)) = text_of_answer answer ++ 10 ∷ []
line_of (Some (Told reply)) = text_of reply ++ 10 ∷ []

-- All that is written for these answers.
abbrev pub text : List (Option Answer) → List ℕ
text answers = flat_map line_of answers
