-- The answers `down` of a run: behind each of them stands one fault of the flash.
use Rattle.std.specs.Prelude.{ℕ, ◌+◌, List, [], ◌∷◌, Option, Some}
use Rattle.paygo_spec.specs.declared.Reply.TheVariants.{Down}
use Rattle.run_spec.specs.Run.{Answer, Told}

-- How many of these answers are `down`.
abbrev pub downs : List (Option Answer) → ℕ
downs [] = 0
downs (Some (Told Down) ∷ answers) = downs answers + 1
downs (_ ∷ answers) = downs answers
