-- How answers are counted.
use Rattle.std.specs.Prelude.{ℕ, ◌+◌, Bool, true, false, List, [], ◌∷◌}
use Rattle.std.specs.declared.option.Option.{Option}
use Rattle.paygo_spec.specs.declared.Reply.{Reply}
use Rattle.fleet_spec.specs.Fleet.{is_accepted, is_old, is_invalid, is_blocked, is_down, still}
use Rattle.fleet_sim.specs.declared.tally.Tally.{Tally}

-- The counts before the first answer.
abbrev pub no_answers : Tally
no_answers = record { accepted = 0; outdated = 0; invalid = 0; blocked = 0; down = 0 }

-- One more where a test holds.
abbrev pub more_if : Bool → ℕ → ℕ
more_if true n = still (n + 1)
more_if false n = n

-- One more for each of these answers that passes a test.
abbrev pub more_by : (Option Reply → Bool) → List (Option Reply) → ℕ → ℕ
more_by test [] n = n
more_by test (answer ∷ answers) n = more_by test answers (more_if (test answer) n)

-- The counts with these answers.
abbrev pub counted : List (Option Reply) → Tally → Tally
counted answers tally = record {
  accepted = more_by is_accepted answers tally.accepted;
  outdated = more_by is_old answers tally.outdated;
  invalid = more_by is_invalid answers tally.invalid;
  blocked = more_by is_blocked answers tally.blocked;
  down = more_by is_down answers tally.down;
}
