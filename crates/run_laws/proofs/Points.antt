-- The points of a run, and what is typed there.
use Rattle.std.proofs.Common.{◌≡◌, ℕ, zero, suc, ◌≤◌, List, [], ◌∷◌, ◌++◌, length, take, Option, refl, ap, subst, arith}
use Rattle.ledger_spec.specs.Sound.{Sound, StaysBelow}
use Rattle.run_spec.specs.Run.{Step, Answer, World, Run}
use Rattle.run_spec.specs.Headline.{UsablesTaken, Point, typing}
use Rattle.run_laws.proofs.Standing.{stays_sound}
use Rattle.run_laws.proofs.Typing.{usable_taken}

-- a run of two lists of steps is one run after another
pub run_split : (next : List ℕ → ℕ → ℕ) (start now : World) (steps others : List Step) (answers : List (Option Answer)) → Run next start (steps ++ others) answers now
    → (mid : World) × Run next start steps (take (length steps) answers) mid
run_split next start now [] others answers run = (start, refl)
run_split next start now (step ∷ steps) others [] run = absurd run
run_split next start now (step ∷ steps) others (answer ∷ answers) run =
    let rest = run_split next run.0 now steps others answers run.2 in
    (rest.0, (run.0, run.1, rest.1))

pub usables_taken : (next : List ℕ → ℕ → ℕ) → StaysBelow next → (start now : World) (steps : List Step) (answers : List (Option Answer)) → Sound next start.tables → UsablesTaken next start steps answers now
usables_taken next below start now steps answers sound point history order rest up usable are =
    let typed = run_split next point.here now (typing history.config.form order.token) rest point.later
    (subst (λ (s : List Step). Run next point.here s point.later now) are point.goes_on) in
    usable_taken next point.here typed.0 (take (length (typing history.config.form order.token)) point.later) history order
    (stays_sound next below start point.here point.done point.answered sound point.came) up usable typed.1

-- a run has a point before each of its steps, and one behind the last
pub point_at : (next : List ℕ → ℕ → ℕ) (start now : World) (steps : List Step) (answers : List (Option Answer)) (i : ℕ) → Run next start steps answers now → i ≤ length steps
    → (point : Point next start steps answers now) × (length point.done ≡ i)
point_at next start now steps answers zero run within = (
  record {
    done = [];
    others = steps;
    steps_are = refl;
    answered = [];
    later = answers;
    answers_are = refl;
    here = start;
    came = refl;
    goes_on = run;
  },
  refl,
)
point_at next start now [] answers (suc i) run within = absurd (omega (arith, within))
point_at next start now (step ∷ steps) [] (suc i) run within = absurd run
point_at next start now (step ∷ steps) (answer ∷ answers) (suc i) run within =
    let rest = point_at next run.0 now steps answers i run.2 (omega (arith, within)) in (
      record {
        done = step ∷ rest.0.done;
        others = rest.0.others;
        steps_are = ap (λ (l : List Step). step ∷ l) rest.0.steps_are;
        answered = answer ∷ rest.0.answered;
        later = rest.0.later;
        answers_are = ap (λ (l : List (Option Answer)). answer ∷ l) rest.0.answers_are;
        here = rest.0.here;
        came = (run.0, run.1, rest.0.came);
        goes_on = rest.0.goes_on;
      },
      omega (arith, rest.1),
    )
