-- Answers are counted one after another.
use Rattle.std.proofs.Common.{◌≡◌, ℕ, ◌+◌, Bool, true, false, cond, List, [], ◌∷◌, ◌++◌, Option, refl, sym, ap, ◌∙◌, arith, add-zero, add_assoc}
use Rattle.std.specs.List.{count_by}
use Rattle.std.proofs.lemmas.List.Sums.{sum_by-cons}
use Rattle.paygo_spec.specs.declared.Reply.{Reply}
use Rattle.fleet_spec.specs.Fleet.{is_accepted, is_old, is_invalid, is_blocked, is_down, still}
use Rattle.fleet_sim.specs.declared.tally.Tally.{Tally}
use Rattle.fleet_sim.specs.Tallies.{more_if, more_by, counted}

module _ (test : Option Reply → Bool) where
  -- more answers behind others
  more_by-append : (answers others : List (Option Reply)) (n : ℕ)
      → more_by test (answers ++ others) n ≡ more_by test others (more_by test answers n)
  more_by-append [] others n = refl
  more_by-append (answer ∷ answers) others n = more_by-append answers others (more_if (test answer) n)

  -- one more where a test holds, in a number that stands still
  more_if-still : (yes : Bool) (n : ℕ) → more_if yes (still n) ≡ still (n + cond yes 1 0)
  more_if-still true n = omega arith
  more_if-still false n = omega arith

  -- as many more as pass the test
  more_by-still : (answers : List (Option Reply)) (n : ℕ)
      → more_by test answers (still n) ≡ still (n + count_by test answers)
  more_by-still [] n = ap still (sym (add-zero n))
  more_by-still (answer ∷ answers) n =
      ap (more_by test answers) (more_if-still (test answer) n) ∙ more_by-still answers (n + cond (test answer) 1 0)
      ∙ ap still (add_assoc n (cond (test answer) 1 0) (count_by test answers)
      ∙ ap (λ k. n + k) (sym (sum_by-cons (λ a. cond (test a) 1 0) answer answers)))

  pub more_by-none : (answers : List (Option Reply)) → more_by test answers 0 ≡ still (count_by test answers)
  more_by-none answers = more_by-still answers 0 ∙ ap still (omega arith)

pub counted-append : (answers others : List (Option Reply)) (tally : Tally)
    → counted (answers ++ others) tally ≡ counted others (counted answers tally)
counted-append answers others tally =
    rw (
      more_by-append is_accepted answers others tally.accepted,
      more_by-append is_old answers others tally.outdated,
      more_by-append is_invalid answers others tally.invalid,
      more_by-append is_blocked answers others tally.blocked,
      more_by-append is_down answers others tally.down,
    ) refl
