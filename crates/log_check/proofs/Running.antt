-- A log of a run is one run over all steps that its lines ask for, whose answers have the texts that it tells.
use Rattle.std.proofs.Common.{◌≡◌, ℕ, List, [], ◌∷◌, ◌++◌, map, append-nil, Option, Some, None, refl, sym, ap, subst, ◌∙◌}
use Rattle.std.specs.List.{flat_map}
use Rattle.std.proofs.lemmas.Grind.{flat_map-append}
use Rattle.paygo_spec.specs.Machine.{Blank}
use Rattle.paygo_spec.specs.Text.{text_of}
use Rattle.ledger_spec.specs.AnswerText.{text_of_answer}
use Rattle.ledger_spec.specs.Tables.{no_tables}
use Rattle.run_spec.specs.declared.Mode.TheVariants as mode
use Rattle.run_spec.specs.Meaning.{steps_of_line}
use Rattle.run_spec.specs.Run.{Step, Answer, Said, Did, Told as ToldOf, World, Run, beginning}
use Rattle.run_spec.specs.Text.{line_of, text}
use Rattle.log_check.specs.Fits.{Marked, Told}
use Rattle.log_check.specs.Logs.{texts_of, texts, Talk, log_of, RunOver, IsLog, asked_in, told_in, ended, IsRun}
use Rattle.log_check.proofs.Sounding.{run_append}

asked_told : (told : List (List ℕ)) (rest : List Marked) → asked_in (map Told told ++ rest) ≡ asked_in rest
asked_told [] rest = refl
asked_told (t ∷ told) rest = asked_told told rest

told_told : (told : List (List ℕ)) (rest : List Marked) → told_in (map Told told ++ rest) ≡ told ++ told_in rest
told_told [] rest = refl
told_told (t ∷ told) rest = ap (λ (l : List (List ℕ)). t ∷ l) (told_told told rest)

line_is : (answer : Option Answer) → line_of answer ≡ flat_map ended (texts_of answer)
line_is None = refl
line_is (Some (Said said)) = sym (append-nil (said ++ 10 ∷ []))
line_is (Some (Did answer)) = sym (append-nil (text_of_answer answer ++ 10 ∷ []))
line_is (Some (ToldOf reply)) = sym (append-nil (text_of reply ++ 10 ∷ []))

text_is : (answers : List (Option Answer)) → text answers ≡ flat_map ended (texts answers)
text_is [] = refl
text_is (answer ∷ answers) =
    ap (λ (l : List ℕ). l ++ text answers) (line_is answer)
    ∙ ap (λ (l : List ℕ). flat_map ended (texts_of answer) ++ l) (text_is answers)
    ∙ sym (flat_map-append ended (texts_of answer) (texts answers))

module _ (next : List ℕ → ℕ → ℕ) where
  record Whole (start now : World) (lines : List Marked) : Type 0 where
    pub answers : List (Option Answer)
    pub run : Run next start (asked_in lines) answers now
    pub told : texts answers ≡ told_in lines

  talks_run : (talks : List Talk) (start now : World) → RunOver next start talks now → Whole start now (log_of talks)
  talks_run [] start now over = record { answers = []; run = over; told = refl }
  talks_run (talk ∷ talks) start now over =
      let r = talks_run talks over.0 now over.2 in record {
        answers = talk.answers ++ r.answers;
        run = subst (λ (l : List Step). Run next start (steps_of_line mode.Both talk.line ++ l)
            (talk.answers ++ r.answers) now) (sym (asked_told (texts talk.answers) (log_of talks)))
            (run_append next start over.0 now (steps_of_line mode.Both talk.line) (asked_in (log_of talks)) talk.answers
            r.answers over.1 r.run);
        told = flat_map-append texts_of talk.answers r.answers
            ∙ ap (λ (l : List (List ℕ)). texts talk.answers ++ l) r.told
            ∙ sym (told_told (texts talk.answers) (log_of talks));
      }

  pub log_runs : (lines : List Marked) → IsLog next lines → IsRun next lines
  log_runs lines log =
      let w : Whole (beginning no_tables Blank 0) log.now lines = subst (Whole (beginning no_tables Blank 0) log.now)
      log.log_is (talks_run log.talks (beginning no_tables Blank 0) log.now log.run) in
      record {
        answers = w.answers;
        now = log.now;
        run = w.run;
        written = text_is w.answers
            ∙ ap (flat_map ended) w.told;
      }
