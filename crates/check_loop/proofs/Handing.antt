-- All lines of a log are handed to the check, one after another.
use Rattle.std.proofs.Common.{◌≡◌, ◌≢◌, inl, inr, ℕ, Bool, List, [], ◌∷◌, ◌++◌, map, Result, Ok, Err, refl, sym, ap, ◌∙◌, subst}
use Rattle.paygo_spec.specs.Streams.{SourceView, SinkView}
use Rattle.run_spec.specs.declared.Status.{Status}
use Rattle.run_spec.specs.declared.Status.TheVariants as status
use Rattle.run_spec.specs.Lines.{all_lines, whole_lines}
use Rattle.paygo_ports.specs.declared.sink.WriteFault.{WriteFault}
use Rattle.line_loop.specs.declared.handler.LineFault.{LineFault}
use Rattle.line_loop.specs.declared.handler.LineFault.TheVariants as fault
use Rattle.line_loop.specs.Handling.{Desk, Handled, FailsAt, Concludes, EndsWith, Loops}
use Rattle.line_output.specs.Written.{Wrote}
use Rattle.log_check.specs.declared.progress.Progress.{Progress}
use Rattle.log_check.specs.Checking.{Checked, first_checked, with_line, with_lines, verdict_of}
use Rattle.log_check.specs.declared.Verdict.{Verdict}
use Rattle.log_check.specs.Holding.{Holds}
use Rattle.log_check.proofs.Stepping.{check_judges}
use Rattle.check_loop.specs.Handed.{HandedOn, HoldsBehind}
use Rattle.check_loop.specs.Logs.{ChecksLog, WritesVerdict, line_of_log, line_of_verdict, verdict_text}

module _ {H : Type 0} (next : List ℕ → ℕ → ℕ) (progress : H → Progress) where
  -- what becomes of a line
  abbrev pub hands : List ℕ → Result (Unit {0}) LineFault → Desk H → Desk H → Type 0
  hands line outcome old new = HandedOn next line outcome (progress old.handler) (progress new.handler)
      old.keeper old.flash old.sink new.keeper new.flash new.sink

  -- what is said at the end
  abbrev pub says : H → Result (Unit {0}) WriteFault → SinkView → SinkView → Type 0
  says handler outcome old new = (checked : Checked) → Holds (progress handler) checked
      → Wrote (line_of_verdict (verdict_of checked) ++ 10 ∷ []) outcome old new

  -- What a desk is behind lines that were handed on.
  record HandedAll (lines : List (List ℕ)) (checked : Checked) (first new : Desk H) : Type 0 where
    holds : Holds (progress new.handler) (with_lines next checked (map line_of_log lines))
    sink_is : new.sink ≡ first.sink

  all_handed : (lines : List (List ℕ)) (first new : Desk H) (checked : Checked) → Holds (progress first.handler) checked
      → Handled hands lines first new → HandedAll lines checked first new
  all_handed [] first new checked holds same =
      subst (λ (d : Desk H). HandedAll [] checked first d) (sym same) record { holds = holds; sink_is = refl }
  all_handed (line ∷ lines) first new checked holds (mid, one, rest) =
      let more = all_handed lines mid new (with_line next checked (line_of_log line)) (one.handed checked holds) rest in
      record { holds = more.holds; sink_is = more.sink_is ∙ one.sink_is }

  unwritten : (lines : List (List ℕ)) (first new : Desk H) (checked : Checked) → Holds (progress first.handler) checked
      → Handled hands lines first new → new.sink.written ≡ first.sink.written
  unwritten lines first new checked holds handled =
      ap (λ (k : SinkView). k.written) (all_handed lines first new checked holds handled).sink_is

  -- a fault at a line
  failed_line : (failed : LineFault) (taken : List ℕ) (ended : Bool) (first new : Desk H) (checked : Checked)
      → Holds (progress first.handler) checked → (fails : FailsAt hands failed ended taken first new)
      → (new.sink.written ≡ first.sink.written)
      × HoldsBehind next fails.line (Err failed) (with_lines next checked (map line_of_log fails.earlier)) (progress new.handler)
  failed_line failed taken ended first new checked holds fails =
      let so_far = all_handed fails.earlier first fails.mid checked holds fails.handled in (
        ap (λ (k : SinkView). k.written) (fails.fails.sink_is ∙ so_far.sink_is),
        fails.fails.handed (with_lines next checked (map line_of_log fails.earlier)) so_far.holds,
      )

  -- what was written of the verdict
  module _ (taken : List ℕ) (first new : Desk H) (holds : Holds (progress first.handler) first_checked)
      (outcome : Result (Unit {0}) WriteFault) (ends : Concludes hands says outcome taken first new) where
    wrote_verdict : Wrote (verdict_text next taken) outcome first.sink new.sink
    wrote_verdict =
        let lines = map line_of_log (all_lines taken) in
        let so_far = all_handed (all_lines taken) first ends.mid first_checked holds ends.handled in
        let wrote = ends.last (with_lines next first_checked lines) so_far.holds in
        subst (λ (k : SinkView). Wrote (verdict_text next taken) outcome k new.sink) so_far.sink_is
        (subst (λ (v : Verdict). Wrote (line_of_verdict v ++ 10 ∷ []) outcome ends.mid.sink new.sink) (check_judges next lines) wrote)

  -- what a run of `check` did
  pub checks : (result : Status) (was now : SourceView) (first new : Desk H) → Holds (progress first.handler) first_checked
      → Loops hands says result was now first new → ChecksLog next result was now first.sink new.sink
  checks status.Ok was now first new holds loops =
      record { taken = loops.taken; given = loops.given; writes = wrote_verdict loops.taken first new holds (Ok tt) loops.ends }
  checks status.Usage was now first new holds loops = absurd loops.ends
  checks status.Read was now first new holds loops = record {
    taken = loops.taken;
    given = loops.given;
    writes = unwritten (whole_lines loops.taken) first new first_checked holds loops.ends;
  }
  checks status.Long was now first new holds loops = record {
    taken = loops.taken;
    given = loops.given;
    writes = unwritten (whole_lines loops.taken) first new first_checked holds loops.ends;
  }
  checks status.Memory was now first new holds loops = record {
    taken = loops.taken;
    given = loops.given;
    writes = (failed_line fault.Memory loops.taken now.ended first new first_checked holds loops.ends).0;
  }
  checks status.Keep was now first new holds loops =
      absurd (failed_line fault.Keep loops.taken now.ended first new first_checked holds loops.ends).1
  checks status.Write was now first new holds loops =
      record { taken = loops.taken; given = loops.given; writes = cut loops.ends }
    where
      cut : EndsWith hands says status.Write now.ended loops.taken first new
          → WritesVerdict status.Write (verdict_text next loops.taken) now first.sink new.sink
      cut (inl fails) = absurd (failed_line fault.Write loops.taken now.ended first new first_checked holds fails).1
      cut (inr (told, (failed, ends))) = (told, wrote_verdict loops.taken first new holds (Err failed) ends)

  -- no keeper is asked
  pub not_keep : (result : Status) (was now : SourceView) (first new : Desk H) → Holds (progress first.handler) first_checked
      → Loops hands says result was now first new → result ≢ status.Keep
  not_keep status.Keep was now first new holds loops =
      absurd (failed_line fault.Keep loops.taken now.ended first new first_checked holds loops.ends).1
  not_keep _ was now first new holds loops = λ e. cc
