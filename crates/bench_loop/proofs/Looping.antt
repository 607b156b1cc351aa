-- A whole run of a bench: the steps of all lines that were handled, and what became of the line that failed.
use Rattle.std.proofs.Common.{◌≡◌, ◌≢◌, inl, inr, ℕ, List, [], ◌∷◌, ◌++◌, Option, Some, Result, Ok, Err, refl, sym, ap, ◌∙◌, append-nil, subst}
use Rattle.paygo_spec.specs.declared.Event.{Event}
use Rattle.paygo_spec.specs.declared.Reply.{Reply}
use Rattle.paygo_spec.specs.Flash.{FlashView}
use Rattle.paygo_spec.specs.Machine.{State}
use Rattle.paygo_spec.specs.Streams.{SourceView, SinkView}
use Rattle.run_spec.specs.declared.Mode.{Mode}
use Rattle.run_spec.specs.declared.Mode.TheVariants as mode_is
use Rattle.run_spec.specs.declared.Status.{Status}
use Rattle.run_spec.specs.declared.Status.TheVariants as status
use Rattle.run_spec.specs.Lines.{whole_lines, all_lines}
use Rattle.run_spec.specs.Meaning.{steps_of_line, steps_of}
use Rattle.run_spec.specs.Ran.{IsBefore, IsCut, EndsBy, WritesBy, SpendsBy}
use Rattle.run_spec.specs.Run.{Step, Answer, World, RunBy}
use Rattle.run_spec.specs.Text.{text}
use Rattle.device_core.specs.declared.device.Device.{Device}
use Rattle.paygo_ports.specs.declared.sink.WriteFault.{WriteFault}
use Rattle.line_loop.specs.declared.handler.LineFault.{LineFault}
use Rattle.line_loop.specs.declared.handler.LineFault.TheVariants as fault
use Rattle.line_loop.specs.Handling.{Desk, Handled, FailsAt, Concludes, EndsWith, Loops}
use Rattle.bench_run.specs.Bench.{Desk as BenchDesk, IsAt, Done, Works, WorksBy, IsLedgerFault}
use Rattle.bench_run.proofs.Answering.{uses_ledger}
use Rattle.bench_run.proofs.Runs.{run-append, run_spent, cut_behind, done_more}
use Rattle.bench_loop.specs.Side.{Side, bench_of, IsOfLedger, DidLine}

-- answers of which the last was cut are those of some step
last_answer : (earlier : List (Option Answer)) (last : Answer) → [] ≡ earlier ++ Some last ∷ [] → ⊥
last_answer [] last e = cc
last_answer (answer ∷ earlier) last e = cc

some_step : (acts : Event → Option Reply → State → State → Type 0) (next : List ℕ → ℕ → ℕ) (start now : World) (steps : List Step) (answers earlier : List (Option Answer)) (last : Answer)
    → RunBy acts next start steps answers now → answers ≡ earlier ++ Some last ∷ [] → steps ≢ []
some_step acts next start now [] [] earlier last run are = absurd (last_answer earlier last are)
some_step acts next start now [] (answer ∷ answers) earlier last run are = absurd run
some_step acts next start now (step ∷ steps) answers earlier last run are = λ e. cc

-- What a run did when it ended: the bytes that were taken, and what was answered by its status.
pub record Ended (acts : Event → Option Reply → State → State → Type 0) (stands : Device → FlashView → State → Type 0)
    (calls : State → Event → Option ℕ) (next : List ℕ → ℕ → ℕ) (mode : Mode) (result : Status) (was now : SourceView)
    (first : BenchDesk) (start : World) (new : BenchDesk) : Type 0 where
  pub taken : List ℕ
  pub given_are : now.given ≡ was.given ++ taken
  pub steps : List Step
  pub answers : List (Option Answer)
  pub reached : World
  pub run : SpendsBy acts calls next start steps answers reached first.flash.due new.flash.due
  pub world : World
  pub ends : EndsBy next mode result now.ended taken steps reached world
  pub written : WritesBy result first.sink.written answers new.sink
  pub is_at : IsAt stands mode new world

-- a bench has no last word, and leaves all as it is behind the last line
abbrev pub says_nothing : Side → Result (Unit {0}) WriteFault → SinkView → SinkView → Type 0
says_nothing side outcome old new = (outcome ≡ Ok tt) × (new ≡ old)

module _ (acts : Event → Option Reply → State → State → Type 0) (stands : Device → FlashView → State → Type 0)
    (calls : State → Event → Option ℕ) (next : List ℕ → ℕ → ℕ)
    (by : (mode : Mode) (steps : List Step) (result : Result (Unit {0}) LineFault) (old new : BenchDesk)
    → Works next mode steps result old new → WorksBy acts stands calls next mode steps result old new) where
  -- nothing was done
  none_done : (mode : Mode) (start : World) (old : BenchDesk) → IsAt stands mode old start → Done acts stands calls next mode [] start old old
  none_done mode start old is_at =
      record { answers = []; now = start; run = (refl, refl); is_at = is_at; written = sym (append-nil old.sink.written) }

  -- what a line did, by the side that the run takes
  works_by : (mode : Mode) (line : List ℕ) (outcome : Result (Unit {0}) LineFault) (old new : Desk Side) → old.handler.mode ≡ mode
      → DidLine next line outcome old new → WorksBy acts stands calls next mode (steps_of_line mode line) outcome (bench_of old) (bench_of new)
  works_by mode line outcome old new takes did =
      subst (λ (m : Mode). WorksBy acts stands calls next m (steps_of_line m line) outcome (bench_of old) (bench_of new)) takes
      (by old.handler.mode (steps_of_line old.handler.mode line) outcome (bench_of old) (bench_of new) did.works)

  -- the steps of all lines that were handled were taken
  pub done_lines : (mode : Mode) (lines : List (List ℕ)) (first new : Desk Side) → first.handler.mode ≡ mode → Handled (DidLine next) lines first new
      → (start : World) → IsAt stands mode (bench_of first) start
      → (new.handler.mode ≡ mode) × Done acts stands calls next mode (steps_of mode lines) start (bench_of first) (bench_of new)
  done_lines mode [] first new takes same start is_at =
      subst (λ (d : Desk Side). (d.handler.mode ≡ mode) × Done acts stands calls next mode [] start (bench_of first) (bench_of d)) (sym same)
      (takes, none_done mode start (bench_of first) is_at)
  done_lines mode (line ∷ lines) first new takes (mid, did, rest) start is_at =
      let one = works_by mode line (Ok tt) first mid takes did start is_at in
      let more = done_lines mode lines mid new (did.mode ∙ takes) rest one.now one.is_at in
      (more.0, done_more acts stands calls next mode (steps_of_line mode line) (steps_of mode lines) start (bench_of first) (bench_of mid) (bench_of new) one more.1)

  module _ (mode : Mode) (was now : SourceView) (first new : Desk Side) (takes : first.handler.mode ≡ mode) (start : World)
      (is_at : IsAt stands mode (bench_of first) start) (taken : List ℕ) (given_are : now.given ≡ was.given ++ taken) where
    -- the lines were all handled, and the run ends by no line
    all_handled : (result : Status) (lines : List (List ℕ)) → Handled (DidLine next) lines first new
        → ((reached : World) → EndsBy next mode result now.ended taken (steps_of mode lines) reached reached)
        → ((answers : List (Option Answer)) → new.sink.written ≡ first.sink.written ++ text answers → WritesBy result first.sink.written answers new.sink)
        → Ended acts stands calls next mode result was now (bench_of first) start (bench_of new)
    all_handled result lines handled ends written =
        let done = (done_lines mode lines first new takes handled start is_at).1 in
        record {
          taken = taken;
          given_are = given_are;
          steps = steps_of mode lines;
          answers = done.answers;
          reached = done.now;
          run = done.run;
          world = done.now;
          ends = ends done.now;
          written = written done.answers done.written;
          is_at = done.is_at;
        }

    -- the sink failed at an answer to a line
    was_cut : FailsAt (DidLine next) fault.Write now.ended taken first new → Ended acts stands calls next mode status.Write was now (bench_of first) start (bench_of new)
    was_cut fails =
        let steps = steps_of mode fails.earlier in
        let so_far = done_lines mode fails.earlier first fails.mid takes fails.handled start is_at in
        let done = so_far.1 in
        let own = works_by mode fails.line (Err fault.Write) fails.mid new so_far.0 fails.fails done.now done.is_at in
        record {
          taken = taken;
          given_are = given_are;
          steps = steps ++ own.front;
          answers = done.answers ++ own.answers;
          reached = own.now;
          run = run-append acts calls next start done.now own.now steps own.front done.answers own.answers first.flash.due fails.mid.flash.due new.flash.due done.run own.run;
          world = own.now;
          ends = (
            (
              fails.line,
              record {
                earlier = fails.earlier;
                place = fails.place;
                front = own.front;
                others = own.others;
                some = some_step acts next done.now own.now own.front own.answers own.cut.earlier own.cut.last
                    (run_spent acts calls next done.now own.now own.front own.answers fails.mid.flash.due new.flash.due own.run) own.cut.answers_are;
                own = own.split;
                steps_are = refl;
              },
            ),
            refl,
          );
          written = cut_behind first.sink.written done.answers own.answers new.sink (subst (λ (l : List ℕ). IsCut l own.answers new.sink) done.written own.cut);
          is_at = own.is_at;
        }

    -- the line is one of the ledger, and the steps are those of the lines before it
    stopped_before : (failed : LineFault) (fails : FailsAt (DidLine next) failed now.ended taken first new) → fails.mid.handler.mode ≡ mode → IsLedgerFault (Err failed)
        → IsBefore mode fails.line now.ended taken (steps_of mode fails.earlier)
    stopped_before failed fails still bad =
        let ledger = subst (λ (m : Mode). IsOfLedger m fails.line) still (fails.fails.ledger bad) in
        record {
          earlier = fails.earlier;
          place = fails.place;
          steps_are = refl;
          takes = uses_ledger mode ledger.takes;
          short = ledger.short;
          is_ledger = ledger.is_ledger;
        }

    -- no call of the flash was made since
    still_spent : (steps : List Step) (answers : List (Option Answer)) (reached : World) (due : Option (Option ℕ)) → new.flash.due ≡ due
        → SpendsBy acts calls next start steps answers reached first.flash.due due → SpendsBy acts calls next start steps answers reached first.flash.due new.flash.due
    still_spent steps answers reached due same run = subst (λ (d : Option (Option ℕ)). SpendsBy acts calls next start steps answers reached first.flash.due d) (sym same) run

    keeper_failed : FailsAt (DidLine next) fault.Keep now.ended taken first new → Ended acts stands calls next mode status.Keep was now (bench_of first) start (bench_of new)
    keeper_failed fails =
        let steps = steps_of mode fails.earlier in
        let so_far = done_lines mode fails.earlier first fails.mid takes fails.handled start is_at in
        let done = so_far.1 in
        let failed = works_by mode fails.line (Err fault.Keep) fails.mid new so_far.0 fails.fails done.now done.is_at in
        record {
          taken = taken;
          given_are = given_are;
          steps = steps;
          answers = done.answers;
          reached = done.now;
          run = still_spent steps done.answers done.now fails.mid.flash.due failed.due done.run;
          world = failed.now;
          ends = (fails.line, failed.command, stopped_before fault.Keep fails so_far.0 tt, failed.asks, failed.change);
          written = failed.written ∙ done.written;
          is_at = failed.is_at;
        }

    no_memory : FailsAt (DidLine next) fault.Memory now.ended taken first new → Ended acts stands calls next mode status.Memory was now (bench_of first) start (bench_of new)
    no_memory fails =
        let steps = steps_of mode fails.earlier in
        let so_far = done_lines mode fails.earlier first fails.mid takes fails.handled start is_at in
        let done = so_far.1 in
        let refused = works_by mode fails.line (Err fault.Memory) fails.mid new so_far.0 fails.fails done.now done.is_at in
        record {
          taken = taken;
          given_are = given_are;
          steps = steps;
          answers = done.answers;
          reached = done.now;
          run = still_spent steps done.answers done.now fails.mid.flash.due refused.due done.run;
          world = done.now;
          ends = ((fails.line, stopped_before fault.Memory fails so_far.0 tt), refl);
          written = refused.written ∙ done.written;
          is_at = refused.is_at;
        }

  concluded : (taken : List ℕ) (first new : Desk Side) → Concludes (DidLine next) says_nothing (Ok tt) taken first new → Handled (DidLine next) (all_lines taken) first new
  concluded taken first new concludes =
      let stays : new ≡ concludes.mid = concludes.same ∙ ap (λ (k : SinkView). record concludes.mid { sink = k }) concludes.last.1 in
      subst (λ (d : Desk Side). Handled (DidLine next) (all_lines taken) first d) (sym stays) concludes.handled

  -- how a run ends
  pub run_ended : (mode : Mode) (result : Status) (was now : SourceView) (first new : Desk Side) → first.handler.mode ≡ mode
      → Loops (DidLine next) says_nothing result was now first new → (start : World) → IsAt stands mode (bench_of first) start
      → Ended acts stands calls next mode result was now (bench_of first) start (bench_of new)
  run_ended mode status.Ok was now first new takes loops start is_at =
      all_handled mode was now first new takes start is_at loops.taken loops.given status.Ok (all_lines loops.taken)
      (concluded loops.taken first new loops.ends) (λ reached. (refl, refl)) (λ answers e. e)
  run_ended mode status.Usage was now first new takes loops start is_at = absurd loops.ends
  run_ended mode status.Read was now first new takes loops start is_at =
      all_handled mode was now first new takes start is_at loops.taken loops.given status.Read (whole_lines loops.taken)
      loops.ends (λ reached. (refl, refl)) (λ answers e. e)
  run_ended mode status.Long was now first new takes loops start is_at =
      all_handled mode was now first new takes start is_at loops.taken loops.given status.Long (whole_lines loops.taken)
      loops.ends (λ reached. (refl, refl)) (λ answers e. e)
  run_ended mode status.Write was now first new takes loops start is_at =
      cut_or_not loops.ends
    where
      cut_or_not : EndsWith (DidLine next) says_nothing status.Write now.ended loops.taken first new
          → Ended acts stands calls next mode status.Write was now (bench_of first) start (bench_of new)
      cut_or_not (inl fails) = was_cut mode was now first new takes start is_at loops.taken loops.given fails
      cut_or_not (inr (told, (failed, concludes))) = absurd (let both : Err failed ≡ Ok tt = concludes.last.0 in cc)
  run_ended mode status.Keep was now first new takes loops start is_at =
      keeper_failed mode was now first new takes start is_at loops.taken loops.given loops.ends
  run_ended mode status.Memory was now first new takes loops start is_at =
      no_memory mode was now first new takes start is_at loops.taken loops.given loops.ends

-- a bench takes the same lines all along
same_mode : (next : List ℕ → ℕ → ℕ) (mode : Mode) (lines : List (List ℕ)) (first new : Desk Side) → first.handler.mode ≡ mode → Handled (DidLine next) lines first new
    → new.handler.mode ≡ mode
same_mode next mode [] first new takes same = ap (λ (d : Desk Side). d.handler.mode) same ∙ takes
same_mode next mode (line ∷ lines) first new takes (mid, did, rest) = same_mode next mode lines mid new (did.mode ∙ takes) rest

-- a run that takes no lines of the ledger has no fault of it
pub not_ledger : (next : List ℕ → ℕ → ℕ) (concludes : Side → Result (Unit {0}) WriteFault → SinkView → SinkView → Type 0) (result : Status) (was now : SourceView) (first new : Desk Side)
    → first.handler.mode ≡ mode_is.Device → Loops (DidLine next) concludes result was now first new → (result ≢ status.Keep) × (result ≢ status.Memory)
not_ledger next concludes status.Keep was now first new is loops =
    let still = same_mode next mode_is.Device loops.ends.earlier first loops.ends.mid is loops.ends.handled in
    absurd ((loops.ends.fails.ledger tt).takes still)
not_ledger next concludes status.Memory was now first new is loops =
    let still = same_mode next mode_is.Device loops.ends.earlier first loops.ends.mid is loops.ends.handled in
    absurd ((loops.ends.fails.ledger tt).takes still)
not_ledger next concludes _ was now first new is loops = (λ e. cc, λ e. cc)
