-- Runs, one after the other.
use Rattle.std.proofs.Common.{◌≡◌, ℕ, List, [], ◌∷◌, ◌++◌, take, Option, Some, Result, Ok, Err, refl, sym, ap, ◌∙◌, append_assoc, subst}
use Rattle.paygo_spec.specs.declared.Event.{Event}
use Rattle.paygo_spec.specs.declared.Reply.{Reply}
use Rattle.paygo_spec.specs.Flash.{FlashView}
use Rattle.paygo_spec.specs.Machine.{State, Acts, calls_of}
use Rattle.paygo_spec.specs.Streams.{SinkView}
use Rattle.run_spec.specs.declared.Mode.{Mode}
use Rattle.run_spec.specs.Run.{Step, Answer, World, RunBy}
use Rattle.run_spec.specs.Unseen.{ActsUnseen}
use Rattle.run_spec.specs.Text.{line_of, text}
use Rattle.run_spec.specs.Ran.{Agree, IsCut, SpendsBy}
use Rattle.device_core.specs.declared.device.Device.{Device}
use Rattle.device_core.specs.Memory.{Agrees, Recalls}
use Rattle.paygo_ports.specs.declared.sink.WriteFault.{WriteFault}
use Rattle.line_loop.specs.declared.handler.LineFault.TheVariants as line_fault
use Rattle.line_loop.specs.Handling.{of_line}
use Rattle.bench_run.specs.Bench.{Desk, desk, IsAt, Done, Stopped, Ends, WorksBy, DeviceWorks, unsaid}

-- one run after another
pub run-append : (acts : Event → Option Reply → State → State → Type 0) (calls : State → Event → Option ℕ) (next : List ℕ → ℕ → ℕ) (start mid end : World) (steps more : List Step) (answers others : List (Option Answer))
    (due left now : Option (Option ℕ)) → SpendsBy acts calls next start steps answers mid due left → SpendsBy acts calls next mid more others end left now
    → SpendsBy acts calls next start (steps ++ more) (answers ++ others) end due now
run-append acts calls next start mid end [] more [] others due left now first second =
    subst (λ (s : World). SpendsBy acts calls next s more others end due now) first.0 (subst (λ (d : Option (Option ℕ)). SpendsBy acts calls next mid more others end d now) first.1 second)
run-append acts calls next start mid end (step ∷ steps) more (answer ∷ answers) others due left now first second =
    (first.0, first.1, first.2, first.3, run-append acts calls next first.0 mid end steps more answers others first.1 left now first.4 second)
run-append acts calls next start mid end [] more (answer ∷ answers) others due left now first second = absurd first
run-append acts calls next start mid end (step ∷ steps) more [] others due left now first second = absurd first

-- what becomes of the due set aside, it is a run
pub run_spent : (acts : Event → Option Reply → State → State → Type 0) (calls : State → Event → Option ℕ) (next : List ℕ → ℕ → ℕ) (start now : World) (steps : List Step) (answers : List (Option Answer)) (due left : Option (Option ℕ))
    → SpendsBy acts calls next start steps answers now due left → RunBy acts next start steps answers now
run_spent acts calls next start now [] [] due left run = run.0
run_spent acts calls next start now (step ∷ steps) (answer ∷ answers) due left run = (run.0, run.2, run_spent acts calls next run.0 now steps answers run.1 left run.4)
run_spent acts calls next start now [] (answer ∷ answers) due left run = absurd run
run_spent acts calls next start now (step ∷ steps) [] due left run = absurd run

-- the text of one list of answers after another
pub text-append : (answers others : List (Option Answer)) → text (answers ++ others) ≡ text answers ++ text others
text-append [] others = refl
text-append (answer ∷ answers) others = ap (λ l. line_of answer ++ l) (text-append answers others) ∙ sym (append_assoc (line_of answer) (text answers) (text others))

-- an answer that was cut behind others that were written whole
pub cut_behind : (before : List ℕ) (answers others : List (Option Answer)) (sink : SinkView) → IsCut (before ++ text answers) others sink → IsCut before (answers ++ others) sink
cut_behind before answers others sink cut = record {
  earlier = answers ++ cut.earlier;
  last = cut.last;
  answers_are = ap (λ l. answers ++ l) cut.answers_are ∙ sym (append_assoc answers cut.earlier (Some cut.last ∷ []));
  more = cut.more;
  cut = cut.cut;
  written = cut.written ∙ append_assoc before (text answers) (text cut.earlier ++ take cut.more (line_of (Some cut.last)))
      ∙ ap (λ l. before ++ l) (sym (append_assoc (text answers) (text cut.earlier) (take cut.more (line_of (Some cut.last)))) ∙ ap (λ l. l ++ take cut.more (line_of (Some cut.last))) (sym (text-append answers cut.earlier)));
}

-- what a desk stands for
pub agree_at : (mode : Mode) (desk : Desk) (world : World) → IsAt Agrees mode desk world → Agree mode desk.keeper desk.flash world
agree_at mode desk world is = record { tables = is.tables; device = λ uses. (is.device uses).stand }

module _ (acts : Event → Option Reply → State → State → Type 0) (stands : Device → FlashView → State → Type 0) (calls : State → Event → Option ℕ) (next : List ℕ → ℕ → ℕ) where
  module _ (mode : Mode) (steps more : List Step) (start : World) (first old new : Desk) (done : Done acts stands calls next mode steps start first old) where
    -- more steps are done
    pub done_more : Done acts stands calls next mode more done.now old new → Done acts stands calls next mode (steps ++ more) start first new
    done_more later = record {
      answers = done.answers ++ later.answers;
      now = later.now;
      run = run-append acts calls next start done.now later.now steps more done.answers later.answers first.flash.due old.flash.due new.flash.due done.run later.run;
      is_at = later.is_at;
      written = later.written ∙ ap (λ l. l ++ text later.answers) done.written ∙ append_assoc first.sink.written (text done.answers) (text later.answers)
          ∙ ap (λ l. first.sink.written ++ l) (sym (text-append done.answers later.answers));
    }

    -- the sink fails at the last of more steps
    pub stopped_more : Stopped acts stands calls next mode more done.now old new → Stopped acts stands calls next mode (steps ++ more) start first new
    stopped_more stopped = record {
      front = steps ++ stopped.front;
      others = stopped.others;
      split = ap (λ l. steps ++ l) stopped.split ∙ sym (append_assoc steps stopped.front stopped.others);
      answers = done.answers ++ stopped.answers;
      now = stopped.now;
      run = run-append acts calls next start done.now stopped.now steps stopped.front done.answers stopped.answers first.flash.due old.flash.due new.flash.due done.run stopped.run;
      is_at = stopped.is_at;
      cut = cut_behind first.sink.written done.answers stopped.answers new.sink (subst (λ (l : List ℕ). IsCut l stopped.answers new.sink) done.written stopped.cut);
    }

  -- steps that are done, and what became of more steps behind them
  ends_more : (mode : Mode) (steps more : List Step) (result : Result (Unit {0}) WriteFault) (start : World) (first old new : Desk)
      → (done : Done acts stands calls next mode steps start first old) → Ends acts stands calls next mode more (of_line result) done.now old new → Ends acts stands calls next mode (steps ++ more) (of_line result) start first new
  ends_more mode steps more (Ok _) start first old new done later = done_more mode steps more start first old new done later
  ends_more mode steps more (Err fault) start first old new done stopped = stopped_more mode steps more start first old new done stopped

  -- the same, whatever they began with
  more_by : (mode : Mode) (steps more : List Step) (result : Result (Unit {0}) WriteFault) (first old new : Desk) → WorksBy acts stands calls next mode steps (Ok tt) first old → WorksBy acts stands calls next mode more (of_line result) old new
      → WorksBy acts stands calls next mode (steps ++ more) (of_line result) first new
  more_by mode steps more result first old new done later start is_at =
      let so_far = done start is_at in
      ends_more mode steps more result start first old new so_far (later so_far.now so_far.is_at)

  -- steps in which the sink failed, before others
  front_by : (mode : Mode) (steps others : List Step) (old new : Desk) → WorksBy acts stands calls next mode steps (Err line_fault.Write) old new → WorksBy acts stands calls next mode (steps ++ others) (Err line_fault.Write) old new
  front_by mode steps others old new stops start is_at =
      let stopped = stops start is_at in
      record {
        front = stopped.front;
        others = stopped.others ++ others;
        split = ap (λ l. l ++ others) stopped.split ∙ append_assoc stopped.front stopped.others others;
        answers = stopped.answers;
        now = stopped.now;
        run = stopped.run;
        is_at = stopped.is_at;
        cut = stopped.cut;
      }

pub works_more : (next : List ℕ → ℕ → ℕ) (steps more : List Step) (result : Result (Unit {0}) WriteFault) (first old new : Device) (begun was now : FlashView) (empty sink after : SinkView)
    → DeviceWorks next steps (Ok tt) first begun empty old was sink → DeviceWorks next more result old was sink new now after → DeviceWorks next (steps ++ more) result first begun empty new now after
works_more next steps more result first old new begun was now empty sink after done later mode keeper uses = record {
  seen = more_by (Acts next) Agrees (calls_of next) next mode steps more result (desk first keeper begun empty) (desk old keeper was sink) (desk new keeper now after) (done mode keeper uses).seen (later mode keeper uses).seen;
  unseen = more_by (ActsUnseen next) Recalls unsaid next mode steps more result (desk first keeper begun empty) (desk old keeper was sink) (desk new keeper now after) (done mode keeper uses).unseen (later mode keeper uses).unseen;
}

pub works_front : (next : List ℕ → ℕ → ℕ) (steps others : List Step) (fault : WriteFault) (old new : Device) (was now : FlashView) (sink after : SinkView)
    → DeviceWorks next steps (Err fault) old was sink new now after → DeviceWorks next (steps ++ others) (Err fault) old was sink new now after
works_front next steps others fault old new was now sink after stops mode keeper uses = record {
  seen = front_by (Acts next) Agrees (calls_of next) next mode steps others (desk old keeper was sink) (desk new keeper now after) (stops mode keeper uses).seen;
  unseen = front_by (ActsUnseen next) Recalls unsaid next mode steps others (desk old keeper was sink) (desk new keeper now after) (stops mode keeper uses).unseen;
}
