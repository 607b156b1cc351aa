-- One step is answered, and its answer written.
use Rattle.std.proofs.Common.{◌≡◌, ◌≢◌, ◌⊎◌, inl, inr, ⊎_elim, ℕ, ◌-◌, ◌<◌, ◌≤◌, true, false, List, [], ◌∷◌, ◌++◌, length, Option, Some, None, Ok, Err, Result, refl, sym, ap, ◌∙◌, arith, append-nil, get_or}
use Rattle.std.specs.Prelude.{◌==◌, codes, map, nat_lt, unwrap_or}
use Rattle.std.proofs.lemmas.Bool.Decides.{nat_tests}
use Rattle.std.proofs.lemmas.List.{nil_from_length}
use Rattle.std.specs.Option.{option_map}
use Rattle.paygo_spec.specs.declared.Event.{Event}
use Rattle.paygo_spec.specs.declared.Event.TheVariants.{Key}
use Rattle.paygo_spec.specs.declared.Reply.{Reply}
use Rattle.paygo_spec.specs.declared.Reply.TheVariants.{Down}
use Rattle.paygo_spec.specs.Flash.{FlashView, DueAfter, PlanFrom, KeepsPlan}
use Rattle.paygo_spec.specs.Streams.{SinkView}
use Rattle.paygo_spec.specs.Machine.{State, IsEvent, Acts, FaultsBy, calls_of}
use Rattle.ledger_spec.specs.declared.Answer.{Answer as LedgerAnswer}
use Rattle.ledger_spec.specs.declared.Command.{Command}
use Rattle.ledger_spec.specs.declared.LedgerFault.TheVariants as ledger_fault
use Rattle.ledger_spec.specs.declared.TextFault.{TextFault}
use Rattle.ledger_spec.specs.declared.TextFault.TheVariants as text_fault
use Rattle.ledger_spec.specs.Applied.{Applies, AppliedTo}
use Rattle.ledger_spec.specs.Keeper.{KeeperView}
use Rattle.ledger_spec.specs.Ledger.{IsCommand, done, Done as LedgerDone}
use Rattle.ledger_spec.specs.Reading.{command_in}
use Rattle.ledger_spec.specs.Tables.{Tables}
use Rattle.run_spec.specs.declared.Mode.{Mode}
use Rattle.run_spec.specs.declared.Mode.TheVariants as mode_is
use Rattle.run_spec.specs.DeviceLines.{events_in, presses}
use Rattle.run_spec.specs.Run.{Step, Say, Do, Act, Answer, Said, Did, Told, World, MayAnswerBy}
use Rattle.run_spec.specs.Unseen.{ActsUnseen}
use Rattle.run_spec.specs.Meaning.{trimmed, is_ledger_text, steps_of_ledger, steps_of_device, steps_of_device_line, steps_of_text, steps_of_line, step_of_reading}
use Rattle.run_spec.specs.Ran.{DueBy, MayFall, calls_of_step, uses_keeper, uses_flash}
use Rattle.run_spec.specs.Text.{line_of, text}
use Rattle.device_core.specs.declared.device.Device.{Device}
use Rattle.device_core.specs.Memory.{Agrees, Recalls, IsDown, Does, Costs, CostsAsSaid, Remembers}
use Rattle.paygo_ports.specs.declared.sink.WriteFault.{WriteFault}
use Rattle.line_loop.specs.declared.handler.LineFault.TheVariants as fault
use Rattle.line_output.specs.Written.{Wrote}
use Rattle.line_loop.specs.Handling.{of_line}
use Rattle.bench_run.specs.Bench.{Desk, desk, IsAt, Ends, WorksBy, Works, DeviceWorks, Says, unsaid}
use Rattle.bench_run.proofs.Unseen.{remembered}

-- an answer that has no text is written whole
no_cut : (n : ℕ) → n < 0 → ⊥
no_cut n below = omega (arith, below)

-- what became of tables that are told, at a command that was answered
pub applied_ok : (does : Tables → LedgerDone) (answer : LedgerAnswer) (old new : Option Tables) (tables : Tables) → old ≡ Some tables → AppliedTo does (Ok answer) old new → (answer ≡ (does tables).answer) × (new ≡ Some (does tables).tables)
applied_ok does answer None new tables is applied = cc
applied_ok does answer (Some told) new tables is applied =
    let same : told ≡ tables = cc in
    (applied.0 ∙ ap (λ (t : Tables). (does t).answer) same, applied.1 ∙ ap (λ (t : Tables). Some (does t).tables) same)

-- the tables as before a command at which the keeper failed, or with its whole change
pub either_way : (does : Tables → LedgerDone) (old new : Option Tables) (tables : Tables) → old ≡ Some tables → AppliedTo does (Err ledger_fault.Keeper) old new → (new ≡ Some tables) ⊎ (new ≡ Some (does tables).tables)
either_way does old new tables is (inl same) = inl (same ∙ is)
either_way does old new tables is (inr whole) = inr (whole ∙ ap (option_map (λ (t : Tables). (does t).tables)) is)

-- no call leaves the due
due_stays : (due : Option (Option ℕ)) → DueAfter 0 due due
due_stays None = refl
due_stays (Some None) = refl
due_stays (Some (Some due)) = (omega arith, ap (λ n. Some (Some n)) (no_less due))
  where
    no_less : (n : ℕ) → n ≡ n - 0
    no_less n = omega arith

-- the calls of an event
may_fall : (due : Option (Option ℕ)) (was now : FlashView) → PlanFrom due was now → MayFall due now.due
may_fall None was now plan = plan.0
may_fall (Some None) was now plan = plan.0
may_fall (Some (Some due)) was now (inl ahead) = inr (ahead.left, ahead.most, ahead.due_is)
may_fall (Some (Some due)) was now (inr come) = inl come.due_is

due_by : (calls : Option ℕ) (reply : Option Reply) (was now : FlashView) → KeepsPlan was now → Costs calls reply was now → DueBy calls (option_map Told reply) was.due now.due
due_by None reply was now plan costs = may_fall was.due was now plan
due_by (Some calls) None was now plan costs = costs
due_by (Some calls) (Some Down) was now plan costs = costs
due_by (Some calls) (Some _) was now plan costs = costs

module _ (acts : Event → Option Reply → State → State → Type 0) (stands : Device → FlashView → State → Type 0) (calls : State → Event → Option ℕ) (next : List ℕ → ℕ → ℕ) where
  -- one step, as it is answered and written
  one : (mode : Mode) (step : Step) (answer : Option Answer) (result : Result (Unit {0}) WriteFault) (start mid : World) (old new : Desk)
      → MayAnswerBy acts next step answer start mid → DueBy (calls_of_step calls start step) answer old.flash.due new.flash.due → IsAt stands mode new mid → Wrote (line_of answer) result old.sink new.sink
      → Ends acts stands calls next mode (step ∷ []) (of_line result) start old new
  one mode step answer (Ok done) start mid old new may due is_at wrote = record {
    answers = answer ∷ [];
    now = mid;
    run = (mid, new.flash.due, may, due, (refl, refl));
    is_at = is_at;
    written = wrote ∙ ap (λ l. old.sink.written ++ l) (sym (append-nil (line_of answer)));
  }
  one mode step None (Err broken) start mid old new may due is_at wrote = absurd (no_cut wrote.0 wrote.1)
  one mode step (Some answer) (Err broken) start mid old new may due is_at wrote = record {
    front = step ∷ [];
    others = [];
    split = refl;
    answers = Some answer ∷ [];
    now = mid;
    run = (mid, new.flash.due, may, due, (refl, refl));
    is_at = is_at;
    cut = record {
      earlier = [];
      last = answer;
      answers_are = refl;
      more = wrote.0;
      cut = wrote.1;
      written = wrote.2;
    };
  }

  -- an event and its reply
  happens : (event : Event) (reply : Option Reply) (old : World) (new : State) → IsEvent event → acts event reply old.device new
      → MayAnswerBy acts next (Act event) (option_map Told reply) old (record old { device = new })
  happens event None old new is acts = ((is, acts), refl)
  happens event (Some reply) old new is acts = ((is, acts), refl)

  told_by : (mode : Mode) (keeper : KeeperView) (event : Event) (reply : Option Reply) (result : Result (Unit {0}) WriteFault) (old new : Device) (was now : FlashView) (before after : SinkView) → uses_flash mode ≡ true → IsEvent event
      → ((state : State) → stands old was state → (after : State) × acts event reply state after × stands new now after)
      → ((state : State) → stands old was state → DueBy (calls state event) (option_map Told reply) was.due now.due) → Wrote (line_of (option_map Told reply)) result before after
      → WorksBy acts stands calls next mode (Act event ∷ []) (of_line result) (desk old keeper was before) (desk new keeper now after)
  told_by mode keeper event reply result old new was now before after uses is does dues wrote start is_at =
      let did = does start.device (is_at.device uses) in
      one mode (Act event) (option_map Told reply) result start (record start { device = did.0 }) (desk old keeper was before) (desk new keeper now after)
      (happens event reply start did.0 is did.1) (dues start.device (is_at.device uses)) (record { tables = is_at.tables; device = λ uses. did.2 }) wrote

  -- a text that is said
  said_by : (mode : Mode) (words : List ℕ) (result : Result (Unit {0}) WriteFault) (device : Device) (keeper : KeeperView) (flash : FlashView) (before after : SinkView) → Wrote (line_of (Some (Said words))) result before after
      → WorksBy acts stands calls next mode (Say words ∷ []) (of_line result) (desk device keeper flash before) (desk device keeper flash after)
  said_by mode words result device keeper flash before after wrote start is_at =
      one mode (Say words) (Some (Said words)) result start start (desk device keeper flash before) (desk device keeper flash after) (refl, refl) (due_stays flash.due) (record { tables = is_at.tables; device = is_at.device }) wrote

  -- a command that was answered
  served_by : (mode : Mode) (command : Command) (answer : LedgerAnswer) (result : Result (Unit {0}) WriteFault) (device : Device) (was now : KeeperView) (flash : FlashView) (before after : SinkView)
      → IsCommand command → uses_keeper mode ≡ true → Applies (λ t. done next t command) (Ok answer) was now → Wrote (line_of (Some (Did answer))) result before after
      → WorksBy acts stands calls next mode (Do command ∷ []) (of_line result) (desk device was flash before) (desk device now flash after)
  served_by mode command answer result device was now flash before after is uses applies wrote start is_at =
      let applied = applied_ok (λ t. done next t command) answer was.tables now.tables start.tables (is_at.tables uses) applies.tables in
      one mode (Do command) (Some (Did answer)) result start (record start { tables = (done next start.tables command).tables }) (desk device was flash before) (desk device now flash after)
      ((is, applied.0, refl), refl) (due_stays flash.due) (record { tables = λ uses. applied.1; device = is_at.device }) wrote

  -- a command at which the keeper failed
  failed_by : (mode : Mode) (command : Command) (device : Device) (was now : KeeperView) (flash : FlashView) (sink : SinkView)
      → IsCommand command → uses_keeper mode ≡ true → Applies (λ t. done next t command) (Err ledger_fault.Keeper) was now
      → WorksBy acts stands calls next mode (Do command ∷ []) (Err fault.Keep) (desk device was flash sink) (desk device now flash sink)
  failed_by mode command device was now flash sink is uses applies start is_at =
      ⊎_elim
      (λ (same : now.tables ≡ Some start.tables). record {
        command = command;
        asks = record { alone = refl; range = is };
        now = start;
        change = inl refl;
        is_at = record { tables = λ uses. same; device = is_at.device };
        written = refl;
        due = refl;
      })
      (λ (whole : now.tables ≡ Some (done next start.tables command).tables). record {
        command = command;
        asks = record { alone = refl; range = is };
        now = record start { tables = (done next start.tables command).tables };
        change = inr refl;
        is_at = record { tables = λ uses. whole; device = is_at.device };
        written = refl;
        due = refl;
      })
      (either_way (λ t. done next t command) was.tables now.tables start.tables (is_at.tables uses) applies.tables)

  -- a command for which there was no memory
  refused_by : (mode : Mode) (command : Command) (device : Device) (was now : KeeperView) (flash : FlashView) (sink : SinkView) → Applies (λ t. done next t command) (Err ledger_fault.Memory) was now
      → WorksBy acts stands calls next mode (Do command ∷ []) (Err fault.Memory) (desk device was flash sink) (desk device now flash sink)
  refused_by mode command device was now flash sink applies start is_at =
      record { is_at = record { tables = λ uses. applies.tables ∙ is_at.tables uses; device = is_at.device }; written = refl; due = refl }

  -- no memory to read a line
  unread_by : (mode : Mode) (steps : List Step) (old : Desk) → WorksBy acts stands calls next mode steps (Err fault.Memory) old old
  unread_by mode steps old start is_at = record { is_at = is_at; written = refl; due = refl }

  -- nothing to do
  nothing_by : (mode : Mode) (old : Desk) → WorksBy acts stands calls next mode [] (Ok tt) old old
  nothing_by mode old start is_at = record {
    answers = [];
    now = start;
    run = (refl, refl);
    is_at = is_at;
    written = sym (append-nil old.sink.written);
  }

module _ (next : List ℕ → ℕ → ℕ) where
  pub told : (event : Event) (reply : Option Reply) (result : Result (Unit {0}) WriteFault) (old new : Device) (was now : FlashView) (before after : SinkView)
      → IsEvent event → Does next event old was reply new now → CostsAsSaid next event old was reply now → Remembers next event old was reply new now → FaultsBy reply was.faults now.faults → KeepsPlan was now → (reply ≡ Some Down → IsDown new)
      → Wrote (line_of (option_map Told reply)) result before after → DeviceWorks next (Act event ∷ []) result old was before new now after
  told event reply result old new was now before after is does costs remembers counted plan down wrote mode keeper uses = record {
    seen = told_by (Acts next) Agrees (calls_of next) next mode keeper event reply result old new was now before after uses is does
        (λ state agrees. due_by (calls_of next state event) reply was now plan (costs state agrees)) wrote;
    unseen = told_by (ActsUnseen next) Recalls unsaid next mode keeper event reply result old new was now before after uses is (remembered next event old new was now reply remembers counted down) (λ state recalls. may_fall was.due was now plan) wrote;
  }

  pub said : (words : List ℕ) (result : Result (Unit {0}) WriteFault) (before after : SinkView) → Wrote (line_of (Some (Said words))) result before after → Says next (Say words ∷ []) result before after
  said words result before after wrote mode device keeper flash = record {
    seen = said_by (Acts next) Agrees (calls_of next) next mode words result device keeper flash before after wrote;
    unseen = said_by (ActsUnseen next) Recalls unsaid next mode words result device keeper flash before after wrote;
  }

  pub served : (mode : Mode) (command : Command) (answer : LedgerAnswer) (result : Result (Unit {0}) WriteFault) (device : Device) (was now : KeeperView) (flash : FlashView) (before after : SinkView)
      → IsCommand command → uses_keeper mode ≡ true → Applies (λ t. done next t command) (Ok answer) was now → Wrote (line_of (Some (Did answer))) result before after
      → Works next mode (Do command ∷ []) (of_line result) (desk device was flash before) (desk device now flash after)
  served mode command answer result device was now flash before after is uses applies wrote = record {
    seen = served_by (Acts next) Agrees (calls_of next) next mode command answer result device was now flash before after is uses applies wrote;
    unseen = served_by (ActsUnseen next) Recalls unsaid next mode command answer result device was now flash before after is uses applies wrote;
  }

  pub failed : (mode : Mode) (command : Command) (device : Device) (was now : KeeperView) (flash : FlashView) (sink : SinkView)
      → IsCommand command → uses_keeper mode ≡ true → Applies (λ t. done next t command) (Err ledger_fault.Keeper) was now
      → Works next mode (Do command ∷ []) (Err fault.Keep) (desk device was flash sink) (desk device now flash sink)
  failed mode command device was now flash sink is uses applies = record {
    seen = failed_by (Acts next) Agrees (calls_of next) next mode command device was now flash sink is uses applies;
    unseen = failed_by (ActsUnseen next) Recalls unsaid next mode command device was now flash sink is uses applies;
  }

  pub refused : (mode : Mode) (command : Command) (device : Device) (was now : KeeperView) (flash : FlashView) (sink : SinkView) → Applies (λ t. done next t command) (Err ledger_fault.Memory) was now
      → Works next mode (Do command ∷ []) (Err fault.Memory) (desk device was flash sink) (desk device now flash sink)
  refused mode command device was now flash sink applies = record {
    seen = refused_by (Acts next) Agrees (calls_of next) next mode command device was now flash sink applies;
    unseen = refused_by (ActsUnseen next) Recalls unsaid next mode command device was now flash sink applies;
  }

  pub unread : (mode : Mode) (steps : List Step) (old : Desk) → Works next mode steps (Err fault.Memory) old old
  unread mode steps old = record { seen = unread_by (Acts next) Agrees (calls_of next) next mode steps old; unseen = unread_by (ActsUnseen next) Recalls unsaid next mode steps old }

  pub nothing : (mode : Mode) (old : Desk) → Works next mode [] (Ok tt) old old
  nothing mode old = record { seen = nothing_by (Acts next) Agrees (calls_of next) next mode old; unseen = nothing_by (ActsUnseen next) Recalls unsaid next mode old }

  -- a space among keys presses none
  pub pressed_nothing : (key : ℕ) (device : Device) (flash : FlashView) (sink : SinkView) → key ≡ 32 → DeviceWorks next (map Act (presses (key ∷ []))) (Ok tt) device flash sink device flash sink
  pressed_nothing key device flash sink space mode keeper uses = rw space (nothing mode (desk device keeper flash sink))

-- another byte among keys presses one
pub pressed_one : (key : ℕ) → key ≢ 32 → map Act (presses (key ∷ [])) ≡ Act (Key key) ∷ []
pressed_one key other = let test : (key == 32) ≡ false = grind (arith, nat_tests) in rw test refl

-- a line is short enough to be read
short : (line : List ℕ) → length line ≤ 4096 → nat_lt 4096 (length line) ≡ false
short line most = grind (arith, nat_tests)

pub steps_none : (mode : Mode) (line rest : List ℕ) → length line ≤ 4096 → rest ≡ trimmed line → length rest ≡ 0 → steps_of_line mode line ≡ []
steps_none mode line rest most is none =
    let empty : trimmed line ≡ [] = sym is ∙ nil_from_length rest none in
    rw (short line most) (ap (steps_of_text mode) empty)

-- a text that begins with `{`
ledger_text : (mode : Mode) (rest : List ℕ) → length rest ≢ 0 → get_or rest 0 0 ≡ 123 → (steps_of_text mode rest ≡ steps_of_ledger mode rest) × (is_ledger_text rest ≡ true)
ledger_text mode [] some first = absurd (some refl)
ledger_text mode (c ∷ cs) some first = (rw first refl, rw first refl)

not_ledger : (c : ℕ) → c ≢ 123 → (c == 123) ≡ false
not_ledger c other = grind (arith, nat_tests)

-- a text that begins otherwise
device_text : (mode : Mode) (rest : List ℕ) → length rest ≢ 0 → get_or rest 0 0 ≢ 123 → steps_of_text mode rest ≡ steps_of_device mode rest
device_text mode [] some first = absurd (some refl)
device_text mode (c ∷ cs) some first = rw (not_ledger c first) refl

module _ (mode : Mode) (line rest : List ℕ) (most : length line ≤ 4096) (is : rest ≡ trimmed line) (some : length rest ≢ 0) where
  pub steps_ledger : get_or rest 0 0 ≡ 123 → steps_of_line mode line ≡ steps_of_ledger mode rest
  steps_ledger first = rw (short line most) (ap (steps_of_text mode) (sym is) ∙ (ledger_text mode rest some first).0)

  pub is_ledger : get_or rest 0 0 ≡ 123 → is_ledger_text (trimmed line) ≡ true
  is_ledger first = ap is_ledger_text (sym is) ∙ (ledger_text mode rest some first).1

  pub steps_device : get_or rest 0 0 ≢ 123 → steps_of_line mode line ≡ steps_of_device mode rest
  steps_device first = rw (short line most) (ap (steps_of_text mode) (sym is) ∙ device_text mode rest some first)

-- the steps of a line of the device where the run takes it
by_device : (rest : List ℕ) (events : Option (List Event)) → events_in rest ≡ events → steps_of_device_line rest ≡ unwrap_or (option_map (λ events. map Act events) events) (Say (codes "unread") ∷ [])
by_device rest events found = ap (λ o. unwrap_or (option_map (λ events. map Act events) o) (Say (codes "unread") ∷ [])) found

taken_device : (mode : Mode) (rest : List ℕ) → mode ≢ mode_is.Serve → steps_of_device mode rest ≡ steps_of_device_line rest
taken_device mode_is.Serve rest other = absurd (other refl)
taken_device mode_is.Device rest other = refl
taken_device mode_is.Both rest other = refl

pub uses_device : (mode : Mode) → mode ≢ mode_is.Serve → uses_flash mode ≡ true
uses_device mode_is.Serve other = absurd (other refl)
uses_device mode_is.Device other = refl
uses_device mode_is.Both other = refl

pub uses_ledger : (mode : Mode) → mode ≢ mode_is.Device → uses_keeper mode ≡ true
uses_ledger mode_is.Serve other = refl
uses_ledger mode_is.Device other = absurd (other refl)
uses_ledger mode_is.Both other = refl

pub steps_asked : (mode : Mode) (rest : List ℕ) → mode ≢ mode_is.Serve → (events : List Event) → Some events ≡ events_in rest → steps_of_device mode rest ≡ map Act events
steps_asked mode rest other events found = taken_device mode rest other ∙ by_device rest (Some events) (sym found)

pub steps_unread : (mode : Mode) (rest : List ℕ) → mode ≢ mode_is.Serve → None ≡ events_in rest → steps_of_device mode rest ≡ Say (codes "unread") ∷ []
steps_unread mode rest other none = taken_device mode rest other ∙ by_device rest None (sym none)

pub steps_read : (mode : Mode) (text : List ℕ) (reading : Result Command TextFault) → mode ≢ mode_is.Device → command_in text ≡ reading → steps_of_ledger mode text ≡ step_of_reading reading ∷ []
steps_read mode_is.Serve text reading other is = ap (λ r. step_of_reading r ∷ []) is
steps_read mode_is.Device text reading other is = absurd (other refl)
steps_read mode_is.Both text reading other is = ap (λ r. step_of_reading r ∷ []) is

-- what was read of a line of the ledger is what the line asks for, but for want of memory
pub read_ok : (text : List ℕ) (command : Command) → (Ok command ≢ Err text_fault.Memory → Ok command ≡ command_in text) → command_in text ≡ Ok command
read_ok text command value = sym (value (λ e. cc))

abbrev refusal : TextFault → Result Command TextFault
refusal fault = Err fault

pub read_fault : (text : List ℕ) (fault : TextFault) → fault ≢ text_fault.Memory → (refusal fault ≢ Err text_fault.Memory → refusal fault ≡ command_in text) → command_in text ≡ Err fault
read_fault text fault other value = sym (value (λ e. other (let same : fault ≡ text_fault.Memory = cc in same)))
