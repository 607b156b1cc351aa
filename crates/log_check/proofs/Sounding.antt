-- Where some state fits a log, the log is one of a run, or the first lines of one; and it is a whole one where no step
-- waits.
use Rattle.std.proofs.Common.{◌≡◌, ℕ, true, false, List, [], ◌∷◌, ◌++◌, map, append-nil, Option, Some, None, refl, sym, ap, subst, ◌∙◌, ⊎_elim}
use Rattle.std.specs.Prelude.{is_none}
use Rattle.std.specs.List.{Contains}
use Rattle.std.proofs.lemmas.Bool.{cases_Bool}
use Rattle.std.proofs.lemmas.Grind.{flat_map-append}
use Rattle.paygo_spec.specs.declared.Event.{Event}
use Rattle.paygo_spec.specs.declared.Reply.{Reply}
use Rattle.paygo_spec.specs.Machine.{State, Blank, Acts, IsEvent, starting}
use Rattle.ledger_spec.specs.AnswerText.{text_of_answer}
use Rattle.ledger_spec.specs.Ledger.{done}
use Rattle.ledger_spec.specs.Tables.{Tables, no_tables}
use Rattle.run_spec.specs.declared.Mode.TheVariants as mode
use Rattle.run_spec.specs.Meaning.{steps_of_line}
use Rattle.run_spec.specs.Run.{Step, Say, Do, Act, Answer, Said, Did, Told as ToldOf, World, MayAnswer, Run, beginning}
use Rattle.log_check.specs.After.{summed_state, after}
use Rattle.log_check.specs.Fits.{Marked, Typed, Told, Unmarked, Fit, fit, first_fit, going_on, is_silent, settled, says, if_says, after_typed, after_told, after_line, after_lines, fits}
use Rattle.log_check.specs.Logs.{texts_of, texts, Talk, log_of, RunOver, IsLog, BeginsLog}
use Rattle.log_check.proofs.Choices.{after_may}
use Rattle.log_check.proofs.Members.{none_in, in_one}
use Rattle.log_check.proofs.Fitting.{in_going}
use Rattle.log_check.proofs.Steps.{AreSteps, none_is, says_is, if_in_text}
use Rattle.log_check.proofs.Totals.{steps_go}
use Rattle.log_check.proofs.Asking.{lines_good}

pub run_append : (next : List ℕ → ℕ → ℕ) (a m b : World) (steps others : List Step) (xs ys : List (Option Answer))
    → Run next a steps xs m → Run next m others ys b → Run next a (steps ++ others) (xs ++ ys) b
run_append next a m b [] others [] ys h k = subst (λ (w : World). Run next w others ys b) h k
run_append next a m b (s ∷ steps) others (x ∷ xs) ys h k = (h.0, h.1, run_append next h.0 m b steps others xs ys h.2 k)
run_append next a m b [] others (x ∷ xs) ys h k = absurd h
run_append next a m b (s ∷ steps) others [] ys h k = absurd h

-- This world has these tables, and its device is this state with the history forgotten.
pub record Is (world : World) (tables : Tables) (state : State) : Type 0 where
  pub tables_are : world.tables ≡ tables
  pub device_is : state ≡ summed_state world.device

module _ (next : List ℕ → ℕ → ℕ) where
  -- A world goes on to one of this state by steps that have no reply.
  pub record Silently (front : List Step) (old : World) (tables : Tables) (state : State) : Type 0 where
    pub answers : List (Option Answer)
    pub now : World
    pub run : Run next old front answers now
    pub silent : texts answers ≡ []
    pub is : Is now tables state

  -- From a state in the list, and whatever world it is that of, silent steps lead to this state.
  pub record Before (waiting : List Step) (tables : Tables) (states : List State) (new : Fit) (state : State) : Type 0
    where
      pub old : State
      pub old_in : Contains states old
      pub front : List Step
      pub split : waiting ≡ front ++ new.waiting
      pub valid : AreSteps new.waiting
      pub goes : (world : World) → Is world tables old → Silently front world new.tables state

  stays : (waiting : List Step) (tables : Tables) (states : List State) (state : State) → AreSteps waiting
      → Contains states state → Before waiting tables states (fit waiting tables states) state
  stays waiting tables states state valid h = record {
    old = state;
    old_in = h;
    front = [];
    split = refl;
    valid = valid;
    goes = λ world is. record { answers = []; now = world; run = refl; silent = refl; is = is };
  }

  event_before : (event : Event) (waiting : List Step) (tables : Tables) (states : List State) (new : Fit)
      (state : State) → IsEvent event → Before waiting tables (going_on next is_none event states) new state
      → Before (Act event ∷ waiting) tables states new state
  event_before event waiting tables states new state valid b =
      let c = in_going next is_none event states b.old b.old_in in record {
        old = c.old;
        old_in = c.old_in;
        front = Act event ∷ b.front;
        split = ap (λ (l : List Step). Act event ∷ l) b.split;
        valid = b.valid;
        goes = λ world is.
            let m = after_may next event world.device c.by
            (subst (λ (d : State). Contains (after next d event) c.by) is.device_is c.by_in) in
            let mid : World = record { tables = world.tables; device = m.0 } in
            let s = b.goes mid record { tables_are = is.tables_are; device_is = sym c.is ∙ m.2 } in
            let acts : Acts next event None world.device m.0 = subst
            (λ (r : Option Reply). Acts next event r world.device m.0) (none_is c.by.reply c.passes) m.1 in
            record {
              answers = None ∷ s.answers;
              now = s.now;
              run = (mid, ((valid, acts), refl), s.run);
              silent =
                  s.silent;
              is = s.is;
            };
      }

  pub settled_before : (waiting : List Step) (tables : Tables) (states : List State) (state : State) → AreSteps waiting
      → Contains (settled next waiting tables states).states state
      → Before waiting tables states (settled next waiting tables states) state
  settled_before [] tables states state valid h = stays [] tables states state valid h
  settled_before (Say text ∷ waiting) tables states state valid h = stays (Say text ∷ waiting) tables states state valid
      h
  settled_before (Do command ∷ waiting) tables states state valid h = stays (Do command ∷ waiting) tables states state
      valid h
  settled_before (Act event ∷ waiting) tables states state valid h =
      ⊎_elim
      (λ (t : is_silent event states ≡ true).
      let h' : Contains (settled next waiting tables (going_on next is_none event states)).states state = rw t at h in
      rw t (event_before event waiting tables states (settled next waiting tables (going_on next is_none event states))
      state valid.0 (settled_before waiting tables (going_on next is_none event states) state valid.1 h')))
      (λ (t : is_silent event states ≡ false). let h' : Contains states state = rw t at h in rw t
      (stays (Act event ∷ waiting) tables states state valid h'))
      (cases_Bool (is_silent event states))

  -- From this world, where these steps wait, a run has these lines, and more where that is said.
  pub record Goes (world : World) (waiting : List Step) (lines : List Marked) (rest : List Step) : Type 0 where
    pub answers : List (Option Answer)
    pub mid : World
    pub talks : List Talk
    pub now : World
    pub more : List Marked
    pub run : Run next world waiting answers mid
    pub over : RunOver next mid talks now
    pub log_is : map Told (texts answers) ++ log_of talks ≡ lines ++ more
    pub whole : rest ≡ [] → more ≡ []

  -- From a state in the list, and whatever world it is that of, a run has these lines.
  pub record Sound (old : Fit) (lines : List Marked) : Type 0 where
    pub state : State
    pub state_in : Contains old.states state
    pub goes : (world : World) → Is world old.tables state
        → Goes world old.waiting lines (after_lines next old lines).waiting

  no_answers : (waiting : List Step) (world now : World) (answers : List (Option Answer)) → waiting ≡ []
      → Run next world waiting answers now → texts answers ≡ []
  no_answers [] world now [] e run = refl
  no_answers [] world now (x ∷ answers) e run = absurd run
  no_answers (s ∷ waiting) world now answers e run = absurd cc

  sound_none : (old : Fit) (state : State) → AreSteps old.waiting → Contains old.states state → Sound old []
  sound_none old state valid h = record {
    state = state;
    state_in = h;
    goes = λ world is.
        let r = steps_go next old.waiting world valid in record {
          answers = r.0;
          mid = r.1;
          talks = [];
          now = r.1;
          more = map Told (texts r.0);
          run = r.2;
          over = refl;
          log_is = append-nil (map Told (texts r.0));
          whole = λ e. ap (map Told) (no_answers old.waiting world r.1 r.0 e r.2);
        };
  }

  texts_append : (xs ys : List (Option Answer)) → texts (xs ++ ys) ≡ texts xs ++ texts ys
  texts_append xs ys = flat_map-append texts_of xs ys

  run_same : (a b : World) (steps others : List Step) (xs : List (Option Answer)) → steps ≡ others
      → Run next a steps xs b → Run next a others xs b
  run_same a b steps others xs e h = subst (λ (l : List Step). Run next a l xs b) e h

  -- silent steps before a run's own
  silently_first : (world : World) (front waiting all : List Step) (lines : List Marked) (rest : List Step)
      (tables : Tables) (state : State) (s : Silently front world tables state) → all ≡ front ++ waiting
      → Goes s.now waiting lines rest
      → Goes world all lines rest
  silently_first world front waiting all lines rest tables state s e g =
      let same : texts (s.answers ++ g.answers) ≡ texts g.answers = texts_append s.answers g.answers
      ∙ ap (λ (l : List (List ℕ)). l ++ texts g.answers) s.silent in record {
        answers = s.answers ++ g.answers;
        mid = g.mid;
        talks = g.talks;
        now = g.now;
        more = g.more;
        run = run_same world g.mid (front ++ waiting) all (s.answers ++ g.answers) (sym e)
            (run_append next world s.now g.mid front waiting s.answers g.answers s.run g.run);
        over = g.over;
        log_is = ap (λ (l : List (List ℕ)). map Told l ++ log_of g.talks) same ∙ g.log_is;
        whole = g.whole;
      }

  -- a line that was typed, where no step waited
  typed_first : (world : World) (line : List ℕ) (lines : List Marked) (rest : List Step)
      → Goes world (steps_of_line mode.Both line) lines rest → Goes world [] (Typed line ∷ lines) rest
  typed_first world line lines rest g = record {
    answers = [];
    mid = world;
    talks = record { line = line; answers = g.answers } ∷ g.talks;
    now = g.now;
    more = g.more;
    run = refl;
    over = (g.mid, g.run, g.over);
    log_is = ap (λ (l : List Marked). Typed line ∷ l) g.log_is;
    whole = g.whole;
  }

  -- an answer that was told
  told_first : (world mid : World) (step : Step) (answer : Option Answer) (text : List ℕ) (waiting : List Step)
      (lines : List Marked) (rest : List Step) → MayAnswer next step answer world mid → texts_of answer ≡ text ∷ []
      → Goes mid waiting lines rest
      → Goes world (step ∷ waiting) (Told text ∷ lines) rest
  told_first world mid step answer text waiting lines rest may says g = record {
    answers = answer ∷ g.answers;
    mid = g.mid;
    talks = g.talks;
    now = g.now;
    more = g.more;
    run = (mid, may, g.run);
    over = g.over;
    log_is = ap (λ (l : List (List ℕ)). map Told (l ++ texts g.answers) ++ log_of g.talks) says
        ∙ ap (λ (l : List Marked). Told text ∷ l) g.log_is;
    whole = g.whole;
  }

  settled_valid : (waiting : List Step) (tables : Tables) (states : List State) → AreSteps waiting
      → AreSteps (settled next waiting tables states).waiting
  settled_valid [] tables states valid = tt
  settled_valid (Say text ∷ waiting) tables states valid = valid
  settled_valid (Do command ∷ waiting) tables states valid = valid
  settled_valid (Act event ∷ waiting) tables states valid =
      ⊎_elim (λ (t : is_silent event states ≡ true). rw t
      (settled_valid waiting tables (going_on next is_none event states) valid.1))
      (λ (t : is_silent event states ≡ false). rw t valid) (cases_Bool (is_silent event states))

  typed_valid : (line : List ℕ) (waiting : List Step) (tables : Tables) (states : List State) → AreSteps waiting
      → AreSteps (after_typed next line waiting tables states).waiting
  typed_valid line [] tables states valid = settled_valid (steps_of_line mode.Both line) tables states (lines_good line)
  typed_valid line (step ∷ waiting) tables states valid = valid

  told_valid : (text : List ℕ) (waiting : List Step) (tables : Tables) (states : List State) → AreSteps waiting
      → AreSteps (after_told next text waiting tables states).waiting
  told_valid text [] tables states valid = tt
  told_valid text (Say said ∷ waiting) tables states valid = settled_valid waiting tables (if_says said text states)
      valid.1
  told_valid text (Do command ∷ waiting) tables states valid = let did = done next tables command in settled_valid
      waiting did.tables (if_says (text_of_answer did.answer) text states) valid.1
  told_valid text (Act event ∷ waiting) tables states valid = settled_valid waiting tables
      (going_on next (says text) event states) valid.1

  pub line_valid : (old : Fit) (line : Marked) → AreSteps old.waiting → AreSteps (after_line next old line).waiting
  line_valid old (Typed line) valid = typed_valid line old.waiting old.tables old.states valid
  line_valid old (Told text) valid = told_valid text old.waiting old.tables old.states valid
  line_valid old Unmarked valid = valid

  -- behind the first steps of a line, or of what waits, the rest goes on
  goes_settled : (waiting : List Step) (tables : Tables) (states : List State) (new : Fit) (lines : List Marked)
      (s : Sound new lines) (b : Before waiting tables states new s.state) (world : World) → Is world tables b.old
      → Goes world waiting lines (after_lines next new lines).waiting
  goes_settled waiting tables states new lines s b world is =
      let si = b.goes world is in
      silently_first world b.front new.waiting waiting lines (after_lines next new lines).waiting new.tables s.state si
      b.split (s.goes si.now si.is)

  sound_typed : (line : List ℕ) (lines : List Marked) (waiting : List Step) (tables : Tables) (states : List State)
      → Sound (after_typed next line waiting tables states) lines
      → Sound (fit waiting tables states) (Typed line ∷ lines)
  sound_typed line lines [] tables states s =
      let b = settled_before (steps_of_line mode.Both line) tables states s.state (lines_good line) s.state_in in
      let new = settled next (steps_of_line mode.Both line) tables states in record {
        state = b.old;
        state_in = b.old_in;
        goes = λ world is. typed_first world line lines (after_lines next new lines).waiting
            (goes_settled (steps_of_line mode.Both line) tables states new lines s b world is);
      }
  sound_typed line lines (step ∷ waiting) tables states s = absurd (none_in s.state s.state_in)

  sound_told : (text : List ℕ) (lines : List Marked) (waiting : List Step) (tables : Tables) (states : List State)
      → AreSteps waiting → Sound (after_told next text waiting tables states) lines
      → Sound (fit waiting tables states) (Told text ∷ lines)
  sound_told text lines [] tables states valid s = absurd (none_in s.state s.state_in)
  sound_told text lines (Say said ∷ waiting) tables states valid s =
      let new = settled next waiting tables (if_says said text states) in
      let b = settled_before waiting tables (if_says said text states) s.state valid.1 s.state_in in
      let i = if_in_text said text states b.old b.old_in in record {
        state = b.old;
        state_in = i.1;
        goes = λ world is.
            told_first world world (Say said) (Some (Said said)) text waiting lines (after_lines next new lines).waiting
            (refl, refl) (ap (λ (t : List ℕ). t ∷ []) i.0)
            (goes_settled waiting tables (if_says said text states) new lines s b world is);
      }
  sound_told text lines (Do command ∷ waiting) tables states valid s =
      let did = done next tables command in
      let new = settled next waiting did.tables (if_says (text_of_answer did.answer) text states) in
      let b = settled_before waiting did.tables (if_says (text_of_answer did.answer) text states) s.state valid.1
      s.state_in in
      let i = if_in_text (text_of_answer did.answer) text states b.old b.old_in in record {
        state = b.old;
        state_in = i.1;
        goes = λ world is.
            let mid : World = record { tables = did.tables; device = world.device } in
            told_first world mid (Do command) (Some (Did did.answer)) text waiting lines
            (after_lines next new lines).waiting (
              (
                valid.0,
                ap (λ (x : Tables). (done next x command).answer) (sym is.tables_are),
                ap
                    (λ (x : Tables). (done next x command).tables) (sym is.tables_are),
              ),
              refl,
            )
            (ap (λ (t : List ℕ). t ∷ []) i.0)
            (goes_settled waiting did.tables (if_says (text_of_answer did.answer) text states) new lines s b mid record
            { tables_are = refl; device_is = is.device_is });
      }
  sound_told text lines (Act event ∷ waiting) tables states valid s =
      let on = going_on next (says text) event states in
      let new = settled next waiting tables on in
      let b = settled_before waiting tables on s.state valid.1 s.state_in in
      let c = in_going next (says text) event states b.old b.old_in in
      let said = says_is text c.by.reply c.passes in record {
        state = c.old;
        state_in = c.old_in;
        goes = λ world is.
            let m = after_may next event world.device c.by
            (subst (λ (d : State). Contains (after next d event) c.by) is.device_is c.by_in) in
            let mid : World = record { tables = world.tables; device = m.0 } in
            let acts : Acts next event (Some said.0) world.device m.0 = subst
            (λ (r : Option Reply). Acts next event r world.device m.0) said.1 m.1 in
            told_first world mid (Act event) (Some (ToldOf said.0)) text waiting lines
            (after_lines next new lines).waiting ((valid.0, acts), refl) (ap (λ (t : List ℕ). t ∷ []) said.2)
            (goes_settled waiting tables on new lines s b mid record {
              tables_are = is.tables_are;
              device_is = sym c.is
                  ∙ m.2;
            });
      }

  pub sound : (lines : List Marked) (old : Fit) → AreSteps old.waiting → (state : State)
      → Contains (after_lines next old lines).states state → Sound old lines
  sound [] old valid state h = sound_none old state valid h
  sound (Typed line ∷ lines) old valid state h = sound_typed line lines old.waiting old.tables old.states
      (sound lines (after_line next old (Typed line)) (line_valid old (Typed line) valid) state h)
  sound (Told text ∷ lines) old valid state h = sound_told text lines old.waiting old.tables old.states valid
      (sound lines (after_line next old (Told text)) (line_valid old (Told text) valid) state h)
  sound (Unmarked ∷ lines) old valid state h = let s = sound lines (after_line next old Unmarked) valid state h in
      absurd (none_in s.state s.state_in)

  abbrev empty : World
  empty = beginning no_tables Blank 0

  -- where nothing waited at first, what goes on is a run
  run_none : (world mid : World) (answers : List (Option Answer)) → Run next world [] answers mid → (mid ≡ world)
      × (texts answers ≡ [])
  run_none world mid [] h = (h, refl)
  run_none world mid (x ∷ answers) h = absurd h

  first_sound : (lines : List Marked) (state : State) → Contains (fits next lines).states state
      → Goes empty [] lines (fits next lines).waiting
  first_sound lines state h =
      let s = sound lines first_fit tt state h in
      s.goes empty record { tables_are = refl; device_is = sym (in_one (starting Blank 0) s.state s.state_in) }

  is_log : (lines all : List Marked) (rest : List Step) → (g : Goes empty [] lines rest) → lines ++ g.more ≡ all
      → IsLog next all
  is_log lines all rest g e =
      let n = run_none empty g.mid g.answers g.run in record {
        talks = g.talks;
        now = g.now;
        run = subst (λ (w : World). RunOver next w g.talks g.now) n.0 g.over;
        log_is = ap (λ (l : List (List ℕ)). map Told l ++ log_of g.talks) (sym n.1) ∙ g.log_is ∙ e;
      }

  -- a state that fits shows that the lines begin a log
  pub fits_begin : (lines : List Marked) (state : State) → Contains (fits next lines).states state
      → BeginsLog next lines
  fits_begin lines state h = let g = first_sound lines state h in record
      { more = g.more; log = is_log lines (lines ++ g.more) (fits next lines).waiting g refl }

  -- and where no step waits, that they are a whole one
  pub fits_whole : (lines : List Marked) (state : State) → Contains (fits next lines).states state
      → (fits next lines).waiting ≡ [] → IsLog next lines
  fits_whole lines state h none =
      let g = first_sound lines state h in is_log lines lines (fits next lines).waiting g
      (ap (λ (l : List Marked). lines ++ l) (g.whole none) ∙ append-nil lines)
