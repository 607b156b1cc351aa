-- Where lines are the first ones of a log of a run, each of them may come, and some state fits them.
use Rattle.std.proofs.Common.{◌≡◌, ◌≢◌, ℕ, Bool, true, false, not, List, [], ◌∷◌, ◌++◌, map, append-nil, Option, Some, None, refl, sym, ap, subst, ◌∙◌, ⊎_elim}
use Rattle.std.specs.Prelude.{is_none}
use Rattle.std.specs.List.{Contains}
use Rattle.std.specs.Str.{bytes_eq}
use Rattle.std.proofs.lemmas.Bool.{cases_Bool}
use Rattle.std.proofs.lemmas.Slice.Eq.{bytes_eq-Decides}
use Rattle.paygo_spec.specs.declared.Event.{Event}
use Rattle.paygo_spec.specs.declared.Reply.{Reply}
use Rattle.paygo_spec.specs.Machine.{State, Blank, Acts, starting}
use Rattle.paygo_spec.specs.Text.{text_of}
use Rattle.ledger_spec.specs.AnswerText.{text_of_answer}
use Rattle.ledger_spec.specs.Ledger.{done}
use Rattle.ledger_spec.specs.Tables.{Tables, no_tables}
use Rattle.run_spec.specs.declared.Mode.TheVariants as mode
use Rattle.run_spec.specs.Meaning.{steps_of_line}
use Rattle.run_spec.specs.Run.{Step, Say, Do, Act, Answer, Said, Did, Told as ToldOf, World, MayAnswer, Run, beginning}
use Rattle.log_check.specs.After.{choice, summed_state, after}
use Rattle.log_check.specs.Fits.{Marked, Typed, Told, Unmarked, Fit, fit, first_fit, has_reply, going_on, is_silent, settled, says, if_says, after_told, after_line, after_lines, fits}
use Rattle.log_check.specs.Logs.{texts_of, texts, Talk, log_of, RunOver, IsLog, BeginsLog, MayCome, MayAllCome}
use Rattle.log_check.specs.Waiting.{IsSettled}
use Rattle.log_check.proofs.Alike.{heads, tails, same_text_on, has_reply_on}
use Rattle.log_check.proofs.Choices.{after_may, may_after}
use Rattle.log_check.proofs.Members.{none_in, in_one, first_in}
use Rattle.log_check.proofs.Fitting.{AllReal, in_going, going_in}
use Rattle.log_check.proofs.Steps.{says_is}
use Rattle.log_check.proofs.Replying.{on_after, acts_answering}
use Rattle.log_check.proofs.Totals.{Some_in}

-- The states are ones with the history forgotten, and all are on, or all off.
pub record Good (on : Bool) (states : List State) : Type 0 where
  pub real : AllReal states
  pub same : (d : State) → Contains states d → d.on ≡ on

-- A device is among these.
pub record Among (world : World) (tables : Tables) (states : List State) : Type 0 where
  pub tables_are : world.tables ≡ tables
  pub device_in : Contains states (summed_state world.device)

clash : {A : Type 0} (x : A) (xs : List A) → [] ≡ x ∷ xs → ⊥
clash x xs e = cc

module _ (next : List ℕ → ℕ → ℕ) where
  -- what the states go on to is good again
  goes_good : (test : Option Reply → Bool) (event : Event) (on then : Bool) (states : List State) → Good on states
      → ((reply : Option Reply) → test reply ≡ true → on_after reply on ≡ then)
      → Good then (going_on next test event states)
  goes_good test event on then states good passes = record {
    real = λ d h.
        let c = in_going next test event states d h in
        let s = good.real c.old c.old_in in
        let m = after_may next event s.0 c.by (subst (λ (x : State). Contains (after next x event) c.by) s.1 c.by_in) in
        (m.0, sym c.is ∙ m.2);
    same = λ d h.
        let c = in_going next test event states d h in
        let s = good.real c.old c.old_in in
        let m = after_may next event s.0 c.by (subst (λ (x : State). Contains (after next x event) c.by) s.1 c.by_in) in
        ap (λ (x : State). x.on) (sym c.is ∙ m.2) ∙ (acts_answering next event c.by.reply s.0 m.0 m.1).1
        ∙ ap (on_after c.by.reply) (sym (ap (λ (x : State). x.on) s.1) ∙ good.same c.old c.old_in)
        ∙ passes c.by.reply c.passes;
  }

  -- a device among the states goes on to one among those that they go on to
  among_goes : (test : Option Reply → Bool) (event : Event) (on : Bool) (tables : Tables) (states : List State)
      (world mid : World) (reply : Option Reply) → Good on states → Among world tables states
      → Acts next event reply world.device mid.device → mid.tables ≡ world.tables → test reply ≡ true
      → Among mid tables (going_on next test event states)
  among_goes test event on tables states world mid reply good among acts same t = record {
    tables_are = same ∙ among.tables_are;
    device_in = going_in next test event states good.real (summed_state world.device)
        (choice reply (summed_state mid.device)) among.device_in
        (may_after next event world.device reply mid.device acts) t;
  }

  -- whether a device among the states has a reply is what the first one says
  first_says : (event : Event) (on : Bool) (states : List State) (d : State) → Good on states → Contains states d
      → is_silent event states ≡ not (has_reply event d)
  first_says event on [] d good h = absurd (none_in d h)
  first_says event on (x ∷ states) d good h = ap not
      (has_reply_on event x d (good.same x (first_in x states) ∙ sym (good.same d h)))

  not_both : (b : Bool) → b ≡ true → b ≡ false → ⊥
  not_both true e f = cc
  not_both false e f = cc

  not_true : (b : Bool) → not b ≡ true → b ≡ false
  not_true true e = absurd cc
  not_true false e = refl

  not_false : (b : Bool) → not b ≡ false → b ≡ true
  not_false true e = refl
  not_false false e = absurd cc

  -- a run goes on from a device among the states, where these steps wait
  pub record Ahead (answers : List (Option Answer)) (mid : World) (new : Fit) : Type 0 where
    pub world : World
    pub on : Bool
    pub good : Good on new.states
    pub settled_is : IsSettled new.waiting new.states
    pub among : Among world new.tables new.states
    pub later : List (Option Answer)
    pub run : Run next world new.waiting later mid
    pub same : texts answers ≡ texts later

  here : (waiting : List Step) (tables : Tables) (states : List State) (on : Bool) (world mid : World)
      (answers : List (Option Answer)) → IsSettled waiting states → Good on states → Among world tables states
      → Run next world waiting answers mid
      → Ahead answers mid (fit waiting tables states)
  here waiting tables states on world mid answers is good among run = record
      { world = world; on = on; good = good; settled_is = is; among = among; later = answers; run = run; same = refl }

  silent_answer : (event : Event) (on : Bool) (states : List State) (world mid : World) (answer : Option Answer)
      → Good on states → Contains states (summed_state world.device) → is_silent event states ≡ true
      → MayAnswer next (Act event) answer world mid
      → (answer ≡ None) × Acts next event None world.device mid.device × (mid.tables ≡ world.tables)
  silent_answer event on states world mid None good h silent may = (refl, may.0.1, may.1)
  silent_answer event on states world mid (Some (ToldOf r)) good h silent may =
      absurd (not_both (has_reply event world.device)
      (sym (acts_answering next event (Some r) world.device mid.device may.0.1).0)
      (sym (has_reply_on event (summed_state world.device) world.device refl)
      ∙ not_true (has_reply event (summed_state world.device))
      (sym (first_says event on states (summed_state world.device) good h) ∙ silent)))
  silent_answer event on states world mid (Some (Said t)) good h silent may = absurd may
  silent_answer event on states world mid (Some (Did t)) good h silent may = absurd may

  none_on : (on : Bool) (reply : Option Reply) → is_none reply ≡ true → on_after reply on ≡ on
  none_on on None e = refl
  none_on on (Some reply) e = absurd cc

  pub settles_ahead : (waiting : List Step) (tables : Tables) (states : List State) (on : Bool) (world mid : World)
      (answers : List (Option Answer)) → Good on states → Among world tables states → Run next world waiting answers mid
      → Ahead answers mid (settled next waiting tables states)
  settles_ahead [] tables states on world mid answers good among run = here [] tables states on world mid answers tt
      good among run
  settles_ahead (Say text ∷ waiting) tables states on world mid answers good among run = here (Say text ∷ waiting)
      tables states on world mid answers tt good among run
  settles_ahead (Do command ∷ waiting) tables states on world mid answers good among run = here (Do command ∷ waiting)
      tables states on world mid answers tt good among run
  settles_ahead (Act event ∷ waiting) tables states on world mid [] good among run = absurd run
  settles_ahead (Act event ∷ waiting) tables states on world mid (answer ∷ answers) good among run =
      ⊎_elim
      (λ (t : is_silent event states ≡ true).
      let s = silent_answer event on states world run.0 answer good among.device_in t run.1 in
      let on' = going_on next is_none event states in
      let a = settles_ahead waiting tables on' on run.0 mid answers
      (goes_good is_none event on on states good (none_on on))
      (among_goes is_none event on tables states world run.0 None good among s.1 s.2 refl) run.2 in
      rw t (record {
        world = a.world;
        on = a.on;
        good = a.good;
        settled_is = a.settled_is;
        among = a.among;
        later =
            a.later;
        run = a.run;
        same = ap (λ (x : Option Answer). texts (x ∷ answers)) s.0 ∙ a.same;
      }))
      (λ (t : is_silent event states ≡ false). rw t
      (here (Act event ∷ waiting) tables states on world mid (answer ∷ answers) t good among run))
      (cases_Bool (is_silent event states))

  -- The first step that waits has an answer with a text.
  pub record First (step : Step) (waiting : List Step) (world mid : World) (answers : List (Option Answer)) : Type 0
    where
      pub answer : Option Answer
      pub later : List (Option Answer)
      pub text : List ℕ
      pub split : answers ≡ answer ∷ later
      pub says : texts_of answer ≡ text ∷ []
      pub between : World
      pub may : MayAnswer next step answer world between
      pub run : Run next between waiting later mid

  first_text : (step : Step) (waiting : List Step) (on : Bool) (tables : Tables) (states : List State)
      (world mid : World) (answers : List (Option Answer)) → IsSettled (step ∷ waiting) states → Good on states
      → Among world tables states
      → Run next world (step ∷ waiting) answers mid → First step waiting world mid answers
  first_text step waiting on tables states world mid [] is good among run = absurd run
  first_text (Say text) waiting on tables states world mid (Some (Said t) ∷ answers) is good among run = record {
    answer = Some (Said t);
    later = answers;
    text = t;
    split = refl;
    says = refl;
    between = run.0;
    may = run.1;
    run = run.2;
  }
  first_text (Do command) waiting on tables states world mid (Some (Did t) ∷ answers) is good among run = record {
    answer = Some (Did t);
    later = answers;
    text = text_of_answer t;
    split = refl;
    says = refl;
    between = run.0;
    may = run.1;
    run = run.2;
  }
  first_text (Act event) waiting on tables states world mid (Some (ToldOf r) ∷ answers) is good among run = record {
    answer = Some (ToldOf r);
    later = answers;
    text = text_of r;
    split = refl;
    says = refl;
    between = run.0;
    may =
        run.1;
    run = run.2;
  }
  first_text (Act event) waiting on tables states world mid (None ∷ answers) is good among run =
      absurd (not_both (has_reply event world.device)
      (sym (has_reply_on event (summed_state world.device) world.device refl)
      ∙ not_false (has_reply event (summed_state world.device))
      (sym (first_says event on states (summed_state world.device) good among.device_in) ∙ is))
      (sym (acts_answering next event None world.device run.0.device run.1.0.1).0))
  first_text step waiting on tables states world mid (x ∷ answers) is good among run = absurd run.1

  -- What is known where lines begin a log: each may come, some state fits, and no step waits where nothing is behind
  -- them.
  pub record Complete (old : Fit) (lines more : List Marked) : Type 0 where
    pub may : MayAllCome next old lines
    pub some : Some_in (after_lines next old lines).states
    pub whole : more ≡ [] → (after_lines next old lines).waiting ≡ []

  -- what a run has told, where nothing waits
  nothing_told : (world mid : World) (answers : List (Option Answer)) → Run next world [] answers mid
      → texts answers ≡ []
  nothing_told world mid [] run = refl
  nothing_told world mid (x ∷ answers) run = absurd run

  nothing_moved : (world mid : World) (answers : List (Option Answer)) → Run next world [] answers mid → mid ≡ world
  nothing_moved world mid [] run = run
  nothing_moved world mid (x ∷ answers) run = absurd run

  abbrev is_typed : Marked → Bool
  is_typed (Typed line) = true
  is_typed _ = false

  abbrev inside : Marked → List ℕ
  inside (Typed line) = line
  inside (Told text) = text
  inside Unmarked = []

  -- Told behind these answers and talks.
  abbrev log_from : List (Option Answer) → List Talk → List Marked
  log_from answers talks = map Told (texts answers) ++ log_of talks

  log_none : (answers : List (Option Answer)) (talks : List Talk) → texts answers ≡ []
      → log_from answers talks ≡ log_of talks
  log_none answers talks e = ap (λ (l : List (List ℕ)). map Told l ++ log_of talks) e

  log_first : (answers later : List (Option Answer)) (answer : Option Answer) (text : List ℕ) (talks : List Talk)
      → answers ≡ answer ∷ later → texts_of answer ≡ text ∷ []
      → log_from answers talks ≡ Told text ∷ log_from later talks
  log_first answers later answer text talks split says =
      ap (λ (l : List (Option Answer)). log_from l talks) split
      ∙ ap (λ (l : List (List ℕ)). map Told (l ++ texts later) ++ log_of talks) says

  log_texts : (answers later : List (Option Answer)) (talks : List Talk) → texts answers ≡ texts later
      → log_from answers talks ≡ log_from later talks
  log_texts answers later talks e = ap (λ (l : List (List ℕ)). map Told l ++ log_of talks) e

  complete_none : (more : List Marked) (waiting : List Step) (tables : Tables) (states : List State) (on : Bool)
      (world mid : World) (answers : List (Option Answer)) (talks : List Talk) → Good on states
      → IsSettled waiting states → Among world tables states
      → Run next world waiting answers mid → log_from answers talks ≡ more
      → Complete (fit waiting tables states) [] more
  complete_none more [] tables states on world mid answers talks good is among run log = record
      { may = tt; some = (summed_state world.device, among.device_in); whole = λ e. refl }
  complete_none more (step ∷ waiting) tables states on world mid answers talks good is among run log =
      let f = first_text step waiting on tables states world mid answers is good among run in record {
        may = tt;
        some = (summed_state world.device, among.device_in);
        whole = λ e. absurd (clash (Told f.text) (log_from f.later talks)
            (sym (sym (log_first answers f.later f.answer f.text talks f.split f.says) ∙ log ∙ e)));
      }

  some_left : (states : List State) (d : State) → Contains states d → states ≢ []
  some_left [] d h e = none_in d h
  some_left (x ∷ states) d h e = clash x states (sym e)

  -- What is still to be shown of the lines behind one.
  abbrev Later : List Marked → Type 0
  Later lines =
      (more : List Marked) (old : Fit) (on : Bool) (world mid now : World) (answers : List (Option Answer))
      (talks : List Talk) → Good on old.states → IsSettled old.waiting old.states
      → Among world old.tables old.states
      → Run next world old.waiting answers mid → RunOver next mid talks now → log_from answers talks ≡ lines ++ more
      → Complete old lines more

  from_ahead : (lines more : List Marked) (new : Fit) (mid now : World) (answers : List (Option Answer))
      (talks : List Talk) → Later lines → Ahead answers mid new → RunOver next mid talks now
      → log_from answers talks ≡ lines ++ more → Complete new lines more
  from_ahead lines more new mid now answers talks later a over log = later more new a.on a.world mid now a.later talks
      a.good a.settled_is a.among a.run over (sym (log_texts answers a.later talks a.same) ∙ log)

  one_more : (old : Fit) (line : Marked) (lines more : List Marked) → MayCome old line
      → Complete (after_line next old line) lines more → Complete old (line ∷ lines) more
  one_more old line lines more may c = record { may = (may, c.may); some = c.some; whole = c.whole }

  talk_typed : (line : List ℕ) (lines more : List Marked) (tables : Tables) (states : List State) (on : Bool)
      (world now : World) (talks : List Talk) → Later lines → Good on states → Among world tables states
      → RunOver next world talks now
      → log_of talks ≡ Typed line ∷ (lines ++ more) → Complete (fit [] tables states) (Typed line ∷ lines) more
  talk_typed line lines more tables states on world now [] later good among over log = absurd
      (clash (Typed line) (lines ++ more) log)
  talk_typed line lines more tables states on world now (talk ∷ talks) later good among over log =
      let same : talk.line ≡ line = ap inside
      (heads (Typed talk.line) (Typed line) (log_from talk.answers talks) (lines ++ more) log) in
      let run : Run next world (steps_of_line mode.Both line) talk.answers over.0 = subst
      (λ (l : List ℕ). Run next world (steps_of_line mode.Both l) talk.answers over.0) same over.1 in
      one_more (fit [] tables states) (Typed line) lines more
      (some_left states (summed_state world.device) among.device_in, refl)
      (from_ahead lines more (settled next (steps_of_line mode.Both line) tables states) over.0 now talk.answers talks
      later (settles_ahead (steps_of_line mode.Both line) tables states on world over.0 talk.answers good among run)
      over.2
      (tails (Typed talk.line) (Typed line) (log_from talk.answers talks) (lines ++ more) log))

  complete_typed : (line : List ℕ) (lines more : List Marked) (waiting : List Step) (tables : Tables)
      (states : List State) (on : Bool) (world mid now : World) (answers : List (Option Answer)) (talks : List Talk)
      → Later lines → Good on states
      → IsSettled waiting states → Among world tables states → Run next world waiting answers mid
      → RunOver next mid talks now → log_from answers talks ≡ Typed line ∷ (lines ++ more)
      → Complete (fit waiting tables states) (Typed line ∷ lines) more
  complete_typed line lines more [] tables states on world mid now answers talks later good is among run over log =
      talk_typed line lines more tables states on world now talks later good among
      (subst (λ (w : World). RunOver next w talks now) (nothing_moved world mid answers run) over)
      (sym (log_none answers talks (nothing_told world mid answers run)) ∙ log)
  complete_typed line lines more (step ∷ waiting) tables states on world mid now answers talks later good is among run
      over log =
      let f = first_text step waiting on tables states world mid answers is good among run in
      let e : false ≡ true = ap is_typed (heads (Told f.text) (Typed line) (log_from f.later talks) (lines ++ more)
      (sym (log_first answers f.later f.answer f.text talks f.split f.says) ∙ log)) in absurd cc

  no_told : (text : List ℕ) (rest : List Marked) (talks : List Talk) → log_of talks ≡ Told text ∷ rest → ⊥
  no_told text rest [] e = clash (Told text) rest e
  no_told text rest (talk ∷ talks) e = let f : true ≡ false = ap is_typed
      (heads (Typed talk.line) (Told text) (log_from talk.answers talks) rest e) in cc

  if_same : (said text : List ℕ) (states : List State) → said ≡ text → if_says said text states ≡ states
  if_same said text states e = let t : bytes_eq said text ≡ true = (bytes_eq-Decides said text).1 e in rw t refl

  good_same : (on : Bool) (states others : List State) → others ≡ states → Good on states → Good on others
  good_same on states others e good = subst (Good on) (sym e) good

  among_same : (world : World) (tables : Tables) (states others : List State) → others ≡ states
      → Among world tables states → Among world tables others
  among_same world tables states others e among = subst (Among world tables) (sym e) among

  told_on : (text : List ℕ) (r : Reply) (on : Bool) → text_of r ≡ text → (reply : Option Reply) → says text reply ≡ true
      → on_after reply on ≡ on_after (Some r) on
  told_on text r on e reply t = let s = says_is text reply t in ap (λ (q : Option Reply). on_after q on) s.1
      ∙ same_text_on s.0 r on (s.2 ∙ sym e)

  told_ahead : (step : Step) (text : List ℕ) (waiting : List Step) (tables : Tables) (states : List State) (on : Bool)
      (world between mid : World) (answer : Option Answer) (later : List (Option Answer)) → Good on states
      → Among world tables states
      → MayAnswer next step answer world between → texts_of answer ≡ text ∷ [] → Run next between waiting later mid
      → Ahead later mid (after_told next text (step ∷ waiting) tables states)
  told_ahead (Say said) text waiting tables states on world between mid (Some (Said t)) later good among may says run =
      let same : if_says said text states ≡ states = if_same said text states (sym may.0 ∙ heads t text [] [] says) in
      settles_ahead waiting tables (if_says said text states) on between mid later
      (good_same on states (if_says said text states) same good)
      (among_same between tables states (if_says said text states) same
      (subst (λ (w : World). Among w tables states) (sym may.1) among)) run
  told_ahead (Do command) text waiting tables states on world between mid (Some (Did t)) later good among may says run =
      let did = done next tables command in
      let was : done next world.tables command ≡ did = ap (λ (x : Tables). done next x command) among.tables_are in
      let same : if_says (text_of_answer did.answer) text states ≡ states = if_same (text_of_answer did.answer) text
      states (ap (λ x. text_of_answer x.answer) (sym was) ∙ ap text_of_answer (sym may.0.1)
      ∙ heads (text_of_answer t) text [] [] says) in
      settles_ahead waiting did.tables (if_says (text_of_answer did.answer) text states) on between mid later
      (good_same on states _ same good)
      (among_same between did.tables states (if_says (text_of_answer did.answer) text states) same record {
        tables_are = may.0.2 ∙ ap (λ x. x.tables) was;
        device_in = subst (λ (d : State). Contains states (summed_state d)) (sym may.1) among.device_in;
      }) run
  told_ahead (Act event) text waiting tables states on world between mid (Some (ToldOf r)) later good among may is run =
      let e : text_of r ≡ text = heads (text_of r) text [] [] is in
      settles_ahead waiting tables (going_on next (says text) event states) (on_after (Some r) on) between mid later
      (goes_good (says text) event on (on_after (Some r) on) states good (told_on text r on e))
      (among_goes (says text) event on tables states world between (Some r) good among may.0.1 may.1
      ((bytes_eq-Decides (text_of r) text).1 e)) run
  told_ahead (Act event) text waiting tables states on world between mid None later good among may says run = absurd
      (clash text [] says)
  told_ahead step text waiting tables states on world between mid answer later good among may says run = absurd may

  complete_told : (text : List ℕ) (lines more : List Marked) (waiting : List Step) (tables : Tables)
      (states : List State) (on : Bool) (world mid now : World) (answers : List (Option Answer)) (talks : List Talk)
      → Later lines → Good on states
      → IsSettled waiting states → Among world tables states → Run next world waiting answers mid
      → RunOver next mid talks now → log_from answers talks ≡ Told text ∷ (lines ++ more)
      → Complete (fit waiting tables states) (Told text ∷ lines) more
  complete_told text lines more [] tables states on world mid now answers talks later good is among run over log =
      absurd (no_told text (lines ++ more) talks (sym (log_none answers talks (nothing_told world mid answers run))
      ∙ log))
  complete_told text lines more (step ∷ waiting) tables states on world mid now answers talks later good is among run
      over log =
      let f = first_text step waiting on tables states world mid answers is good among run in
      let e = sym (log_first answers f.later f.answer f.text talks f.split f.says) ∙ log in
      let same : f.text ≡ text = ap inside (heads (Told f.text) (Told text) (log_from f.later talks) (lines ++ more)
      e) in
      one_more (fit (step ∷ waiting) tables states) (Told text) lines more
      (some_left states (summed_state world.device) among.device_in, λ w. clash step waiting (sym w))
      (from_ahead lines more (after_told next text (step ∷ waiting) tables states) mid now f.later talks later
      (told_ahead step text waiting tables states on world f.between mid f.answer f.later good among f.may (f.says
      ∙ ap (λ (t : List ℕ). t ∷ []) same) f.run) over
      (tails (Told f.text) (Told text) (log_from f.later talks) (lines ++ more) e))

  abbrev is_marked : Marked → Bool
  is_marked Unmarked = false
  is_marked _ = true

  unmarked : (told : List (List ℕ)) (talks : List Talk) (rest : List Marked)
      → map Told told ++ log_of talks ≡ Unmarked ∷ rest → ⊥
  unmarked (text ∷ told) talks rest e = let f : true ≡ false = ap is_marked
      (heads (Told text) Unmarked (map Told told ++ log_of talks) rest e) in cc
  unmarked [] [] rest e = clash Unmarked rest e
  unmarked [] (talk ∷ talks) rest e = let f : true ≡ false = ap is_marked
      (heads (Typed talk.line) Unmarked (log_from talk.answers talks) rest e) in cc

  no_unmarked : (answers : List (Option Answer)) (talks : List Talk) (rest : List Marked)
      → log_from answers talks ≡ Unmarked ∷ rest → ⊥
  no_unmarked answers talks rest e = unmarked (texts answers) talks rest e

  pub complete : (lines : List Marked) → Later lines
  complete [] more old on world mid now answers talks good is among run over log = complete_none more old.waiting
      old.tables old.states on world mid answers talks good is among run log
  complete (Typed line ∷ lines) more old on world mid now answers talks good is among run over log =
      complete_typed line lines more old.waiting old.tables old.states on world mid now answers talks (complete lines)
      good is among run over log
  complete (Told text ∷ lines) more old on world mid now answers talks good is among run over log =
      complete_told text lines more old.waiting old.tables old.states on world mid now answers talks (complete lines)
      good is among run over log
  complete (Unmarked ∷ lines) more old on world mid now answers talks good is among run over log = absurd
      (no_unmarked answers talks (lines ++ more) log)

  abbrev empty : World
  empty = beginning no_tables Blank 0

  first_good : Good false (starting Blank 0 ∷ [])
  first_good = record {
    real = λ d h. (starting Blank 0, sym (in_one (starting Blank 0) d h));
    same = λ d h. ap (λ (s : State). s.on) (sym (in_one (starting Blank 0) d h));
  }

  first_among : Among empty no_tables (starting Blank 0 ∷ [])
  first_among = record { tables_are = refl; device_in = first_in (starting Blank 0) [] }

  -- the lines of a log fit
  log_fits : (lines more : List Marked) → IsLog next (lines ++ more) → Complete first_fit lines more
  log_fits lines more log = complete lines more first_fit false empty empty log.now [] log.talks first_good tt
      first_among refl log.run log.log_is

  pub begun_fits : (lines : List Marked) → BeginsLog next lines → MayAllCome next first_fit lines
      × Some_in (fits next lines).states
  begun_fits lines b = let c = log_fits lines b.more b.log in (c.may, c.some)

  pub whole_fits : (lines : List Marked) → IsLog next lines → (fits next lines).waiting ≡ []
  whole_fits lines log = (log_fits lines [] (subst (IsLog next) (sym (append-nil lines)) log)).whole refl

  -- a whole log begins one
  pub whole_begins : (lines : List Marked) → IsLog next lines → BeginsLog next lines
  whole_begins lines log = record { more = []; log = subst (IsLog next) (sym (append-nil lines)) log }
