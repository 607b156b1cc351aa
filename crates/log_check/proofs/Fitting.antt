-- A world fits exactly where a run leads to it over the steps taken, with the answers told.
use Rattle.std.proofs.Common.{◌≡◌, ℕ, Bool, true, false, List, [], ◌∷◌, ◌++◌, map, append_assoc, append-nil, Option, Some, None, refl, sym, ap, subst, ◌∙◌, ⊎_elim, ◌↔◌}
use Rattle.std.specs.Prelude.{is_none}
use Rattle.std.specs.List.{Contains, filter}
use Rattle.std.specs.Str.{bytes_eq}
use Rattle.std.proofs.lemmas.Bool.{cases_Bool}
use Rattle.std.proofs.lemmas.Slice.Eq.{bytes_eq-Decides}
use Rattle.paygo_spec.specs.declared.Event.{Event}
use Rattle.paygo_spec.specs.declared.Reply.{Reply}
use Rattle.paygo_spec.specs.Machine.{State, Blank, Acts, IsEvent, starting}
use Rattle.paygo_spec.specs.Text.{text_of}
use Rattle.ledger_spec.specs.declared.Command.{Command}
use Rattle.ledger_spec.specs.AnswerText.{text_of_answer}
use Rattle.ledger_spec.specs.Ledger.{IsCommand, done}
use Rattle.ledger_spec.specs.Tables.{Tables, no_tables}
use Rattle.run_spec.specs.declared.Mode.TheVariants as mode
use Rattle.run_spec.specs.Meaning.{steps_of_line}
use Rattle.run_spec.specs.Run.{Step, Say, Do, Act, Answer, Said, Did, Told as ToldOf, World, MayAnswer, Run, beginning}
use Rattle.log_check.specs.After.{Choice, choice, summed_state, after}
use Rattle.log_check.specs.Fits.{Marked, Typed, Told, Unmarked, Fit, fit, first_fit, choices, going_on, is_silent, settled, says, if_says, after_typed, after_told, after_line, after_lines}
use Rattle.log_check.specs.Logs.{texts_of, texts, asked_in, told_in, summed_world, Reaches, Has, MayAllCome, IsExact}
use Rattle.log_check.proofs.Alike.{runs_alike}
use Rattle.log_check.proofs.Choices.{after_may, may_after}
use Rattle.log_check.proofs.Members.{none_in, first_in, one_in, in_one, map_in, in_map, flat_in, in_flat, filter_in, in_filter}
use Rattle.log_check.proofs.Puts.{Forgets, AllForget, in_put_all, put_all_has, summed_forgets}
use Rattle.log_check.proofs.Steps.{IsStep, AreSteps, run_snoc, Last, snoc_run, none_is, says_is, if_in_text, texts_snoc, longer, snoc_first}

-- Each of these states is one with its history forgotten.
abbrev pub AllReal : List State → Type 0
AllReal states = (d : State) → Contains states d → (s : State) × (d ≡ summed_state s)

module _ (next : List ℕ → ℕ → ℕ) (test : Option Reply → Bool) (event : Event) (states : List State) where
  abbrev passing : List State
  passing = map (λ (c : Choice). c.state) (filter (λ (c : Choice). test c.reply) (choices next event states))

  -- a state that a device goes on to comes from one of the states by a choice
  pub record Came (x : State) : Type 0 where
    pub old : State
    pub old_in : Contains states old
    pub by : Choice
    pub by_in : Contains (after next old event) by
    pub passes : test by.reply ≡ true
    pub is : by.state ≡ x

  came : (x : State) → Contains passing x → Came x
  came x h =
      let m = in_map (λ (c : Choice). c.state) (filter (λ (c : Choice). test c.reply) (choices next event states)) x
      h in
      let f = in_filter (λ (c : Choice). test c.reply) (choices next event states) m.0 m.1 in
      let s = in_flat (λ (d : State). after next d event) states m.0 f.0 in
      record { old = s.0; old_in = s.1; by = m.0; by_in = s.2; passes = f.1; is = m.2 }

  pub in_going : (x : State) → Contains (going_on next test event states) x → Came x
  in_going x h = ⊎_elim (λ (c : Contains [] x). absurd (none_in x c)) (λ (c : Contains passing x). came x c)
      (in_put_all [] passing x h)

  passing_forget : AllReal states → AllForget passing
  passing_forget real x h =
      let c = came x h in
      let s = real c.old c.old_in in
      let m = after_may next event s.0 c.by (subst (λ (d : State). Contains (after next d event) c.by) s.1 c.by_in) in
      subst (λ (d : State). Forgets d.stored) (sym m.2 ∙ c.is) (summed_forgets m.0)

  pub going_in : AllReal states → (d : State) (c : Choice) → Contains states d → Contains (after next d event) c
      → test c.reply ≡ true → Contains (going_on next test event states) c.state
  going_in real d c h k t =
      put_all_has [] passing c.state (λ x e. absurd (none_in x e)) (passing_forget real)
      (map_in (λ (c : Choice). c.state) _ c (filter_in (λ (c : Choice). test c.reply) (choices next event states) c
      (flat_in (λ (d : State). after next d event) states d c h k) t))

abbrev world : Tables → State → World
world tables device = record { tables = tables; device = device }

module _ (next : List ℕ → ℕ → ℕ) (start : World) where
  -- A world fits exactly where a run leads to it.
  abbrev pub Law : List Step → List (List ℕ) → Tables → List State → Type 0
  Law steps told tables states = (X : World) → (Has tables states X ↔ Reaches next start steps told X)

  module _ (steps : List Step) (told : List (List ℕ)) (tables : Tables) (states : List State)
      (law : Law steps told tables states) where
    real : AllReal states
    real d h = let r = (law (world tables d)).0 (refl, h) in (r.now.device, ap (λ (w : World). w.device) r.world_is)

    -- one step more of a run
    goes_on : (step : Step) (answer : Option Answer) (new : World) (d : State) → (h : Contains states d)
        → MayAnswer next step answer ((law (world tables d)).0 (refl, h)).now new
        → Reaches next start (steps ++ step ∷ []) (told ++ texts_of answer) (summed_world new)
    goes_on step answer new d h may =
        let r = (law (world tables d)).0 (refl, h) in record {
          answers = r.answers ++ answer ∷ [];
          now = new;
          run = run_snoc next start r.now new steps r.answers step answer r.run may;
          told_are = texts_snoc r.answers answer ∙ ap (λ (l : List (List ℕ)). l ++ texts_of answer) r.told_are;
          world_is = refl;
        }

    -- a run over these steps has the texts told, where what it told goes on as those
    same_texts : (d : State) → Contains states d → (ys : List (Option Answer)) (m : World) → Run next start steps ys m
        → (u v : List (List ℕ)) → told ++ u ≡ texts ys ++ v → told ≡ texts ys
    same_texts d h ys m run u v e =
        let r = (law (world tables d)).0 (refl, h) in
        sym r.told_are ∙ (runs_alike next steps r.answers ys u v start start r.now m refl r.run run
        (ap (λ (l : List (List ℕ)). l ++ u) r.told_are ∙ e)).0

    -- a world to which a run over these steps leads fits
    fits_here : (ys : List (Option Answer)) (m : World) → Run next start steps ys m → told ≡ texts ys
        → Has tables states (summed_world m)
    fits_here ys m run e = (law (summed_world m)).1 record
        { answers = ys; now = m; run = run; told_are = sym e; world_is = refl }

    goes_device : (test : Option Reply → Bool) (event : Event) (reply : Option Reply) (mid now : World)
        → test reply ≡ true → Has tables states (summed_world mid) → Acts next event reply mid.device now.device
        → Contains (going_on next test event states) (summed_state now.device)
    goes_device test event reply mid now t h acts =
        going_in next test event states real (summed_state mid.device) (choice reply (summed_state now.device)) h.1
        (may_after next event mid.device reply now.device acts) t

    has_now : (test : Option Reply → Bool) (event : Event) (reply : Option Reply) (mid now X : World)
        → test reply ≡ true → Has tables states (summed_world mid) → Acts next event reply mid.device now.device
        → now.tables ≡ mid.tables → X ≡ summed_world now
        → Has tables (going_on next test event states) X
    has_now test event reply mid now X t h acts same is = (
      ap (λ (w : World). w.tables) is ∙ same ∙ h.0,
      subst (Contains (going_on next test event states)) (sym (ap (λ (w : World). w.device) is))
          (goes_device test event reply mid now t h acts),
    )

    -- an event that isn't answered
    silent_back : (event : Event) (X : World) (earlier : List (Option Answer)) (answer : Option Answer)
        (mid now : World) → Run next start steps earlier mid → MayAnswer next (Act event) answer mid now
        → texts earlier ++ texts_of answer ≡ told → told ≡ texts earlier → X ≡ summed_world now
        → Has tables (going_on next is_none event states) X
    silent_back event X earlier None mid now run may e same is = has_now is_none event None mid now X refl
        (fits_here earlier mid run same) may.0.1 may.1 is
    silent_back event X earlier (Some (ToldOf r)) mid now run may e same is = absurd
        (longer (texts earlier) (text_of r) (sym same ∙ sym e))
    silent_back event X earlier (Some (Said t)) mid now run may e same is = absurd may
    silent_back event X earlier (Some (Did t)) mid now run may e same is = absurd may

    -- an event that is answered with this text
    told_back : (event : Event) (text : List ℕ) (X : World) (earlier : List (Option Answer)) (answer : Option Answer)
        (mid now : World) → Run next start steps earlier mid → MayAnswer next (Act event) answer mid now
        → texts earlier ++ texts_of answer ≡ told ++ text ∷ [] → told ≡ texts earlier → X ≡ summed_world now
        → Has tables (going_on next (says text) event states) X
    told_back event text X earlier None mid now run may e same is = absurd
        (longer told text (same ∙ sym (append-nil (texts earlier)) ∙ e))
    told_back event text X earlier (Some (ToldOf r)) mid now run may e same is =
        let t : text_of r ≡ text = (snoc_first (texts earlier) told (text_of r) text e).1 in
        has_now (says text) event (Some r) mid now X ((bytes_eq-Decides (text_of r) text).1 t)
        (fits_here earlier mid run same) may.0.1 may.1 is
    told_back event text X earlier (Some (Said t)) mid now run may e same is = absurd may
    told_back event text X earlier (Some (Did t)) mid now run may e same is = absurd may

    -- the texts of a run whose last answer this is
    last_texts : (X : World) (step : Step) (more : List (List ℕ)) (r : Reaches next start (steps ++ step ∷ []) more X)
        (l : Last next start r.now steps step r.answers) → texts l.earlier ++ texts_of l.answer ≡ more
    last_texts X step more r l = sym (texts_snoc l.earlier l.answer) ∙ ap texts (sym l.split) ∙ r.told_are

    -- a choice made is one step more of a run
    chosen : (test : Option Reply → Bool) (event : Event) (X : World) → IsEvent event
        → Has tables (going_on next test event states) X
        → (reply : Option Reply) × (test reply ≡ true) × ((d : State) × (h : Contains states d) × (new : State)
        × Acts next event reply ((law (world tables d)).0 (refl, h)).now.device new × (X.device ≡ summed_state new))
    chosen test event X valid h =
        let c = in_going next test event states X.device h.1 in
        let r = (law (world tables c.old)).0 (refl, c.old_in) in
        let m = after_may next event r.now.device c.by
        (subst (λ (d : State). Contains (after next d event) c.by) (ap (λ (w : World). w.device) r.world_is)
        c.by_in) in
        (c.by.reply, c.passes, (c.old, c.old_in, m.0, m.1, sym c.is ∙ m.2))

    world_with : (d : State) (h : Contains states d) (new : State) (X : World) → X.tables ≡ tables
        → X.device ≡ summed_state new → X ≡ summed_world (world ((law (world tables d)).0 (refl, h)).now.tables new)
    world_with d h new X t e =
        let r = (law (world tables d)).0 (refl, h) in
        ap (λ (x : Tables). world x X.device) (t ∙ ap (λ (w : World). w.tables) r.world_is)
        ∙ ap (λ (x : State). world r.now.tables x) e

    silent_law : (event : Event) → IsEvent event → (d : State) → Contains states d
        → Law (steps ++ Act event ∷ []) told tables (going_on next is_none event states)
    unfolding goes_on
    silent_law event valid d h X = (
      λ has.
          let c = chosen is_none event X valid has in
          let none : c.0 ≡ None = none_is c.0 c.1 in
          let r = (law (world tables c.2.0)).0 (refl, c.2.1) in
          let now = world r.now.tables c.2.2 in
          let g = goes_on (Act event) None now c.2.0 c.2.1
          ((valid, subst (λ (q : Option Reply). Acts next event q r.now.device c.2.2) none c.2.3), refl) in
          record {
            answers = g.answers;
            now = g.now;
            run = g.run;
            told_are = g.told_are ∙ append-nil told;
            world_is =
                world_with c.2.0 c.2.1 c.2.2 X has.0 c.2.4;
          },
      λ r.
          let l = snoc_run next start r.now steps (Act event) r.answers r.run in
          let e : texts l.earlier ++ texts_of l.answer ≡ told = last_texts X (Act event) told r l in
          silent_back event X l.earlier l.answer l.mid r.now l.run l.may e
          (same_texts d h l.earlier l.mid l.run [] (texts_of l.answer) (append-nil told ∙ sym e)) r.world_is,
    )

    told_law : (event : Event) (text : List ℕ) → IsEvent event → (d : State) → Contains states d
        → Law (steps ++ Act event ∷ []) (told ++ text ∷ []) tables (going_on next (says text) event states)
    unfolding goes_on
    told_law event text valid d h X = (
      λ has.
          let c = chosen (says text) event X valid has in
          let some = says_is text c.0 c.1 in
          let r = (law (world tables c.2.0)).0 (refl, c.2.1) in
          let now = world r.now.tables c.2.2 in
          let g = goes_on (Act event) (Some (ToldOf some.0)) now c.2.0 c.2.1
          ((valid, subst (λ (q : Option Reply). Acts next event q r.now.device c.2.2) some.1 c.2.3), refl) in
          record {
            answers = g.answers;
            now = g.now;
            run = g.run;
            told_are = g.told_are
                ∙ ap (λ (t : List ℕ). told ++ t ∷ []) some.2;
            world_is = world_with c.2.0 c.2.1 c.2.2 X has.0 c.2.4;
          },
      λ r.
          let l = snoc_run next start r.now steps (Act event) r.answers r.run in
          let e : texts l.earlier ++ texts_of l.answer ≡ told ++ text ∷ [] = last_texts X (Act event)
          (told ++ text ∷ []) r l in
          told_back event text X l.earlier l.answer l.mid r.now l.run l.may e
          (same_texts d h l.earlier l.mid l.run (text ∷ []) (texts_of l.answer) (sym e)) r.world_is,
    )

    -- a text that is said
    in_if : (said text : List ℕ) (x : State) → said ≡ text → Contains states x → Contains (if_says said text states) x
    in_if said text x e h = let t : bytes_eq said text ≡ true = (bytes_eq-Decides said text).1 e in rw t h

    say_back : (said text : List ℕ) (X : World) (earlier : List (Option Answer)) (answer : Option Answer)
        (mid now : World) → Run next start steps earlier mid → MayAnswer next (Say said) answer mid now
        → texts earlier ++ texts_of answer ≡ told ++ text ∷ [] → told ≡ texts earlier → X ≡ summed_world now
        → Has tables (if_says said text states) X
    say_back said text X earlier (Some (Said s)) mid now run may e same is =
        let t : s ≡ text = (snoc_first (texts earlier) told s text e).1 in
        let h = fits_here earlier mid run same in
        let m : X ≡ summed_world mid = is ∙ ap summed_world may.1 in (
          ap (λ (w : World). w.tables) m ∙ h.0,
          in_if said text X.device (sym may.0 ∙ t)
              (subst (Contains states) (sym (ap (λ (w : World). w.device) m)) h.1),
        )
    say_back said text X earlier None mid now run may e same is = absurd may
    say_back said text X earlier (Some (ToldOf r)) mid now run may e same is = absurd may
    say_back said text X earlier (Some (Did t)) mid now run may e same is = absurd may

    say_law : (said text : List ℕ) (d : State) → Contains states d
        → Law (steps ++ Say said ∷ []) (told ++ text ∷ []) tables (if_says said text states)
    unfolding goes_on
    say_law said text d h X = (
      λ has.
          let c = if_in_text said text states X.device has.1 in
          let r = (law (world tables X.device)).0 (refl, c.1) in
          let g = goes_on (Say said) (Some (Said said)) r.now X.device c.1 (refl, refl) in
          record {
            answers = g.answers;
            now = g.now;
            run = g.run;
            told_are = g.told_are
                ∙ ap (λ (t : List ℕ). told ++ t ∷ []) c.0;
            world_is = ap (λ (x : Tables). world x X.device) has.0
                ∙ r.world_is;
          },
      λ r.
          let l = snoc_run next start r.now steps (Say said) r.answers r.run in
          let e : texts l.earlier ++ texts_of l.answer ≡ told ++ text ∷ [] = last_texts X (Say said) (told ++ text ∷ [])
          r l in
          say_back said text X l.earlier l.answer l.mid r.now l.run l.may e
          (same_texts d h l.earlier l.mid l.run (text ∷ []) (texts_of l.answer) (sym e)) r.world_is,
    )

    -- a command
    do_back : (command : Command) (text : List ℕ) (X : World) (earlier : List (Option Answer)) (answer : Option Answer)
        (mid now : World) → Run next start steps earlier mid → MayAnswer next (Do command) answer mid now
        → texts earlier ++ texts_of answer ≡ told ++ text ∷ [] → told ≡ texts earlier → X ≡ summed_world now
        → Has (done next tables command).tables
        (if_says (text_of_answer (done next tables command).answer) text states) X
    do_back command text X earlier (Some (Did s)) mid now run may e same is =
        let t : text_of_answer s ≡ text = (snoc_first (texts earlier) told (text_of_answer s) text e).1 in
        let h = fits_here earlier mid run same in
        let did : (done next mid.tables command) ≡ done next tables command = ap (λ (x : Tables). done next x command)
        h.0 in
        let said : text_of_answer (done next tables command).answer ≡ text = sym (ap (λ x. text_of_answer x.answer) did)
        ∙ ap text_of_answer (sym may.0.1) ∙ t in (
          ap (λ (w : World). w.tables) is ∙ may.0.2 ∙ ap (λ x. x.tables) did,
          in_if (text_of_answer (done next tables command).answer) text X.device said
              (subst (Contains states) (sym (ap (λ (w : World). w.device) is ∙ ap summed_state may.1)) h.1),
        )
    do_back command text X earlier None mid now run may e same is = absurd may
    do_back command text X earlier (Some (ToldOf r)) mid now run may e same is = absurd may
    do_back command text X earlier (Some (Said t)) mid now run may e same is = absurd may

    do_law : (command : Command) (text : List ℕ) → IsCommand command → (d : State) → Contains states d
        → Law (steps ++ Do command ∷ []) (told ++ text ∷ []) (done next tables command).tables
        (if_says (text_of_answer (done next tables command).answer) text states)
    unfolding goes_on
    do_law command text valid d h X = (
      λ has.
          let c = if_in_text (text_of_answer (done next tables command).answer) text states X.device has.1 in
          let r = (law (world tables X.device)).0 (refl, c.1) in
          let same : tables ≡ r.now.tables = ap (λ (w : World). w.tables) r.world_is in
          let did = done next r.now.tables command in
          let now = world did.tables r.now.device in
          let g = goes_on (Do command) (Some (Did did.answer)) now X.device c.1 ((valid, refl, refl), refl) in
          record {
            answers = g.answers;
            now = g.now;
            run = g.run;
            told_are = g.told_are ∙ ap (λ (x : Tables). told ++ text_of_answer (done next x command).answer ∷ [])
                (sym same) ∙ ap (λ (t : List ℕ). told ++ t ∷ []) c.0;
            world_is = ap (λ (x : Tables). world x X.device) (has.0
                ∙ ap (λ (x : Tables). (done next x command).tables) same)
                ∙ ap (λ (x : State). world did.tables x) (ap (λ (w : World). w.device) r.world_is);
          },
      λ r.
          let l = snoc_run next start r.now steps (Do command) r.answers r.run in
          let e : texts l.earlier ++ texts_of l.answer ≡ told ++ text ∷ [] = last_texts X (Do command)
          (told ++ text ∷ []) r l in
          do_back command text X l.earlier l.answer l.mid r.now l.run l.may e
          (same_texts d h l.earlier l.mid l.run (text ∷ []) (texts_of l.answer) (sym e)) r.world_is,
    )

  law_same : (steps steps' : List Step) (told : List (List ℕ)) (tables : Tables) (states : List State) → steps ≡ steps'
      → Law steps told tables states → Law steps' told tables states
  law_same steps steps' told tables states e law = subst (λ (s : List Step). Law s told tables states) e law

  -- The first steps that have no reply are taken: the law holds with them, and the rest of the steps waits.
  pub record Settles (steps waiting : List Step) (told : List (List ℕ)) (new : Fit) : Type 0 where
    pub front : List Step
    pub split : waiting ≡ front ++ new.waiting
    pub valid : AreSteps new.waiting
    pub law : Law (steps ++ front) told new.tables new.states

  stops : (steps waiting : List Step) (told : List (List ℕ)) (tables : Tables) (states : List State) → AreSteps waiting
      → Law steps told tables states → Settles steps waiting told (fit waiting tables states)
  stops steps waiting told tables states valid law = record {
    front = [];
    split = refl;
    valid = valid;
    law = law_same steps (steps ++ []) told tables states
        (sym (append-nil steps)) law;
  }

  takes : (steps waiting : List Step) (told : List (List ℕ)) (step : Step) (new : Fit)
      → Settles (steps ++ step ∷ []) waiting told new → Settles steps (step ∷ waiting) told new
  takes steps waiting told step new s = record {
    front = step ∷ s.front;
    split = ap (λ (l : List Step). step ∷ l) s.split;
    valid = s.valid;
    law = law_same ((steps ++ step ∷ []) ++ s.front) (steps ++ (step ∷ s.front)) told new.tables new.states
        (append_assoc steps (step ∷ []) s.front) s.law;
  }

  some_silent : (event : Event) (states : List State) → is_silent event states ≡ true → (d : State) × Contains states d
  some_silent event [] h = absurd cc
  some_silent event (d ∷ states) h = (d, first_in d states)

  pub settles : (waiting steps : List Step) (told : List (List ℕ)) (tables : Tables) (states : List State)
      → AreSteps waiting → Law steps told tables states
      → Settles steps waiting told (settled next waiting tables states)
  settles [] steps told tables states valid law = stops steps [] told tables states valid law
  settles (Say text ∷ waiting) steps told tables states valid law = stops steps (Say text ∷ waiting) told tables states
      valid law
  settles (Do command ∷ waiting) steps told tables states valid law = stops steps (Do command ∷ waiting) told tables
      states valid law
  settles (Act event ∷ waiting) steps told tables states valid law =
      ⊎_elim
      (λ (t : is_silent event states ≡ true).
      let d = some_silent event states t in
      rw t (takes steps waiting told (Act event) (settled next waiting tables (going_on next is_none event states))
      (settles waiting (steps ++ Act event ∷ []) told tables (going_on next is_none event states) valid.1
      (silent_law steps told tables states law event valid.0 d.0 d.1))))
      (λ (t : is_silent event states ≡ false). rw t (stops steps (Act event ∷ waiting) told tables states valid law))
      (cases_Bool (is_silent event states))

  nonempty : (states : List State) → (states ≡ [] → ⊥) → (d : State) × Contains states d
  nonempty [] h = absurd (h refl)
  nonempty (d ∷ states) h = (d, first_in d states)

  -- What is known behind these lines.
  pub record Knows (asked : List Step) (told : List (List ℕ)) (old : Fit) : Type 0 where
    pub steps : List Step
    pub taken : asked ≡ steps ++ old.waiting
    pub valid : AreSteps old.waiting
    pub law : Law steps told old.tables old.states

  known_by : (steps waiting asked : List Step) (told : List (List ℕ)) (new : Fit) → asked ≡ steps ++ waiting
      → Settles steps waiting told new → Knows asked told new
  known_by steps waiting asked told new e s = record {
    steps = steps ++ s.front;
    taken = e ∙ ap (λ (l : List Step). steps ++ l) s.split ∙ sym (append_assoc steps s.front new.waiting);
    valid = s.valid;
    law = s.law;
  }

  told_step : (text : List ℕ) (steps : List Step) (told : List (List ℕ)) (step : Step) (waiting : List Step)
      (tables : Tables) (states : List State) → IsStep step → AreSteps waiting → Law steps told tables states
      → (states ≡ [] → ⊥)
      → Settles (steps ++ step ∷ []) waiting (told ++ text ∷ []) (after_told next text (step ∷ waiting) tables states)
  told_step text steps told (Say said) waiting tables states one valid law some =
      let d = nonempty states some in
      settles waiting (steps ++ Say said ∷ []) (told ++ text ∷ []) tables (if_says said text states) valid
      (say_law steps told tables states law said text d.0 d.1)
  told_step text steps told (Do command) waiting tables states one valid law some =
      let d = nonempty states some in
      let did = done next tables command in
      settles waiting (steps ++ Do command ∷ []) (told ++ text ∷ []) did.tables
      (if_says (text_of_answer did.answer) text states) valid
      (do_law steps told tables states law command text one d.0 d.1)
  told_step text steps told (Act event) waiting tables states one valid law some =
      let d = nonempty states some in
      settles waiting (steps ++ Act event ∷ []) (told ++ text ∷ []) tables (going_on next (says text) event states)
      valid (told_law steps told tables states law event text one d.0 d.1)

  -- one line more
  told_knows : (text : List ℕ) (asked : List Step) (told : List (List ℕ)) (waiting : List Step) (tables : Tables)
      (states : List State) → Knows asked told (fit waiting tables states) → (states ≡ [] → ⊥) → (waiting ≡ [] → ⊥)
      → Knows asked (told ++ text ∷ []) (after_told next text waiting tables states)
  told_knows text asked told [] tables states k some waits = absurd (waits refl)
  told_knows text asked told (step ∷ waiting) tables states k some waits =
      known_by (k.steps ++ step ∷ []) waiting asked (told ++ text ∷ [])
      (after_told next text (step ∷ waiting) tables states) (k.taken
      ∙ sym (append_assoc k.steps (step ∷ []) waiting))
      (told_step text k.steps told step waiting tables states k.valid.0 k.valid.1 k.law some)

  module _ (valid : (line : List ℕ) → AreSteps (steps_of_line mode.Both line)) where
    typed_knows : (line : List ℕ) (asked : List Step) (told : List (List ℕ)) (waiting : List Step) (tables : Tables)
        (states : List State) → Knows asked told (fit waiting tables states) → waiting ≡ []
        → Knows (asked ++ steps_of_line mode.Both line) told (after_typed next line waiting tables states)
    typed_knows line asked told [] tables states k none =
        known_by k.steps (steps_of_line mode.Both line) (asked ++ steps_of_line mode.Both line) told
        (settled next (steps_of_line mode.Both line) tables states)
        (ap (λ (l : List Step). l ++ steps_of_line mode.Both line) (k.taken ∙ append-nil k.steps))
        (settles (steps_of_line mode.Both line) k.steps told tables states (valid line) k.law)
    typed_knows line asked told (step ∷ waiting) tables states k none = absurd cc

    knows_same : (asked asked' : List Step) (told told' : List (List ℕ)) (new : Fit) → asked ≡ asked' → told ≡ told'
        → Knows asked told new → Knows asked' told' new
    knows_same asked asked' told told' new a t k = subst (λ (l : List Step). Knows l told' new) a
        (subst (λ (l : List (List ℕ)). Knows asked l new) t k)

    pub lines_know : (lines : List Marked) (asked : List Step) (told : List (List ℕ)) (old : Fit) → Knows asked told old
        → MayAllCome next old lines → Knows (asked ++ asked_in lines) (told ++ told_in lines)
        (after_lines next old lines)
    lines_know [] asked told old k may = knows_same asked (asked ++ []) told (told ++ []) old (sym (append-nil asked))
        (sym (append-nil told)) k
    lines_know (Typed line ∷ lines) asked told old k may =
        let new = after_line next old (Typed line) in
        knows_same ((asked ++ steps_of_line mode.Both line) ++ asked_in lines)
        (asked ++ (steps_of_line mode.Both line ++ asked_in lines)) (told ++ told_in lines) (told ++ told_in lines)
        (after_lines next new lines)
        (append_assoc asked (steps_of_line mode.Both line) (asked_in lines)) refl
        (lines_know lines (asked ++ steps_of_line mode.Both line) told new
        (typed_knows line asked told old.waiting old.tables old.states k may.0.1) may.1)
    lines_know (Told text ∷ lines) asked told old k may =
        let new = after_line next old (Told text) in
        knows_same (asked ++ asked_in lines) (asked ++ asked_in lines) ((told ++ text ∷ []) ++ told_in lines)
        (told ++ (text ∷ told_in lines)) (after_lines next new lines)
        refl (append_assoc told (text ∷ []) (told_in lines))
        (lines_know lines asked (told ++ text ∷ []) new
        (told_knows text asked told old.waiting old.tables old.states k may.0.0 may.0.1) may.1)
    lines_know (Unmarked ∷ lines) asked told old k may = absurd may.0

abbrev empty : World
empty = beginning no_tables Blank 0

-- before the first line
first_back : (next : List ℕ → ℕ → ℕ) (answers : List (Option Answer)) (now : World) → Run next empty [] answers now
    → (X : World) → X ≡ summed_world now → Has no_tables (starting Blank 0 ∷ []) X
first_back next [] now run X is =
    let e : X ≡ empty = is ∙ ap summed_world run in
    (ap (λ (w : World). w.tables) e, one_in (starting Blank 0) X.device [] (sym (ap (λ (w : World). w.device) e)))
first_back next (x ∷ answers) now run X is = absurd run

first_law : (next : List ℕ → ℕ → ℕ) → Law next empty [] [] no_tables (starting Blank 0 ∷ [])
first_law next X = (
  λ has. record {
    answers = [];
    now = empty;
    run = refl;
    told_are = refl;
    world_is = ap (λ (x : Tables). world x X.device) has.0
        ∙ ap (λ (x : State). world no_tables x) (sym (in_one (starting Blank 0) X.device has.1));
  },
  λ r. first_back next r.answers r.now r.run X r.world_is,
)

pub fits_exact : (next : List ℕ → ℕ → ℕ) → ((line : List ℕ) → AreSteps (steps_of_line mode.Both line))
    → (lines : List Marked) → MayAllCome next first_fit lines → IsExact next lines
fits_exact next valid lines may =
    let k = lines_know next empty valid lines [] [] first_fit record
    { steps = []; taken = refl; valid = tt; law = first_law next } may in
    record { steps = k.steps; taken = k.taken; exact = k.law }
