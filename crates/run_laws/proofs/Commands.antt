-- What the tables keep in a run, step by step, whatever a device does at its events: each step but a command leaves them.
use Rattle.std.proofs.Common.{◌≡◌, ℕ, zero, suc, ◌<◌, List, [], ◌∷◌, slice_get, Option, Some, None, sym, ap, ◌∙◌, subst, arith}
use Rattle.paygo_spec.specs.declared.Event.{Event}
use Rattle.paygo_spec.specs.declared.Form.{Form}
use Rattle.paygo_spec.specs.declared.Reply.{Reply}
use Rattle.paygo_spec.specs.Machine.{State}
use Rattle.ledger_spec.specs.declared.Answer.{Answer as LedgerAnswer}
use Rattle.ledger_spec.specs.declared.Answer.TheVariants as answer_is
use Rattle.ledger_spec.specs.declared.Command.{Command}
use Rattle.ledger_spec.specs.declared.Order.{Order}
use Rattle.ledger_spec.specs.Ledger.{IsCommand, Done, done}
use Rattle.ledger_spec.specs.Sound.{Sound, StaysBelow}
use Rattle.ledger_spec.specs.Tables.{Tables, Kept}
use Rattle.ledger_laws.specs.Later.{Later}
use Rattle.ledger_laws.proofs.LaterLemmas.{done_well, later_still, later_then}
use Rattle.ledger_laws.proofs.Retries.{again, answered_is_kept}
use Rattle.ledger_laws.proofs.SoundLemmas.{sound_done}
use Rattle.run_spec.specs.Run.{Step, Say, Do, Act, Answer, Said, Did, Told, World, RunBy, MayAnswerBy}
use Rattle.run_spec.specs.Headline.{OrdersStand}

-- The tables after a step are those before it, or those that the ledger makes of them at a command in range.
pub data Went (next : List ℕ → ℕ → ℕ) (old new : Tables) : Type 0 where
  Same : new ≡ old → Went next old new
  Served : (command : Command) → IsCommand command → new ≡ (done next old command).tables → Went next old new

-- what the ledger keeps at each command, a step keeps
kept_at : (next : List ℕ → ℕ → ℕ) (P : Tables → Type 0) → ((c : Command) (tables : Tables) → IsCommand c → P tables → P (done next tables c).tables) → (old new : Tables) → Went next old new → P old → P new
kept_at next P keeps old new (Same e) p = subst P (sym e) p
kept_at next P keeps old new (Served command is e) p = subst P (sym e) (keeps command old is p)

-- Tables in order that are later than others.
pub record IsLater (old new : Tables) : Type 0 where
  pub kept : Kept new
  pub later : Later old new

no_step : (step : Step) → None ≡ Some step → ⊥
no_step step e = cc

module _ (acts : Event → Option Reply → State → State → Type 0) where
  went : (next : List ℕ → ℕ → ℕ) (step : Step) (answer : Option Answer) (old new : World) → MayAnswerBy acts next step answer old new → Went next old.tables new.tables
  went next (Say text) None old new may = absurd may
  went next (Say text) (Some (Said said)) old new may = Same (ap (λ (w : World). w.tables) may.1)
  went next (Say text) (Some (Did answer)) old new may = absurd may
  went next (Say text) (Some (Told reply)) old new may = absurd may
  went next (Do command) None old new may = absurd may
  went next (Do command) (Some (Said said)) old new may = absurd may
  went next (Do command) (Some (Did answer)) old new may = Served command may.0.0 may.0.2
  went next (Do command) (Some (Told reply)) old new may = absurd may
  went next (Act event) None old new may = Same may.1
  went next (Act event) (Some (Said said)) old new may = absurd may
  went next (Act event) (Some (Did answer)) old new may = absurd may
  went next (Act event) (Some (Told reply)) old new may = Same may.1

  -- what the ledger keeps at each command, a run keeps
  pub run_keeps : (next : List ℕ → ℕ → ℕ) (P : Tables → Type 0) → ((c : Command) (tables : Tables) → IsCommand c → P tables → P (done next tables c).tables)
      → (start now : World) (steps : List Step) (answers : List (Option Answer)) → RunBy acts next start steps answers now → P start.tables → P now.tables
  run_keeps next P keeps start now [] [] run p = subst (λ (w : World). P w.tables) (sym run) p
  run_keeps next P keeps start now (step ∷ steps) (answer ∷ answers) run p =
      run_keeps next P keeps run.0 now steps answers run.2 (kept_at next P keeps start.tables run.0.tables (went next step answer start run.0 run.1) p)
  run_keeps next P keeps start now [] (answer ∷ answers) run p = absurd run
  run_keeps next P keeps start now (step ∷ steps) [] run p = absurd run

  module _ (next : List ℕ → ℕ → ℕ) (below : StaysBelow next) where
    pub sound_by : (start now : World) (steps : List Step) (answers : List (Option Answer)) → Sound next start.tables → RunBy acts next start steps answers now → Sound next now.tables
    sound_by start now steps answers sound run = run_keeps next (Sound next) (λ c tables is sound. sound_done next below tables c sound is) start now steps answers run sound

    pub kept_by : (start now : World) (steps : List Step) (answers : List (Option Answer)) → Kept start.tables → RunBy acts next start steps answers now → Kept now.tables
    kept_by start now steps answers kept run = run_keeps next Kept (λ c tables is kept. (done_well next below tables c kept is).kept) start now steps answers run kept

    later_more : (old : Tables) (c : Command) (tables : Tables) → IsCommand c → IsLater old tables → IsLater old (done next tables c).tables
    later_more old c tables is later =
        let well = done_well next below tables c later.kept is in
        record { kept = well.kept; later = later_then old tables (done next tables c).tables later.later well.later }

    later_by : (old : Tables) (start now : World) (steps : List Step) (answers : List (Option Answer)) → IsLater old start.tables → RunBy acts next start steps answers now → IsLater old now.tables
    later_by old start now steps answers later run = run_keeps next (IsLater old) (later_more old) start now steps answers run later

    -- An order that was answered to a command over tables in order.
    pub record WasAnswered (c : Command) (order : Order) (form : Form) (tables : Tables) : Type 0 where
      pub kept : Kept tables
      pub is : IsCommand c
      pub answer : (done next tables c).answer ≡ answer_is.Order order form

    module _ (c : Command) (order : Order) (form : Form) (first : Tables) (was : WasAnswered c order form first) where
      -- the same command again, at a later step
      same_order : (step : Step) (answer : Option Answer) (old new : World) → IsLater (done next first c).tables old.tables → MayAnswerBy acts next step answer old new → Some step ≡ Some (Do c)
          → Some answer ≡ Some (Some (Did (answer_is.Order order form)))
      same_order (Say text) answer old new later may e = absurd (let bad : Some (Say text) ≡ Some (Do c) = e in cc)
      same_order (Act event) answer old new later may e = absurd (let bad : Some (Act event) ≡ Some (Do c) = e in cc)
      same_order (Do d) None old new later may e = absurd may
      same_order (Do d) (Some (Said said)) old new later may e = absurd may
      same_order (Do d) (Some (Told reply)) old new later may e = absurd may
      same_order (Do d) (Some (Did answer)) old new later may e =
          let same : d ≡ c = cc in
          let told = again next first old.tables c order form was.kept was.is was.answer later.later in
          let is : answer ≡ answer_is.Order order form = may.0.1 ∙ ap (λ (x : Command). (done next old.tables x).answer) same ∙ ap (λ (d : Done). d.answer) told in
          ap (λ (a : LedgerAnswer). Some (Some (Did a))) is

      pub answered_again : (start now : World) (steps : List Step) (answers : List (Option Answer)) → IsLater (done next first c).tables start.tables → RunBy acts next start steps answers now
          → (j : ℕ) → slice_get steps j ≡ Some (Do c) → slice_get answers j ≡ Some (Some (Did (answer_is.Order order form)))
      answered_again start now [] answers later run j e = absurd (no_step (Do c) e)
      answered_again start now (step ∷ steps) [] later run j e = absurd run
      answered_again start now (step ∷ steps) (answer ∷ answers) later run zero e = same_order step answer start run.0 later run.1 e
      answered_again start now (step ∷ steps) (answer ∷ answers) later run (suc j) e =
          answered_again run.0 now steps answers (kept_at next (IsLater (done next first c).tables) (later_more (done next first c).tables) start.tables run.0.tables (went next step answer start run.0 run.1) later) run.2 j e

    -- a step that was answered with an order, by what was answered then
    answered_by : (c : Command) (order : Order) (form : Form) (step : Step) (answer : Option Answer) (old new : World) → Kept old.tables → MayAnswerBy acts next step answer old new
        → Some step ≡ Some (Do c) → Some answer ≡ Some (Some (Did (answer_is.Order order form))) → WasAnswered c order form old.tables × (new.tables ≡ (done next old.tables c).tables)
    answered_by c order form (Say text) answer old new kept may e is = absurd (let bad : Some (Say text) ≡ Some (Do c) = e in cc)
    answered_by c order form (Act event) answer old new kept may e is = absurd (let bad : Some (Act event) ≡ Some (Do c) = e in cc)
    answered_by c order form (Do d) None old new kept may e is = absurd may
    answered_by c order form (Do d) (Some (Said said)) old new kept may e is = absurd may
    answered_by c order form (Do d) (Some (Told reply)) old new kept may e is = absurd may
    answered_by c order form (Do d) (Some (Did answer)) old new kept may e is =
        let same : d ≡ c = cc in
        let was : answer ≡ answer_is.Order order form = cc in (
          record { kept = kept; is = subst IsCommand same may.0.0; answer = ap (λ (x : Command). (done next old.tables x).answer) (sym same) ∙ sym may.0.1 ∙ was },
          may.0.2 ∙ ap (λ (x : Command). (done next old.tables x).tables) same,
        )

    kept_after : (old new : World) (step : Step) (answer : Option Answer) → Kept old.tables → MayAnswerBy acts next step answer old new → Kept new.tables
    kept_after old new step answer kept may = kept_at next Kept (λ c tables is kept. (done_well next below tables c kept is).kept) old.tables new.tables (went next step answer old new may) kept

    -- Where in a run an order was answered, and that the tables at its end are later.
    pub record Answered (c : Command) (order : Order) (form : Form) (now : Tables) : Type 0 where
      pub first : Tables
      pub was : WasAnswered c order form first
      pub later : IsLater (done next first c).tables now

    pub was_answered : (start now : World) (steps : List Step) (answers : List (Option Answer)) → Kept start.tables → RunBy acts next start steps answers now
        → (i : ℕ) (c : Command) (order : Order) (form : Form) → slice_get steps i ≡ Some (Do c) → slice_get answers i ≡ Some (Some (Did (answer_is.Order order form))) → Answered c order form now.tables
    was_answered start now [] answers kept run i c order form e is = absurd (no_step (Do c) e)
    was_answered start now (step ∷ steps) [] kept run i c order form e is = absurd run
    was_answered start now (step ∷ steps) (answer ∷ answers) kept run zero c order form e is =
        let by = answered_by c order form step answer start run.0 kept run.1 e is in
        let here : IsLater (done next start.tables c).tables run.0.tables =
        subst (IsLater (done next start.tables c).tables) (sym by.1) (record { kept = (done_well next below start.tables c kept by.0.is).kept; later = later_still (done next start.tables c).tables }) in
        record { first = start.tables; was = by.0; later = later_by (done next start.tables c).tables run.0 now steps answers here run.2 }
    was_answered start now (step ∷ steps) (answer ∷ answers) kept run (suc i) c order form e is =
        was_answered run.0 now steps answers (kept_after start run.0 step answer kept run.1) run.2 i c order form e is

    -- each later answer in the same run
    later_answers : (start now : World) (steps : List Step) (answers : List (Option Answer)) → Kept start.tables → RunBy acts next start steps answers now
        → (i : ℕ) (c : Command) (order : Order) (form : Form) → slice_get steps i ≡ Some (Do c) → slice_get answers i ≡ Some (Some (Did (answer_is.Order order form)))
        → (j : ℕ) → i < j → slice_get steps j ≡ Some (Do c) → slice_get answers j ≡ Some (Some (Did (answer_is.Order order form)))
    later_answers start now [] answers kept run i c order form e is j after asked = absurd (no_step (Do c) e)
    later_answers start now (step ∷ steps) [] kept run i c order form e is j after asked = absurd run
    later_answers start now (step ∷ steps) (answer ∷ answers) kept run i c order form e is zero after asked = absurd (omega (arith, after))
    later_answers start now (step ∷ steps) (answer ∷ answers) kept run zero c order form e is (suc j) after asked =
        let by = answered_by c order form step answer start run.0 kept run.1 e is in
        let here : IsLater (done next start.tables c).tables run.0.tables =
        subst (IsLater (done next start.tables c).tables) (sym by.1) (record { kept = (done_well next below start.tables c kept by.0.is).kept; later = later_still (done next start.tables c).tables }) in
        answered_again c order form start.tables by.0 run.0 now steps answers here run.2 j asked
    later_answers start now (step ∷ steps) (answer ∷ answers) kept run (suc i) c order form e is (suc j) after asked =
        later_answers run.0 now steps answers (kept_after start run.0 step answer kept run.1) run.2 i c order form e is j (omega (arith, after)) asked

    pub orders_stand_by : (start now : World) (steps : List Step) (answers : List (Option Answer)) → Kept start.tables → RunBy acts next start steps answers now → OrdersStand steps answers now.tables
    orders_stand_by start now steps answers kept run i c order form e is =
        let answered = was_answered start now steps answers kept run i c order form e is in (
          answered.later.later.orders order.id order (answered_is_kept next answered.first c order form answered.was.kept answered.was.is answered.was.answer),
          later_answers start now steps answers kept run i c order form e is,
        )

    pub stand_anew_by : (start now anew later : World) (steps others : List Step) (answers more : List (Option Answer)) → Kept start.tables → RunBy acts next start steps answers now
        → anew.tables ≡ now.tables → RunBy acts next anew others more later → (i j : ℕ) (c : Command) (order : Order) (form : Form) → slice_get steps i ≡ Some (Do c)
        → slice_get answers i ≡ Some (Some (Did (answer_is.Order order form))) → slice_get others j ≡ Some (Do c) → slice_get more j ≡ Some (Some (Did (answer_is.Order order form)))
    stand_anew_by start now anew later steps others answers more kept run same runs i j c order form e is asked =
        let answered = was_answered start now steps answers kept run i c order form e is in
        answered_again c order form answered.first answered.was anew later others more (subst (IsLater (done next answered.first c).tables) (sym same) answered.later) runs j asked
