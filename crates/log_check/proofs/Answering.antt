-- What a check keeps of what fits goes on by an answer as what fits does.
use Rattle.std.proofs.Common.{◌≡◌, ℕ, Bool, false, List, [], ◌∷◌, drop, sym, ap, subst, ◌∙◌}
use Rattle.std.specs.Prelude.{if◌then◌else◌}
use Rattle.std.specs.Str.{bytes_eq}
use Rattle.paygo_spec.specs.declared.Event.{Event}
use Rattle.paygo_spec.specs.Machine.{State}
use Rattle.ledger_spec.specs.declared.Answer.{Answer}
use Rattle.ledger_spec.specs.declared.Command.{Command}
use Rattle.ledger_spec.specs.AnswerText.{text_of_answer}
use Rattle.ledger_spec.specs.Ledger.{Done, done}
use Rattle.ledger_spec.specs.Tables.{Tables}
use Rattle.run_spec.specs.Run.{Step, Say, Do, Act}
use Rattle.log_check.specs.declared.fit.Fitting.{Fitting}
use Rattle.log_check.specs.Fits.{Fit, fit, is_silent, going_on, says, if_says, settled, after_told}
use Rattle.log_check.specs.Kept.{AreStates}
use Rattle.log_check.specs.SureTables.{tables_of}
use Rattle.log_check.specs.Waiting.{IsSettled, steps_of}
use Rattle.log_check.specs.FitKept.{Stands, IsFit}

module _ (next : List ℕ → ℕ → ℕ) (text : List ℕ) (before mid new : Fitting) (old : Fit) where
  -- the first step that waits is taken
  abbrev pub Takes : Type 0
  Takes = (now : Fit) → Stands mid now → IsFit new (settled next (drop 1 now.waiting) now.tables now.states)

  -- the check stands for these tables and states, with the same steps that wait
  stands_with : (tables : Tables) (states : List State) → Stands before old
      → steps_of mid.waiting ≡ steps_of before.waiting
      → tables_of mid.keeper ≡ tables → AreStates mid.states states → Stands mid (fit old.waiting tables states)
  stands_with tables states stands same is are = record
      { tables_are = is; waiting_are = same ∙ stands.waiting_are; states_are = are }

  -- an answer to these steps is what fits then
  abbrev Fits : List Step → Type 0
  Fits waiting = IsFit new (after_told next text waiting old.tables old.states)

  pub acted_fits : (event : Event) (steps : List Step) → IsFit before old → old.waiting ≡ Act event ∷ steps
      → steps_of mid.waiting ≡ steps_of before.waiting → tables_of mid.keeper ≡ tables_of before.keeper
      → (AreStates before.states old.states → is_silent event old.states ≡ false
      → AreStates mid.states (going_on next (says text) event old.states))
      → Takes → Fits old.waiting
  acted_fits event steps is waits same tables goes takes =
      let answered : is_silent event old.states ≡ false = subst (λ (l : List Step). IsSettled l old.states) waits
      is.is_settled in
      let states = going_on next (says text) event old.states in
      let stands = stands_with old.tables states is.stands same (tables ∙ is.stands.tables_are)
      (goes is.stands.states_are answered) in
      let taken = takes (fit old.waiting old.tables states) stands in
      subst Fits (sym waits) (subst (λ (l : List Step). IsFit new (settled next (drop 1 l) old.tables states)) waits
      taken)

  said_with : (said : List ℕ) (fits : Bool) → fits ≡ bytes_eq said text
      → AreStates mid.states (if fits then old.states else [])
      → AreStates mid.states (if_says said text old.states)
  said_with said fits e are = subst (λ (b : Bool). AreStates mid.states (if b then old.states else [])) e are

  pub said_fits : (said : List ℕ) (fits : Bool) → Stands before old → old.waiting ≡ Say said ∷ []
      → fits ≡ bytes_eq said text
      → steps_of mid.waiting ≡ steps_of before.waiting → tables_of mid.keeper ≡ tables_of before.keeper
      → (AreStates before.states old.states → AreStates mid.states (if fits then old.states else [])) → Takes
      → Fits old.waiting
  said_fits said fits stood waits e same tables keeps takes =
      let states = if_says said text old.states in
      let stands = stands_with old.tables states stood same (tables ∙ stood.tables_are)
      (said_with said fits e (keeps stood.states_are)) in
      let taken = takes (fit old.waiting old.tables states) stands in
      subst Fits (sym waits) (subst (λ (l : List Step). IsFit new (settled next (drop 1 l) old.tables states)) waits
      taken)

  pub did_fits : (command : Command) (answer : Answer) (fits : Bool) → IsFit before old → old.waiting ≡ Do command ∷ []
      → answer ≡ (done next (tables_of before.keeper) command).answer
      → tables_of mid.keeper ≡ (done next (tables_of before.keeper) command).tables
      → fits ≡ bytes_eq (text_of_answer answer) text → steps_of mid.waiting ≡ steps_of before.waiting
      → (AreStates before.states old.states → AreStates mid.states (if fits then old.states else [])) → Takes
      → Fits old.waiting
  did_fits command answer fits is waits answers tables e same keeps takes =
      let did = done next old.tables command in
      let was : done next (tables_of before.keeper) command ≡ did = ap (λ (t : Tables). done next t command)
      is.stands.tables_are in
      let says_so : answer ≡ did.answer = answers ∙ ap (λ (d : Done). d.answer) was in
      let states = if_says (text_of_answer did.answer) text old.states in
      let stands = stands_with did.tables states is.stands same (tables ∙ ap (λ (d : Done). d.tables) was)
      (said_with (text_of_answer did.answer) fits (e ∙ ap (λ (a : Answer). bytes_eq (text_of_answer a) text) says_so)
      (keeps is.stands.states_are)) in
      let taken = takes (fit old.waiting did.tables states) stands in
      subst Fits (sym waits) (subst (λ (l : List Step). IsFit new (settled next (drop 1 l) did.tables states)) waits
      taken)
