-- Between two power-ups each count is accepted once at most, whether the flash is seen or not.
use Rattle.std.proofs.Common.{◌≡◌, ◌≢◌, ◌⊎◌, inl, inr, ⊎_elim, ℕ, ◌+◌, ◌≤◌, Bool, true, false, ◌==◌, List, [], ◌∷◌, ◌++◌, length, take, drop, Option, Some, None, if◌then◌else◌, refl, sym, ap, ◌∙◌, subst, append_assoc, arith}
use Rattle.std.proofs.lemmas.Bool.{cond_both}
use Rattle.std.specs.Option.{option_map}
use Rattle.paygo_spec.specs.declared.Config.{Config}
use Rattle.paygo_spec.specs.declared.Entry.{Entry}
use Rattle.paygo_spec.specs.declared.Entry.TheVariants.{Accept, Bad, Elapsed, Raised}
use Rattle.paygo_spec.specs.declared.Event.{Event}
use Rattle.paygo_spec.specs.declared.Event.TheVariants.{Power, Make, Key, Tick, Show, Raise}
use Rattle.paygo_spec.specs.declared.Reply.{Reply}
use Rattle.paygo_spec.specs.declared.Reply.TheVariants as reply_is
use Rattle.paygo_spec.specs.declared.TokenKind.{TokenKind}
use Rattle.paygo_spec.specs.declared.TokenKind.TheVariants.{Add, Set, Free, Sync}
use Rattle.paygo_spec.specs.Clock.{ClockView}
use Rattle.paygo_spec.specs.History.{accepts, kind_of, limit_of, raised_limit}
use Rattle.paygo_spec.specs.Pad.{Keys}
use Rattle.paygo_spec.specs.Typed.{Typed, WrongLength, WrongDigit, Blocked, OldToken, Makes}
use Rattle.paygo_spec.specs.Machine.{State, Stored, Blank, Broken, Journal, History, Effect, Answers, Adds, Raises, Acts, ActsIf, GoesBy, Goes, Falls, Replies, MayAdd, MayRaise, MayMake, Meets, effect_of, effect_of_typed, effect_of_seconds, effect_of_raise, typed_on, reply_to_entry, reply_to_token, clock_at, shows_same, keys_after, only, unit_for}
use Rattle.paygo_spec.proofs.Accepts.{once}
use Rattle.run_spec.specs.Run.{Step, Say, Do, Act, Answer, Said, Did, Told, World, MayAnswerBy, RunBy}
use Rattle.run_spec.specs.Unseen.{Finds, IsLawful, ActsUnseen, is_accepted, acceptances, HasNoPower, CountsOnce}

-- How often the history in memory has this count.
abbrev pub had : ℕ → Stored → ℕ
had count (Journal history) = accepts count history.entries
had count stored = 0

-- One if so, and else none.
abbrev pub one_if : Bool → ℕ
one_if test = if test then 1 else 0

lawful_had : (count : ℕ) (stored : Stored) → IsLawful stored → had count stored ≤ 1
lawful_had count Blank lawful = omega arith
lawful_had count (Broken word) lawful = omega arith
lawful_had count (Journal history) lawful = once (unit_for history) history.start history.entries count lawful

-- What it has in memory while it is on is a history that a device can have.
abbrev pub OnLawful : State → Type 0
OnLawful state = state.on ≡ true → IsLawful state.stored

module _ (next : List ℕ → ℕ → ℕ) where
  lawful_after : (step : Step) (answer : Option Answer) (old new : World) → OnLawful old.device → MayAnswerBy (ActsUnseen next) next step answer old new → OnLawful new.device
  lawful_after (Say text) (Some (Said said)) old new lawful may = subst (λ (w : World). OnLawful w.device) (sym may.1) lawful
  lawful_after (Do command) (Some (Did answer)) old new lawful may = subst OnLawful (sym may.1) lawful
  lawful_after (Act event) (Some (Told reply)) old new lawful may = may.0.1.1
  lawful_after (Act event) None old new lawful may = may.0.1.1
  lawful_after _ _ old new lawful may = absurd may

  pub stays_lawful : (start now : World) (steps : List Step) (answers : List (Option Answer)) → OnLawful start.device → RunBy (ActsUnseen next) next start steps answers now → OnLawful now.device
  stays_lawful start now [] [] lawful run = subst (λ (w : World). OnLawful w.device) (sym run) lawful
  stays_lawful start now (step ∷ steps) (answer ∷ answers) lawful run = stays_lawful run.0 now steps answers (lawful_after step answer start run.0 lawful run.1) run.2
  stays_lawful start now [] (answer ∷ answers) lawful run = absurd run
  stays_lawful start now (step ∷ steps) [] lawful run = absurd run

module _ (count : ℕ) where
  -- whether a reply accepts the count
  abbrev says : Option Reply → ℕ
  says None = 0
  says (Some reply) = one_if (is_accepted count (Some (Told reply)))

  says_only : (event : Event) (reply : Reply) → says (Some reply) ≡ 0 → says (only event reply) ≡ 0
  says_only Power reply none = none
  says_only (Make config) reply none = none
  says_only (Key key) reply none = cond_both (key == 35) (Some reply) None (λ r. says r ≡ 0) (λ is. none) (λ is. refl)
  says_only (Tick seconds) reply none = none
  says_only Show reply none = none
  says_only Raise reply none = none

  says_token : (kind : Option TokenKind) (n value : ℕ) (clock : ClockView) → says (Some (reply_to_token kind n value clock)) ≡ one_if (n == count)
  says_token (Some Add) n value clock = refl
  says_token (Some Set) n value clock = refl
  says_token (Some Free) n value clock = refl
  says_token (Some Sync) n value clock = refl
  says_token None n value clock = refl

  -- an entry that is added is one more of its count, where it is accepted
  says_entry : (entry : Entry) (entries : List Entry) (clock : ClockView) → accepts count (entry ∷ entries) ≡ says (Some (reply_to_entry entry clock)) + accepts count entries
  says_entry (Accept n value) entries clock = ap (λ k. k + accepts count entries) (sym (says_token (kind_of n value) n value clock))
  says_entry Bad entries clock = omega arith
  says_entry (Elapsed seconds) entries clock = omega arith
  says_entry Raised entries clock = omega arith

  module _ (history : History) where
    -- an answer without a word of the flash accepts nothing
    abbrev Quiet : Effect → Type 0
    Quiet (Answers answer entries) = (says answer ≡ 0) × (accepts count entries ≡ accepts count history.entries)
    Quiet effect = Unit {0}

    quiet_typed : (typed : Typed) → Quiet (effect_of_typed history typed)
    quiet_typed (WrongLength n) = (refl, refl)
    quiet_typed (WrongDigit place) = (refl, refl)
    quiet_typed (Blocked block) = (refl, refl)
    quiet_typed OldToken = (refl, refl)
    quiet_typed (Makes entry) = tt

    quiet : (next : List ℕ → ℕ → ℕ) (keys : Keys) (event : Event) → Quiet (effect_of next history keys event)
    quiet next keys Power = (refl, refl)
    quiet next keys (Make config) = (refl, refl)
    quiet next keys (Key key) = cond_both (key == 35) _ _ Quiet (λ is. quiet_typed (typed_on next history keys.pressed)) (λ is. (refl, refl))
    quiet next keys (Tick seconds) = cond_both (shows_same (clock_at history (Elapsed seconds ∷ history.entries)) (clock_at history history.entries)) _ _ Quiet (λ is. (refl, refl)) (λ is. tt)
    quiet next keys Show = (refl, refl)
    quiet next keys Raise = cond_both (limit_of history.start history.entries == raised_limit) _ _ Quiet (λ is. (refl, refl)) (λ is. tt)

    abbrev so_far : ℕ
    so_far = accepts count history.entries

    added : (entry : Entry) (reply : Option Reply) (new : Stored) → reply ≢ Some reply_is.Down → MayAdd history entry reply new → had count new ≡ says reply + so_far
    added entry (Some reply_is.Worn) new up may = omega (arith, ap (had count) may.1)
    added entry (Some reply_is.Down) new up may = absurd (up refl)
    added entry _ new up may = ap (had count) may.2 ∙ says_entry entry history.entries (clock_at history (entry ∷ history.entries)) ∙ ap (λ r. says r + so_far) (sym may.1)

    raised : (reply : Option Reply) (new : Stored) → reply ≢ Some reply_is.Down → MayRaise history reply new → had count new ≡ says reply + so_far
    raised (Some reply_is.Worn) new up may = omega (arith, ap (had count) may.1)
    raised (Some reply_is.Down) new up may = absurd (up refl)
    raised _ new up may = omega (arith, ap (had count) may.2, ap says may.1)

    meets : (effect : Effect) (reply : Option Reply) (new : Stored) → Quiet effect → reply ≢ Some reply_is.Down → Meets history effect reply new → had count new ≡ says reply + so_far
    meets (Answers answer entries) reply new none up may = omega (arith, ap (had count) may.1, none.1, ap says may.0, none.0)
    meets (Adds entry) reply new none up may = added entry reply new up may
    meets Raises reply new none up may = raised reply new up may

  made : (config : Config) (reply : Option Reply) (new : Stored) → reply ≢ Some reply_is.Down → MayMake config reply new → had count new ≡ says reply
  made config (Some reply_is.Down) new up may = absurd (up refl)
  made config _ new up may = ap (had count) may.1 ∙ sym (ap says may.0)

  -- a device that isn't made, or is damaged, accepts nothing
  unanswered : (event : Event) (reply : Option Reply) (answer : Reply) (stored new : Stored) → says (Some answer) ≡ 0 → reply ≡ only event answer → new ≡ stored → had count new ≡ says reply + had count stored
  unanswered event reply answer stored new none is same = omega (arith, ap (had count) same, ap says is, says_only event answer none)

  -- a reply that accepts the count is one more of it in memory
  replied : (next : List ℕ → ℕ → ℕ) (stored : Stored) (keys : Keys) (event : Event) (reply : Option Reply) (new : Stored) → reply ≢ Some reply_is.Down → Replies next stored keys event reply new
      → had count new ≡ says reply + had count stored
  replied next Blank keys (Make config) reply new up may = made config reply new up may ∙ sym (plus_none (says reply))
    where
      plus_none : (n : ℕ) → n + 0 ≡ n
      plus_none n = omega arith
  replied next Blank keys event reply new up may = unanswered event reply reply_is.Unmade Blank new refl may.0 may.1
  replied next (Broken word) keys event reply new up may = unanswered event reply (reply_is.Damaged word) (Broken word) new refl may.0 may.1
  replied next (Journal history) keys event reply new up may = meets history (effect_of next history keys event) reply new (quiet history next keys event) up may

  -- whether an answer accepts the count
  abbrev gives : Option Answer → ℕ
  gives answer = one_if (is_accepted count answer)

  -- What a step does to the history in memory of a device that is on: an answer that accepts the count is one more of it, or the
  -- device falls, and the answer accepts nothing. A device that is off accepts nothing, and stays off.
  pub record Stepped (answer : Option Answer) (old new : State) : Type 0 where
    pub counts : old.on ≡ true → new.on ≡ true → had count new.stored ≡ gives answer + had count old.stored
    pub falls : old.on ≡ true → new.on ≡ false → gives answer ≡ 0
    pub stays : old.on ≡ false → new.on ≡ false
    pub silent : old.on ≡ false → gives answer ≡ 0

  -- the answer of a reply
  abbrev told : Option Reply → Option Answer
  told reply = option_map Told reply

  says_told : (reply : Option Reply) → gives (told reply) ≡ says reply
  says_told None = refl
  says_told (Some reply) = refl

  both : (on : Bool) → on ≡ true → on ≡ false → ⊥
  both on is off = let bad : true ≡ false = sym is ∙ off in cc

  went : (next : List ℕ → ℕ → ℕ) (event : Event) (reply : Option Reply) (old new : State) → old.on ≡ true → Replies next old.stored old.keys event reply new.stored
      → GoesBy reply (keys_after old.stored event old.keys) old new → Stepped (told reply) old new
  went next event (Some reply_is.Down) old new on may falls = record {
    counts = λ was is. absurd (both new.on is falls.off);
    falls = λ was is. refl;
    stays = λ off. falls.off;
    silent = λ off. refl;
  }
  went next event reply old new on may goes = record {
    counts = λ was is. replied next old.stored old.keys event reply new.stored (λ e. cc) may ∙ ap (λ n. n + had count old.stored) (sym (says_told reply));
    falls = λ was is. absurd (both new.on goes.on_is is);
    stays = λ off. absurd (both old.on on off);
    silent = λ off. absurd (both old.on on off);
  }

  left : (reply : Option Reply) (old new : State) → old.on ≡ false → reply ≡ None → new.on ≡ false → Stepped (told reply) old new
  left reply old new off none still = record {
    counts = λ was is. absurd (both old.on was off);
    falls = λ was is. absurd (both old.on was off);
    stays = λ was. still;
    silent = λ was. says_told reply ∙ ap says none;
  }

  acted_if : (on : Bool) (next : List ℕ → ℕ → ℕ) (event : Event) (reply : Option Reply) (old new : State) → old.on ≡ on → ActsIf on next event reply old new → Stepped (told reply) old new
  acted_if true next event reply old new is acts = went next event reply old new is acts.0 acts.1
  acted_if false next event reply old new is acts = left reply old new is acts.0 acts.2.on_is

  -- the event isn't that the power comes
  abbrev IsNoPower : Step → Type 0
  IsNoPower (Act Power) = ⊥
  IsNoPower _ = Unit {0}

  acted : (next : List ℕ → ℕ → ℕ) (event : Event) (reply : Option Reply) (old new : State) → IsNoPower (Act event) → Acts next event reply old new → Stepped (told reply) old new
  acted next Power reply old new none acts = absurd none
  acted next (Make config) reply old new none acts = acted_if old.on next (Make config) reply old new refl acts
  acted next (Key key) reply old new none acts = acted_if old.on next (Key key) reply old new refl acts
  acted next (Tick seconds) reply old new none acts = acted_if old.on next (Tick seconds) reply old new refl acts
  acted next Show reply old new none acts = acted_if old.on next Show reply old new refl acts
  acted next Raise reply old new none acts = acted_if old.on next Raise reply old new refl acts

  found : (event : Event) (reply : Option Reply) (old new : State) → IsNoPower (Act event) → Finds event reply old new → Stepped (told reply) old new
  found Power reply old new none finds = absurd none
  found (Make config) (Some (reply_is.Damaged word)) old new none finds = record {
    counts = λ was is. omega (arith, ap (had count) finds.1, ap (had count) finds.0.unmade);
    falls = λ was is. refl;
    stays = λ off. absurd (both old.on finds.0.on off);
    silent = λ off. refl;
  }
  found (Make config) (Some (reply_is.Made number)) old new none finds = record {
    counts = λ was is. absurd (both new.on is finds.1.on_is);
    falls = λ was is. refl;
    stays = λ off. finds.1.on_is;
    silent = λ off. refl;
  }
  found _ _ old new none finds = absurd finds

  acted_unseen : (next : List ℕ → ℕ → ℕ) (event : Event) (reply : Option Reply) (old new : State) → IsNoPower (Act event) → ActsUnseen next event reply old new → Stepped (told reply) old new
  acted_unseen next event reply old new none (inl acts, lawful) = acted next event reply old new none acts
  acted_unseen next event reply old new none (inr finds, lawful) = found event reply old new none finds

  -- a step that is no event
  same_device : (answer : Option Answer) (old new : State) → gives answer ≡ 0 → new ≡ old → Stepped answer old new
  same_device answer old new none same = record {
    counts = λ was is. omega (arith, ap (λ (s : State). had count s.stored) same, none);
    falls = λ was is. absurd (both old.on was (sym (ap (λ (s : State). s.on) same) ∙ is));
    stays = λ off. ap (λ (s : State). s.on) same ∙ off;
    silent = λ off. none;
  }

  module _ (next : List ℕ → ℕ → ℕ) where
    stepped : (step : Step) (answer : Option Answer) (old new : World) → IsNoPower step → MayAnswerBy (ActsUnseen next) next step answer old new → Stepped answer old.device new.device
    stepped (Say text) (Some (Said said)) old new none may = same_device (Some (Said said)) old.device new.device refl (ap (λ (w : World). w.device) may.1)
    stepped (Do command) (Some (Did answer)) old new none may = same_device (Some (Did answer)) old.device new.device refl may.1
    stepped (Act event) (Some (Told reply)) old new none may = acted_unseen next event (Some reply) old.device new.device none may.0.1
    stepped (Act event) None old new none may = acted_unseen next event None old.device new.device none may.0.1
    stepped _ _ old new none may = absurd may

    parts : (step : Step) (steps : List Step) → HasNoPower (step ∷ steps) → IsNoPower step × HasNoPower steps
    parts (Act Power) steps none = absurd none
    parts _ steps none = (tt, none)

    off_none : (start now : World) (steps : List Step) (answers : List (Option Answer)) → HasNoPower steps → RunBy (ActsUnseen next) next start steps answers now → start.device.on ≡ false → acceptances count answers ≡ 0
    off_none start now [] [] none run off = refl
    off_none start now (step ∷ steps) (answer ∷ answers) none run off =
        let part = parts step steps none in
        let by = stepped step answer start run.0 part.0 run.1 in
        let rest : acceptances count answers ≡ 0 = off_none run.0 now steps answers part.1 run.2 (by.stays off) in
        omega (arith, by.silent off, rest)
    off_none start now [] (answer ∷ answers) none run off = absurd run
    off_none start now (step ∷ steps) [] none run off = absurd run

    mutual_on : (on : Bool) (answers : List (Option Answer)) (answer : Option Answer) (old new : State) → new.on ≡ on → Stepped answer old new → old.on ≡ true → had count old.stored ≤ 1
        → (new.on ≡ true → had count new.stored + acceptances count answers ≤ 1) → (new.on ≡ false → acceptances count answers ≡ 0) → had count old.stored + acceptances count (answer ∷ answers) ≤ 1
    mutual_on true answers answer old new is by on few up down = omega (arith, by.counts on is, up is)
    mutual_on false answers answer old new is by on few up down = omega (arith, by.falls on is, down is, few)

    on_few : (start now : World) (steps : List Step) (answers : List (Option Answer)) → OnLawful start.device → HasNoPower steps → RunBy (ActsUnseen next) next start steps answers now → start.device.on ≡ true
        → had count start.device.stored + acceptances count answers ≤ 1
    on_few start now [] [] lawful none run on = let few = lawful_had count start.device.stored (lawful on) in omega (arith, few)
    on_few start now (step ∷ steps) (answer ∷ answers) lawful none run on =
        let part = parts step steps none in
        mutual_on run.0.device.on answers answer start.device run.0.device refl (stepped step answer start run.0 part.0 run.1) on (lawful_had count start.device.stored (lawful on))
        (λ is. on_few run.0 now steps answers (lawful_after next step answer start run.0 lawful run.1) part.1 run.2 is)
        (λ is. off_none run.0 now steps answers part.1 run.2 is)
    on_few start now [] (answer ∷ answers) lawful none run on = absurd run
    on_few start now (step ∷ steps) [] lawful none run on = absurd run

    few_if : (on : Bool) (start now : World) (steps : List Step) (answers : List (Option Answer)) → start.device.on ≡ on → OnLawful start.device → HasNoPower steps → RunBy (ActsUnseen next) next start steps answers now
        → acceptances count answers ≤ 1
    few_if true start now steps answers is lawful none run = let few = on_few start now steps answers lawful none run is in omega (arith, few)
    few_if false start now steps answers is lawful none run = let zero = off_none start now steps answers none run is in omega (arith, zero)

    pub few : (start now : World) (steps : List Step) (answers : List (Option Answer)) → OnLawful start.device → HasNoPower steps → RunBy (ActsUnseen next) next start steps answers now → acceptances count answers ≤ 1
    few start now steps answers lawful none run = few_if start.device.on start now steps answers refl lawful none run

-- A run of two lists of steps is one run after another.
pub record IsCutRun (acts : Event → Option Reply → State → State → Type 0) (next : List ℕ → ℕ → ℕ) (start now : World) (steps others : List Step) (answers : List (Option Answer)) : Type 0 where
  pub mid : World
  pub first : RunBy acts next start steps (take (length steps) answers) mid
  pub second : RunBy acts next mid others (drop (length steps) answers) now

pub run_cut : (acts : Event → Option Reply → State → State → Type 0) (next : List ℕ → ℕ → ℕ) (start now : World) (steps others : List Step) (answers : List (Option Answer)) → RunBy acts next start (steps ++ others) answers now
    → IsCutRun acts next start now steps others answers
run_cut acts next start now [] others answers run = record { mid = start; first = refl; second = run }
run_cut acts next start now (step ∷ steps) others [] run = absurd run
run_cut acts next start now (step ∷ steps) others (answer ∷ answers) run =
    let rest = run_cut acts next run.0 now steps others answers run.2 in
    record { mid = rest.mid; first = (run.0, run.1, rest.first); second = rest.second }

pub counts_once : (next : List ℕ → ℕ → ℕ) (start now : World) (steps : List Step) (answers : List (Option Answer)) → (start.device.on ≡ true → IsLawful start.device.stored) → RunBy (ActsUnseen next) next start steps answers now
    → CountsOnce steps answers
counts_once next start now steps answers lawful run front between behind count are none =
    let early = run_cut (ActsUnseen next) next start now front (between ++ behind) answers (subst (λ (s : List Step). RunBy (ActsUnseen next) next start s answers now) (are ∙ append_assoc front between behind) run) in
    let here = run_cut (ActsUnseen next) next early.mid now between behind (drop (length front) answers) early.second in
    few count next early.mid here.mid between (take (length between) (drop (length front) answers)) (stays_lawful next start early.mid front (take (length front) answers) lawful early.first) none here.first
