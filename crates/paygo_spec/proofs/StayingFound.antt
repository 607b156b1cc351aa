-- A device whose history was found stays so, whatever happens to it.
use Rattle.std.proofs.Common.{◌≡◌, ℕ, ◌≤◌, Bool, true, false, ◌==◌, nat_lt, List, ◌∷◌, length, if◌then◌else◌, Option, Some, None, refl, sym, subst, arith, ⊎_elim}
use Rattle.std.proofs.lemmas.Bool.{cases_Bool, cond_both}
use Rattle.std.proofs.lemmas.Bool.Decides.{nat_tests}
use Rattle.paygo_spec.specs.declared.Config.{Config}
use Rattle.paygo_spec.specs.declared.Entry.{Entry}
use Rattle.paygo_spec.specs.declared.Entry.TheVariants.{Elapsed, Raised}
use Rattle.paygo_spec.specs.declared.Event.{Event}
use Rattle.paygo_spec.specs.declared.Event.TheVariants.{Power, Make, Key, Tick, Show, Raise}
use Rattle.paygo_spec.specs.declared.Found.{Found}
use Rattle.paygo_spec.specs.declared.Found.TheVariants.{Valid, Old, Invalid}
use Rattle.paygo_spec.specs.declared.Reply.{Reply}
use Rattle.paygo_spec.specs.declared.Reply.TheVariants as reply_is
use Rattle.paygo_spec.specs.Clock.{ClockView}
use Rattle.paygo_spec.specs.Digits.{digit_count, first_fault}
use Rattle.paygo_spec.specs.History.{first_limit, raised_limit, limit_of}
use Rattle.paygo_spec.specs.Found.{found}
use Rattle.paygo_spec.specs.Pad.{Keys}
use Rattle.paygo_spec.specs.Typed.{by_found, by_clock, by_digits, token_in}
use Rattle.paygo_spec.specs.Machine.{History, Stored, Blank, Broken, Journal, State, Effect, Answers, Adds, Raises, IsEvent, unit_for, new_device, clock_at, shows_same, effect_of_typed, effect_of_seconds, effect_of_raise, effect_of, typed_on, MayAdd, MayRaise, Meets, MayMake, Replies, ActsIf, Acts}
use Rattle.paygo_spec.specs.Searched.{Searched, SearchedOn}
use Rattle.paygo_spec.proofs.Windows.{fresh_keeps, limit_kept}
use Rattle.paygo_spec.proofs.Entries.{valid_is}
use Rattle.paygo_spec.proofs.Searching.{found_token, accepted_found}

module _ (next : List ℕ → ℕ → ℕ) (history : History) (searched : SearchedOn next (Journal history)) where
  abbrev On : List Entry → Type 0
  On entries = Searched (next history.config.key) history.config.start (unit_for history) history.start entries

  -- what an effect makes of the history
  abbrev Good : Effect → Type 0
  Good (Answers reply entries) = On entries
  Good (Adds entry) = On (entry ∷ history.entries)
  Good Raises = On (Raised ∷ history.entries)

  abbrev clock : ClockView
  clock = clock_at history history.entries

  abbrev found_now : ℕ → Found
  found_now token = found (next history.config.key) history.config.start history.start history.entries token

  good_found : (token : ℕ) (answer : Found) → found_now token ≡ answer → clock.block ≡ 0 → Good (effect_of_typed history (by_found answer))
  good_found token (Valid count v) is none =
      let may = (found_token (next history.config.key) history.config.start history.start history.entries token count v is).1 in
      let valid = (valid_is history.start history.entries count v).0 may in
      ((searched.0, (none, valid)), accepted_found (next history.config.key) history.config.start history.start history.entries token count v searched.1 is)
  good_found token (Old count) is none = searched
  good_found token Invalid is none = ((searched.0, none), searched.1)

  good_clock : (token : ℕ) (stands : Bool) → nat_lt 0 clock.block ≡ stands → Good (effect_of_typed history (by_clock clock (found_now token)))
  good_clock token true is = rw is searched
  good_clock token false is = let none : clock.block ≡ 0 = grind (arith, nat_tests) in rw is (good_found token (found_now token) refl none)

  good_digits : (token : ℕ) (fault : Option ℕ) → Good (effect_of_typed history (by_digits clock (found_now token) fault))
  good_digits token (Some place) = searched
  good_digits token None = good_clock token (nat_lt 0 clock.block) refl

  good_typed : (digits : List ℕ) → Good (effect_of_typed history (typed_on next history digits))
  good_typed digits =
      cond_both (length digits == digit_count history.config.form) _ _ (λ t. Good (effect_of_typed history t))
      (λ o. good_digits (token_in history.config.form digits) (first_fault history.config.form digits))
      (λ o. searched)

  good_seconds : (seconds : ℕ) → seconds ≤ 999999999 → Good (effect_of_seconds history seconds)
  good_seconds seconds most =
      cond_both (shows_same (clock_at history (Elapsed seconds ∷ history.entries)) clock) _ _ Good
      (λ o. ((searched.0, most), searched.1))
      (λ o. ((searched.0, most), searched.1))

  good_raise : Good (effect_of_raise history)
  good_raise =
      cond_both (limit_of history.start history.entries == raised_limit) _ _ Good
      (λ o. searched)
      (λ o.
      let first : limit_of history.start history.entries ≡ first_limit =
      ⊎_elim (λ e. e) (λ (e : limit_of history.start history.entries ≡ raised_limit). grind (arith, nat_tests)) (limit_kept (unit_for history) history.start history.entries searched.0) in
      ((searched.0, first), searched.1))

  pub good : (keys : Keys) (event : Event) → IsEvent event → Good (effect_of next history keys event)
  good keys Power may = searched
  good keys (Make config) may = searched
  good keys (Key key) may = ⊎_elim (λ (h : (key == 35) ≡ true). rw h (good_typed keys.pressed)) (λ (h : (key == 35) ≡ false). rw h searched) (cases_Bool (key == 35))
  good keys (Tick seconds) may = good_seconds seconds may
  good keys Show may = searched
  good keys Raise may = good_raise

  cut : (entry : Entry) (counted : Bool) → On (entry ∷ history.entries) → On (if counted then entry ∷ history.entries else history.entries)
  cut entry true good = good
  cut entry false good = searched

  added : (entry : Entry) (reply : Option Reply) (new : Stored) → On (entry ∷ history.entries) → MayAdd history entry reply new → SearchedOn next new
  added entry (Some reply_is.Worn) new good h = subst (SearchedOn next) (sym h.1) searched
  added entry (Some reply_is.Down) new good h = subst (SearchedOn next) (sym h.1.3) (cut entry h.1.0 good)
  added entry _ new good h = subst (SearchedOn next) (sym h.2) good

  raised : (reply : Option Reply) (new : Stored) → On (Raised ∷ history.entries) → MayRaise history reply new → SearchedOn next new
  raised (Some reply_is.Worn) new good h = subst (SearchedOn next) (sym h.1) searched
  raised (Some reply_is.Down) new good h = ⊎_elim (λ e. subst (SearchedOn next) (sym e) searched) (λ e. subst (SearchedOn next) (sym e) good) h.1
  raised _ new good h = subst (SearchedOn next) (sym h.2) good

  pub meets : (effect : Effect) (reply : Option Reply) (new : Stored) → Good effect → Meets history effect reply new → SearchedOn next new
  meets (Answers answer entries) reply new good h = subst (SearchedOn next) (sym h.1) good
  meets (Adds entry) reply new good h = added entry reply new good h
  meets Raises reply new good h = raised reply new good h

module _ (next : List ℕ → ℕ → ℕ) where
  new_found : (config : Config) → SearchedOn next (Journal (new_device config))
  new_found config = (fresh_keeps, tt)

  made : (config : Config) (reply : Option Reply) (new : Stored) → MayMake config reply new → SearchedOn next new
  made config (Some reply_is.Down) new h = ⊎_elim (λ e. subst (SearchedOn next) (sym e) tt) (λ e. subst (SearchedOn next) (sym e) (new_found config)) h
  made config _ new h = subst (SearchedOn next) (sym h.1) (new_found config)

  replied : (stored : Stored) (keys : Keys) (event : Event) (reply : Option Reply) (new : Stored) → IsEvent event → SearchedOn next stored → Replies next stored keys event reply new → SearchedOn next new
  replied Blank keys (Make config) reply new may were h = made config reply new h
  replied Blank keys _ reply new may were h = subst (SearchedOn next) (sym h.1) tt
  replied (Broken word) keys event reply new may were h = subst (SearchedOn next) (sym h.1) tt
  replied (Journal history) keys event reply new may were h = meets next history were (effect_of next history keys event) reply new (good next history were keys event may) h

  acted_if : (on : Bool) (event : Event) (reply : Option Reply) (old new : State) → IsEvent event → SearchedOn next old.stored → ActsIf on next event reply old new → SearchedOn next new.stored
  acted_if true event reply old new may were h = replied old.stored old.keys event reply new.stored may were h.0
  acted_if false event reply old new may were h = subst (SearchedOn next) (sym h.1) were

  pub acted : (event : Event) (reply : Option Reply) (old new : State) → IsEvent event → SearchedOn next old.stored → Acts next event reply old new → SearchedOn next new.stored
  acted Power reply old new may were h = subst (SearchedOn next) (sym h.0) were
  acted (Make config) reply old new may were h = acted_if old.on (Make config) reply old new may were h
  acted (Key key) reply old new may were h = acted_if old.on (Key key) reply old new may were h
  acted (Tick seconds) reply old new may were h = acted_if old.on (Tick seconds) reply old new may were h
  acted Show reply old new may were h = acted_if old.on Show reply old new may were h
  acted Raise reply old new may were h = acted_if old.on Raise reply old new may were h
