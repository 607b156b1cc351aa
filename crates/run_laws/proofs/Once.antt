-- How often the token of an order takes effect.
use Rattle.std.proofs.Common.{◌≡◌, ℕ, ◌<◌, ◌≤◌, max, List, [], ◌∷◌, Option, Some, None, sym, ap, ◌∙◌, subst, arith}
use Rattle.paygo_spec.specs.declared.Config.{Config}
use Rattle.paygo_spec.specs.declared.Found.TheVariants as found_is
use Rattle.paygo_spec.specs.declared.TheConstants.{LAST}
use Rattle.paygo_spec.specs.Chain.{token_at, value_in}
use Rattle.paygo_spec.specs.Found.{found}
use Rattle.paygo_spec.specs.History.{Valid}
use Rattle.paygo_spec.specs.Machine.{State, Stored, History, unit_for}
use Rattle.paygo_spec.specs.Searched.{Searched, SearchedOn, effects, IsClean}
use Rattle.paygo_spec.proofs.CleanTokens.{value_back, effects_once, effects_never, clean_found}
use Rattle.paygo_spec.proofs.StayingFound.{acted}
use Rattle.ledger_spec.specs.declared.Order.{Order}
use Rattle.ledger_spec.specs.declared.Row.{Row}
use Rattle.ledger_spec.specs.Sound.{IsIssued, Sound}
use Rattle.ledger_spec.specs.Tables.{Tables, OrderIsInRange}
use Rattle.ledger_spec.proofs.KeptLemmas.{order_kept}
use Rattle.run_spec.specs.Run.{Step, Say, Do, Act, Answer, Said, Did, Told, World, Run, MayAnswer}
use Rattle.run_spec.specs.Headline.{HasOrder, IsMatched, TokensOnce}

-- An order that was issued for a row is one of the chain of each device that matches the row.
pub record IsOn (next : ℕ → ℕ) (start : ℕ) (order : Order) : Type 0 where
  pub token : order.token ≡ token_at next start order.value order.count
  pub clean : IsClean next start order.count order.value

pub issued_on : (next : List ℕ → ℕ → ℕ) (row : Row) (order : Order) (config : Config) → IsIssued next row order → IsMatched row config → IsOn (next config.key) config.start order
issued_on next row order config is matched =
    subst (λ (key : List ℕ). IsOn (next key) config.start order) matched.key
    (subst (λ (start : ℕ). IsOn (next row.key) start order) matched.start (record { token = is.token; clean = is.clean }))

-- an order of sound tables is in range, and on the chain of each device that matches its row
pub in_range : (next : List ℕ → ℕ → ℕ) (tables : Tables) (row : Row) (order : Order) → Sound next tables → HasOrder tables row order → OrderIsInRange order
in_range next tables row order sound has = (order_kept tables.rows tables.orders order.id order sound.kept.orders has.order_is).0

pub small_value : (order : Order) → OrderIsInRange order → order.value < 1000
small_value order range = omega (arith, range.value)

pub is_on : (next : List ℕ → ℕ → ℕ) (tables : Tables) (row : Row) (order : Order) (config : Config) → Sound next tables → HasOrder tables row order → IsMatched row config → IsOn (next config.key) config.start order
is_on next tables row order config sound has matched = issued_on next row order config (sound.issued order.id order row has.order_is has.row_is) matched

pub tokens_once : (next : List ℕ → ℕ → ℕ) (tables : Tables) (stored : Stored) → Sound next tables → SearchedOn next stored → TokensOnce next tables stored
tokens_once next tables stored sound searched row order history has is matched =
    let on = is_on next tables row order history.config sound has matched in
    let small = small_value order (in_range next tables row order sound has) in
    let were : Searched (next history.config.key) history.config.start (unit_for history) history.start history.entries = subst (SearchedOn next) is searched in
    record {
      once = subst (λ (t : ℕ). effects (next history.config.key) history.config.start t history.entries ≤ 1) (sym on.token)
          (effects_once (next history.config.key) history.config.start (unit_for history) history.start history.entries order.count order.value small on.clean were);
      never = λ gone. subst (λ (t : ℕ). effects (next history.config.key) history.config.start t history.entries ≡ 0) (sym on.token)
          (effects_never (next history.config.key) history.config.start (unit_for history) history.start history.entries order.count order.value small on.clean were gone);
    }

-- the token of an order is that of its count and value alone
pub only_match : (next : List ℕ → ℕ → ℕ) (tables : Tables) (row : Row) (order : Order) (config : Config) (count value : ℕ) → Sound next tables → HasOrder tables row order → IsMatched row config
    → count ≤ max LAST order.count → value < 1000 → token_at (next config.key) config.start value count ≡ order.token → (count ≡ order.count) × (value ≡ order.value)
only_match next tables row order config count value sound has matched within small e =
    let on = is_on next tables row order config sound has matched in
    let few = small_value order (in_range next tables row order sound has) in
    let same : value ≡ order.value = sym (value_back (next config.key) config.start value count small) ∙ ap (value_in config.start) (e ∙ on.token) ∙ value_back (next config.key) config.start order.value order.count few in
    (on.clean count within (subst (λ (v : ℕ). token_at (next config.key) config.start v count ≡ token_at (next config.key) config.start order.value order.count) same (e ∙ on.token)), same)

-- so the search finds it where the device takes it
pub order_found : (next : List ℕ → ℕ → ℕ) (tables : Tables) (row : Row) (order : Order) (history : History) → Sound next tables → HasOrder tables row order → IsMatched row history.config
    → Valid history.start history.entries order.count order.value
    → found (next history.config.key) history.config.start history.start history.entries order.token ≡ found_is.Valid order.count order.value
order_found next tables row order history sound has matched valid =
    let on = is_on next tables row order history.config sound has matched in
    ap (found (next history.config.key) history.config.start history.start history.entries) on.token
    ∙ clean_found (next history.config.key) history.config.start history.start history.entries order.count order.value (small_value order (in_range next tables row order sound has)) on.clean valid

-- a device of which each accepted token was found stays so at each step
found_after : (next : List ℕ → ℕ → ℕ) (step : Step) (answer : Option Answer) (old new : World) → SearchedOn next old.device.stored → MayAnswer next step answer old new → SearchedOn next new.device.stored
found_after next (Say text) None old new were may = absurd may
found_after next (Say text) (Some (Said said)) old new were may = subst (λ (w : World). SearchedOn next w.device.stored) (sym may.1) were
found_after next (Say text) (Some (Did answer)) old new were may = absurd may
found_after next (Say text) (Some (Told reply)) old new were may = absurd may
found_after next (Do command) None old new were may = absurd may
found_after next (Do command) (Some (Said said)) old new were may = absurd may
found_after next (Do command) (Some (Did answer)) old new were may = subst (λ (s : State). SearchedOn next s.stored) (sym may.1) were
found_after next (Do command) (Some (Told reply)) old new were may = absurd may
found_after next (Act event) None old new were may = acted next event None old.device new.device may.0.0 were may.0.1
found_after next (Act event) (Some (Said said)) old new were may = absurd may
found_after next (Act event) (Some (Did answer)) old new were may = absurd may
found_after next (Act event) (Some (Told reply)) old new were may = acted next event (Some reply) old.device new.device may.0.0 were may.0.1

pub stays_found : (next : List ℕ → ℕ → ℕ) (start now : World) (steps : List Step) (answers : List (Option Answer)) → SearchedOn next start.device.stored → Run next start steps answers now → SearchedOn next now.device.stored
stays_found next start now [] [] were run = subst (λ (w : World). SearchedOn next w.device.stored) (sym run) were
stays_found next start now (step ∷ steps) (answer ∷ answers) were run = stays_found next run.0 now steps answers (found_after next step answer start run.0 were run.1) run.2
stays_found next start now [] (answer ∷ answers) were run = absurd run
stays_found next start now (step ∷ steps) [] were run = absurd run
