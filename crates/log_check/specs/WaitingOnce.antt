-- That what waits may be asked for has one proof at most, so a struct may hold it as a fact of its own.
use Rattle.std.specs.Prelude.{◌≡◌, ℕ, ◌≤◌, ◌⊎◌, List, [], ◌∷◌}
use Rattle.std.proofs.Common.{inl, inr, ap, arith, ⊎_elim}
use Rattle.std.proofs.Props.{props}
use Rattle.paygo_spec.specs.declared.Event.{Event}
use Rattle.paygo_spec.specs.declared.Event.TheVariants.{Power, Make, Key, Tick, Show, Raise}
use Rattle.paygo_spec.specs.Machine.{IsEvent}
use Rattle.paygo_spec.specs.Pad.{IsKey}
use Rattle.ledger_spec.specs.declared.Command.{Command}
use Rattle.ledger_spec.specs.declared.Command.TheVariants as command_is
use Rattle.ledger_spec.specs.Ledger.{IsCommand}
use Rattle.log_check.specs.declared.waiting.Waiting.{Waiting}
use Rattle.log_check.specs.declared.waiting.Waiting.TheVariants as waits
use Rattle.log_check.specs.Waiting.{AreEvents, IsWaiting}

one_of : {A B : Type 0} → IsProp A → IsProp B → (A → B → ⊥) → IsProp (A ⊎ B)
one_of a b none (inl x) (inl y) = ap inl (a x y)
one_of a b none (inr x) (inr y) = ap inr (b x y)
one_of a b none (inl x) (inr y) = absurd (none x y)
one_of a b none (inr x) (inl y) = absurd (none y x)

not_digit : (key : ℕ) → (48 ≤ key) × (key ≤ 57) → (key ≡ 42) ⊎ (key ≡ 35) → ⊥
not_digit key digit other = ⊎_elim (λ (e : key ≡ 42). omega (arith, digit.0)) (λ (e : key ≡ 35). omega (arith, digit.0))
    other

not_star : (key : ℕ) → key ≡ 42 → key ≡ 35 → ⊥
not_star key a b = omega arith

key_prop : (key : ℕ) → IsProp (IsKey key)
key_prop key = one_of (hlevel props) (one_of (hlevel props) (hlevel props) (not_star key)) (not_digit key)

event_prop : (event : Event) → IsProp (IsEvent event)
event_prop Power = hlevel props
event_prop (Make config) = hlevel props
event_prop (Key key) = key_prop key
event_prop (Tick seconds) = hlevel props
event_prop Show = hlevel props
event_prop Raise = hlevel props

events_prop : (events : List Event) → IsProp (AreEvents events)
events_prop [] = hlevel props
events_prop (event ∷ events) = hlevel (props, event_prop, events_prop events)

command_prop : (command : Command) → IsProp (IsCommand command)
command_prop (command_is.Enroll enrol) = hlevel props
command_prop (command_is.Pay id serial amount) = hlevel props
command_prop (command_is.Set id serial units) = hlevel props
command_prop (command_is.Disable id serial) = hlevel props
command_prop (command_is.Sync id serial) = hlevel props
command_prop (command_is.Order id) = hlevel props
command_prop (command_is.Show serial) = hlevel props
command_prop (command_is.Raise serial) = hlevel props
command_prop (command_is.Price serial from price) = hlevel props
command_prop (command_is.Quote serial amount) = hlevel props
command_prop (command_is.Skip serial to) = hlevel props

pub waiting_prop : (waiting : Waiting) → IsProp (IsWaiting waiting)
waiting_prop waits.Unread = hlevel props
waiting_prop (waits.Fault fault) = hlevel props
waiting_prop (waits.Command command) = command_prop command
waiting_prop (waits.Events events at) = events_prop events.items
