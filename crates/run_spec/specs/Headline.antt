-- What shop and customer are promised of every run: each order that was answered stands, no token takes effect twice, and
-- a token that may be used is accepted.
use Rattle.std.specs.Prelude.{◌≡◌, ℕ, ◌+◌, ◌*◌, ◌<◌, ◌≤◌, min, Bool, true, false, List, [], ◌∷◌, ◌++◌, length, take, map, slice_get, Option, Some, None}
use Rattle.paygo_spec.specs.declared.Config.{Config}
use Rattle.paygo_spec.specs.declared.Event.TheVariants.{Key}
use Rattle.paygo_spec.specs.declared.Form.{Form}
use Rattle.paygo_spec.specs.declared.Reply.TheVariants as reply_is
use Rattle.paygo_spec.specs.declared.TokenKind.TheVariants.{Add, Set, Free, Sync}
use Rattle.paygo_spec.specs.Clock.{most_left}
use Rattle.paygo_spec.specs.Digits.{digits_of}
use Rattle.paygo_spec.specs.History.{spent, kind_of, Valid}
use Rattle.paygo_spec.specs.Layout.{room}
use Rattle.paygo_spec.specs.Machine.{State, Stored, Journal, History, clock_at, unit_for}
use Rattle.paygo_spec.specs.Searched.{effects}
use Rattle.ledger_spec.specs.declared.Answer.TheVariants as answer_is
use Rattle.ledger_spec.specs.declared.Command.{Command}
use Rattle.ledger_spec.specs.declared.Order.{Order}
use Rattle.ledger_spec.specs.declared.Row.{Row}
use Rattle.ledger_spec.specs.Tables.{Tables, order_of, row_of}
use Rattle.run_spec.specs.Run.{Step, Do, Act, Answer, Did, Told, World, Run}

-- The tables have this order, and this row of its device.
pub record HasOrder (tables : Tables) (row : Row) (order : Order) : Type 0 where
  pub order_is : order_of tables order.id ≡ Some order
  pub row_is : row_of tables order.serial ≡ Some row

-- The device was made with what the shop keeps in this row: the same key, starting code, divider and form.
pub record IsMatched (row : Row) (config : Config) : Type 0 where
  pub key : row.key ≡ config.key
  pub start : row.start ≡ config.start
  pub divider : row.divider ≡ config.divider
  pub form : row.form ≡ config.form

-- Each order that was answered to a command stands in the tables now, and each later answer to the same command is that
-- order. So a payment that is told again isn't counted again, and its customer gets the same token.
abbrev pub OrdersStand : List Step → List (Option Answer) → Tables → Type 0
OrdersStand steps answers now =
    (i : ℕ) (command : Command) (order : Order) (form : Form) → slice_get steps i ≡ Some (Do command)
    → slice_get answers i ≡ Some (Some (Did (answer_is.Order order form)))
    → (order_of now order.id ≡ Some order)
    × ((j : ℕ) → i < j → slice_get steps j ≡ Some (Do command)
    → slice_get answers j ≡ Some (Some (Did (answer_is.Order order form))))

-- How often a token took effect on a device since its history began.
abbrev pub effects_in : (List ℕ → ℕ → ℕ) → History → ℕ → ℕ
effects_in next history token = effects (next history.config.key) history.config.start token history.entries

-- The token of this order took effect at most once, and never where its count was spent when the history began.
pub record IsOnce (next : List ℕ → ℕ → ℕ) (history : History) (order : Order) : Type 0 where
  pub once : effects_in next history order.token ≤ 1
  pub never : spent history.start [] order.count ≡ true → effects_in next history order.token ≡ 0

-- That holds of each order of a row that matches the device.
abbrev pub TokensOnce : (List ℕ → ℕ → ℕ) → Tables → Stored → Type 0
TokensOnce next tables stored =
    (row : Row) (order : Order) (history : History) → HasOrder tables row order → stored ≡ Journal history
    → IsMatched row history.config
    → IsOnce next history order

-- The device is on, and has this history.
pub record IsUp (state : State) (history : History) : Type 0 where
  pub on : state.on ≡ true
  pub stored : state.stored ≡ Journal history

-- The token of this order may be used now on a device with this history: it is one of a row that matches the device, not
-- spent and in reach, and no entry is blocked.
pub record IsUsable (tables : Tables) (history : History) (order : Order) : Type 0 where
  pub row : Row
  pub has : HasOrder tables row order
  pub matched : IsMatched row history.config
  pub valid : Valid history.start history.entries order.count order.value
  pub unblocked : (clock_at history history.entries).block ≡ 0

-- How a customer types a token: `*`, its digits and `#`.
abbrev pub typing : Form → ℕ → List Step
typing form token = map (λ key. Act (Key key)) (42 ∷ digits_of form token ++ 35 ∷ [])

-- A set token was accepted: the answer says its count and value, and so many units of time are left.
pub record IsSetTo (history : History) (count value n v left : ℕ) : Type 0 where
  pub kind : kind_of count value ≡ Some Set
  pub count_is : n ≡ count
  pub value_is : v ≡ value
  pub left_is : left ≡ value * unit_for history

-- An add token was accepted: the answer says its count and value, and the time left is that of before with so many units
-- more, at most 10^12 seconds. On a free device time stays as it was.
pub record IsAddedTo (history : History) (count value n v left : ℕ) (free : Bool) : Type 0 where
  pub kind : kind_of count value ≡ Some Add
  pub count_is : n ≡ count
  pub value_is : v ≡ value
  pub free_is : free ≡ (clock_at history history.entries).free
  pub added : free ≡ false
      → left ≡ min ((clock_at history history.entries).left + value * unit_for history) most_left
  pub stays : free ≡ true → left ≡ (clock_at history history.entries).left

-- What a device with this history answers then: the token is accepted with this count and value, and the time left is what
-- the value makes of the time before; or the flash is worn and has no room, or it failed.
abbrev pub IsTaken : History → ℕ → ℕ → Option Answer → Type 0
IsTaken history count value (Some (Told (reply_is.Set n v left))) = IsSetTo history count value n v left
IsTaken history count value (Some (Told (reply_is.Added n v left free))) = IsAddedTo history count value n v left free
IsTaken history count value (Some (Told (reply_is.Free n))) = (kind_of count value ≡ Some Free) × (n ≡ count)
IsTaken history count value (Some (Told (reply_is.Synced n))) = (kind_of count value ≡ Some Sync) × (n ≡ count)
IsTaken history count value (Some (Told reply_is.Worn)) = room history.at ≡ 0
IsTaken history count value (Some (Told reply_is.Down)) = Unit {0}
IsTaken history count value _ = ⊥

-- The last answer is that, and nothing is answered before.
abbrev pub IsTakenLast : History → ℕ → ℕ → List (Option Answer) → Type 0
IsTakenLast history count value [] = ⊥
IsTakenLast history count value (answer ∷ []) = IsTaken history count value answer
IsTakenLast history count value (None ∷ answers) = IsTakenLast history count value answers
IsTakenLast history count value _ = ⊥

-- A point of a run: what came before it, what stands there, and what comes behind it.
pub record Point (next : List ℕ → ℕ → ℕ) (start : World) (steps : List Step) (answers : List (Option Answer))
    (now : World) : Type 0 where
  pub done : List Step
  pub others : List Step
  pub steps_are : steps ≡ done ++ others
  pub answered : List (Option Answer)
  pub later : List (Option Answer)
  pub answers_are : answers ≡ answered ++ later
  pub here : World
  pub came : Run next start done answered here
  pub goes_on : Run next here others later now

-- Wherever in the run a token that may be used is typed, it is accepted, and what was paid for arrives.
abbrev pub UsablesTaken : (List ℕ → ℕ → ℕ) → World → List Step → List (Option Answer) → World → Type 0
UsablesTaken next start steps answers now =
    (point : Point next start steps answers now) (history : History) (order : Order) (rest : List Step)
    → IsUp point.here.device history → IsUsable point.here.tables history order
    → point.others ≡ typing history.config.form order.token ++ rest
    → IsTakenLast history order.count order.value
    (take (length (typing history.config.form order.token)) point.later)
