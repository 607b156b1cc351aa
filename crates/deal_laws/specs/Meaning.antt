-- What is seen of a life of shop and device, as a deal: which move each turn is, by its answer.
use Rattle.std.specs.Prelude.{◌≡◌, ℕ, ◌^◌, ◌<◌, ◌⊎◌, Bool, true, false, ◌==◌, List, [], ◌∷◌, ◌++◌, Option, Some, None, if◌then◌else◌}
use Rattle.std.specs.Option.{option_map}
use Rattle.paygo_spec.specs.declared.Config.{Config}
use Rattle.paygo_spec.specs.declared.Event.{Event}
use Rattle.paygo_spec.specs.declared.Event.TheVariants as event_is
use Rattle.paygo_spec.specs.declared.Reply.{Reply}
use Rattle.paygo_spec.specs.declared.Reply.TheVariants as reply_is
use Rattle.paygo_spec.specs.Clock.{unit_of}
use Rattle.paygo_spec.specs.Digits.{digits_of}
use Rattle.ledger_spec.specs.declared.Answer.TheVariants as answer_is
use Rattle.ledger_spec.specs.declared.Ask.TheVariants as asks
use Rattle.ledger_spec.specs.declared.Command.{Command}
use Rattle.ledger_spec.specs.declared.Command.TheVariants as command_is
use Rattle.ledger_spec.specs.declared.Order.{Order}
use Rattle.ledger_spec.specs.Names.{same_name}
use Rattle.run_spec.specs.Run.{Step, Do, Act, Answer, Did, Told}
use Rattle.deal_spec.specs.Deal.{Item, Sold, Accepted, Failed, Passed, Raised, Move, Counts, Cut, Worn, Again, Blocked, Old, Starts, Idle, newest, limit, Clock, clock, after, Deals}
use Rattle.deal_spec.specs.Promises.{Typed, Waited, asked_at}

-- What happens in the life of shop and device: a step of a run is answered; a command of the shop is not, since its
-- database failed; or the program starts anew, and the device with it.
pub data Turn : Type 0 where
  Answered : (step : Step) (answer : Option Answer) → Turn
  Unanswered : (command : Command) → Turn
  Restarted : (faults : ℕ) → Turn

-- An item is one that this event of the device asks for: the `#` behind a token, seconds, or the raise.
abbrev pub IsAsked : Event → Item → Type 0
IsAsked (event_is.Key key) (Accepted count value token) = key ≡ 35
IsAsked (event_is.Key key) (Failed token) = key ≡ 35
IsAsked (event_is.Tick seconds) (Passed passed) = passed ≡ seconds
IsAsked event_is.Raise Raised = Unit {0}
IsAsked _ _ = ⊥

-- And so is what a move counts, or would count.
abbrev pub IsMoveFor : Event → Move → Type 0
IsMoveFor event (Counts item) = IsAsked event item
IsMoveFor event (Cut item counted) = IsAsked event item
IsMoveFor event (Worn item) = IsAsked event item
IsMoveFor event (Blocked token) = event ≡ event_is.Key 35
IsMoveFor event (Old token) = event ≡ event_is.Key 35
IsMoveFor event (Again order) = ⊥
IsMoveFor event Starts = ⊥
IsMoveFor event Idle = Unit {0}

-- The move that a reply of the device is, where the book was this. Who is raised already is told so again.
abbrev pub IsReplied : List Item → Reply → Move → Type 0
IsReplied book (reply_is.Set n v left) move = (token : ℕ) × (move ≡ Counts (Accepted n v token))
IsReplied book (reply_is.Added n v left free) move = (token : ℕ) × (move ≡ Counts (Accepted n v token))
IsReplied book (reply_is.Free n) move = (token : ℕ) × (move ≡ Counts (Accepted n 998 token))
IsReplied book (reply_is.Synced n) move = (token : ℕ) × (move ≡ Counts (Accepted n 999 token))
IsReplied book (reply_is.Invalid block) move = (token : ℕ) × (move ≡ Counts (Failed token))
IsReplied book reply_is.Old move = (token : ℕ) × (move ≡ Old token)
IsReplied book (reply_is.Blocked block) move = (token : ℕ) × (move ≡ Blocked token)
IsReplied book (reply_is.Ticked left free block) move = (seconds : ℕ) × (move ≡ Counts (Passed seconds))
IsReplied book reply_is.Raised move = (move ≡ Counts Raised) ⊎ ((limit book ≡ 16383) × (move ≡ Idle))
IsReplied book reply_is.Worn move = (item : Item) × (move ≡ Worn item)
IsReplied book reply_is.Down move = ((item : Item) × (counted : Bool) × (move ≡ Cut item counted)) ⊎ (move ≡ Idle)
IsReplied book _ move = move ≡ Idle

-- An order is one for this command: it has its id, and where one is asked for, it is for the same device and the same
-- ask.
abbrev pub IsFor : Command → Order → Type 0
IsFor (command_is.Pay id serial amount) order =
    (order.id ≡ id) × (order.serial ≡ serial) × (order.ask ≡ asks.Pay amount)
IsFor (command_is.Set id serial units) order =
    (order.id ≡ id) × (order.serial ≡ serial) × (order.ask ≡ asks.Set units)
IsFor (command_is.Disable id serial) order = (order.id ≡ id) × (order.serial ≡ serial) × (order.ask ≡ asks.Disable)
IsFor (command_is.Sync id serial) order = (order.id ≡ id) × (order.serial ≡ serial) × (order.ask ≡ asks.Sync)
IsFor (command_is.Order id) order = order.id ≡ id
IsFor _ order = ⊥

-- The move that an answer with an order is, where the order is one of the deal's device, and where it isn't.
abbrev pub IsOrder : Bool → Order → Move → Type 0
IsOrder true order move = (move ≡ Counts (Sold order)) ⊎ (move ≡ Again order)
IsOrder false order move = move ≡ Idle

-- The move that a turn is in the deal over the device with this serial.
abbrev pub IsMove : List ℕ → List Item → Turn → Move → Type 0
IsMove serial book (Answered (Do command) (Some (Did (answer_is.Order order form)))) move =
    IsFor command order × IsOrder (same_name order.serial serial) order move
IsMove serial book (Answered (Act event) (Some (Told reply))) move = IsReplied book reply move × IsMoveFor event move
IsMove serial book (Unanswered command) move =
    ((order : Order) × (counted : Bool) × IsFor command order × (move ≡ Cut (Sold order) counted)) ⊎ (move ≡ Idle)
IsMove serial book (Restarted faults) move = move ≡ Starts
IsMove serial book _ move = move ≡ Idle

-- What was seen of the device so far: whether it told that it is up, and was neither cut off nor started anew since;
-- and the keys pressed since `*`, where no other event came between.
pub record Seen : Type 0 where
  pub up : Bool
  pub keys : Option (List ℕ)

abbrev pub nothing_seen : Seen
nothing_seen = record { up = false; keys = None }

abbrev pub up_after : Turn → Bool → Bool
up_after (Answered (Act event_is.Power) (Some (Told (reply_is.Up count left free block)))) up = true
up_after (Answered (Act (event_is.Make config)) (Some (Told (reply_is.Up count left free block)))) up = true
up_after (Answered step (Some (Told reply_is.Down))) up = false
up_after (Restarted faults) up = false
up_after _ up = up

abbrev pub keys_after : Turn → Option (List ℕ) → Option (List ℕ)
keys_after (Answered (Act (event_is.Key key)) answer) keys =
    if key == 42 then Some [] else if key == 35 then None else option_map (λ pressed. pressed ++ key ∷ []) keys
keys_after (Answered (Act event) answer) keys = None
keys_after (Restarted faults) keys = None
keys_after _ keys = keys

abbrev pub seen_after : Turn → Seen → Seen
seen_after turn seen = record { up = up_after turn seen.up; keys = keys_after turn seen.keys }

-- A token was typed, and this turn is the `#` behind it, on a device that is up.
pub record IsTyped (config : Config) (turn : Turn) (seen : Seen) (token : ℕ) : Type 0 where
  pub answer : Option Answer
  pub turn_is : turn ≡ Answered (Act (event_is.Key 35)) answer
  pub up : seen.up ≡ true
  pub digits : seen.keys ≡ Some (digits_of config.form token)
  pub small : token < 10 ^ 9

-- So many seconds were told to a device that is up.
pub record IsWaited (turn : Turn) (seen : Seen) (seconds : ℕ) : Type 0 where
  pub answer : Option Answer
  pub turn_is : turn ≡ Answered (Act (event_is.Tick seconds)) answer
  pub up : seen.up ≡ true

-- What a reply tells is right: the newest count, the time left, whether the device is free, the failures, and the
-- block.
abbrev pub Tells : Clock → ℕ → Reply → Type 0
Tells clock newest (reply_is.Up count left free block) =
    (count ≡ newest) × (left ≡ clock.left) × (free ≡ clock.free) × (block ≡ clock.block)
Tells clock newest (reply_is.Set n v left) = left ≡ clock.left
Tells clock newest (reply_is.Added n v left free) = (left ≡ clock.left) × (free ≡ clock.free)
Tells clock newest (reply_is.Invalid block) = block ≡ clock.block
Tells clock newest (reply_is.Blocked block) = block ≡ clock.block
Tells clock newest (reply_is.Ticked left free block) =
    (left ≡ clock.left) × (free ≡ clock.free) × (block ≡ clock.block)
Tells clock newest (reply_is.Shown count left free fails block held room) =
    (count ≡ newest) × (left ≡ clock.left) × (free ≡ clock.free) × (fails ≡ clock.fails) × (block ≡ clock.block)
Tells clock newest _ = Unit {0}

abbrev pub TellsRight : ℕ → List Item → Turn → Type 0
TellsRight unit book (Answered step (Some (Told reply))) = Tells (clock unit book) (newest book) reply
TellsRight unit book _ = Unit {0}

-- A turn, before which the book is this, is this move: its answer says so, a token that was typed and seconds that
-- passed are the move's, and what is told is what the book says after it.
pub record Means (serial : List ℕ) (config : Config) (turn : Turn) (seen : Seen) (book : List Item) (move : Move)
    : Type 0 where
  pub move_is : IsMove serial book turn move
  pub typed : (token : ℕ) → IsTyped config turn seen token → asked_at move ≡ Some (Typed token)
  pub waited : (seconds : ℕ) → IsWaited turn seen seconds → asked_at move ≡ Some (Waited seconds)
  pub tells : TellsRight (unit_of config.divider) (after move book) turn

-- Each turn is the move beside it.
abbrev pub MeanAll : List ℕ → Config → List Turn → Seen → List Item → List Move → Type 0
MeanAll serial config [] seen book [] = Unit {0}
MeanAll serial config (turn ∷ turns) seen book (move ∷ moves) =
    Means serial config turn seen book move
    × MeanAll serial config turns (seen_after turn seen) (after move book) moves
MeanAll serial config _ seen book _ = ⊥

-- These turns are a deal over the device with this serial: there are moves, which each turn is, and which lead to a
-- book.
pub record IsDeal (serial : List ℕ) (config : Config) (turns : List Turn) : Type 0 where
  pub moves : List Move
  pub book : List Item
  pub deals : Deals (unit_of config.divider) [] moves book
  pub mean : MeanAll serial config turns nothing_seen [] moves
