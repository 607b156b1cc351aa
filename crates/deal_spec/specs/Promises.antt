-- The six promises, of the moves of a deal that began with an empty book.
use Rattle.std.specs.Prelude.{◌≡◌, ℕ, ◌+◌, ◌≤◌, ◌==◌, ◌⊎◌, Bool, true, false, List, [], ◌∷◌, reverse, filter, Option, Some, None, if◌then◌else◌}
use Rattle.std.specs.List.{flat_map}
use Rattle.ledger_spec.specs.declared.Order.{Order}
use Rattle.deal_spec.specs.Deal.{Item, Sold, Accepted, Failed, Passed, Move, Counts, Cut, Worn, Again, Blocked, Old, Has, IsUsable, MayMove, clock}

-- The customer was told this order: it was sold, or was sold before and asked again.
abbrev pub IsTold : List Move → Order → Type 0
IsTold moves order = Has moves (Counts (Sold order)) ⊎ Has moves (Again order)

-- 1. Each accepted payment has one token, and asked again it is the same: what was told was sold, a payment, which is
-- known by its id, is told one order, and no payment, count or token was sold twice.
pub record OneToken (moves : List Move) (book : List Item) : Type 0 where
  pub sold : (order : Order) → IsTold moves order → Has book (Sold order)
  pub same : (a b : Order) → IsTold moves a → IsTold moves b → a.id ≡ b.id → a ≡ b
  pub one_id : (a b : Order) → Has book (Sold a) → Has book (Sold b) → a.id ≡ b.id → a ≡ b
  pub one_count : (a b : Order) → Has book (Sold a) → Has book (Sold b) → a.count ≡ b.count → a ≡ b
  pub one_token : (a b : Order) → Has book (Sold a) → Has book (Sold b) → a.token ≡ b.token → a ≡ b

-- How often a token took effect.
abbrev pub effects : ℕ → List Item → ℕ
effects token [] = 0
effects token (Accepted count value own ∷ book) = (if own == token then 1 else 0) + effects token book
effects token (_ ∷ book) = effects token book

-- 2. No token that was sold takes effect twice.
abbrev pub NoneTwice : List Item → Type 0
NoneTwice book = (order : Order) → Has book (Sold order) → effects order.token book ≤ 1

-- What a move counts: the whole of its item, or nothing.
abbrev pub counted : Move → List Item
counted (Counts item) = item ∷ []
counted (Cut item true) = item ∷ []
counted _ = []

-- Accepted tokens and seconds that passed, and nothing else.
abbrev pub is_of_time : Item → Bool
is_of_time (Accepted count value token) = true
is_of_time (Passed seconds) = true
is_of_time _ = false

-- 3. Time left is what the accepted tokens and the passed seconds come to.
abbrev pub TimeLeft : ℕ → List Item → Type 0
TimeLeft unit book = (clock unit book).left ≡ (clock unit (filter is_of_time book)).left

-- 4. What was cut counts wholly or not at all: the book is what the moves counted, each its whole item or nothing.
abbrev pub CutsAreWhole : List Move → List Item → Type 0
CutsAreWhole moves book = book ≡ reverse (flat_map counted moves)

-- 5. What was answered counts.
abbrev pub AnsweredCounts : List Move → List Item → Type 0
AnsweredCounts moves book = (item : Item) → Has moves (Counts item) → Has book item

-- What is asked of the device, a token typed or seconds that pass; and what was asked at a move, if anything was.
pub data Asked : Type 0 where
  Typed : (token : ℕ) → Asked
  Waited : (seconds : ℕ) → Asked

abbrev pub asked_in : Item → Option Asked
asked_in (Accepted count value token) = Some (Typed token)
asked_in (Failed token) = Some (Typed token)
asked_in (Passed seconds) = Some (Waited seconds)
asked_in _ = None

abbrev pub asked_at : Move → Option Asked
asked_at (Counts item) = asked_in item
asked_at (Cut item counted) = asked_in item
asked_at (Worn item) = asked_in item
asked_at (Blocked token) = Some (Typed token)
asked_at (Old token) = Some (Typed token)
asked_at _ = None

-- A move accepts the token of an order with its count and value; or the flash fails at that, or is worn.
abbrev pub IsTaken : Order → Move → Type 0
IsTaken order (Counts item) = item ≡ Accepted order.count order.value order.token
IsTaken order (Cut item counted) = item ≡ Accepted order.count order.value order.token
IsTaken order (Worn item) = item ≡ Accepted order.count order.value order.token
IsTaken order _ = ⊥

-- 6. A token that was sold, wasn't used, is in reach and outside the block is taken where it is typed, unless the flash
-- fails or is worn.
abbrev pub UsablesTaken : ℕ → Type 0
UsablesTaken unit =
    (book : List Item) (order : Order) (move : Move) → IsUsable unit book order → MayMove unit book move
    → asked_at move ≡ Some (Typed order.token) → IsTaken order move
