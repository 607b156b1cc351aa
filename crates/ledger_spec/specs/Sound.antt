-- What holds of tables that this ledger alone has changed, from empty ones on.
use Rattle.std.specs.Prelude.{◌≡◌, ℕ, ◌+◌, ◌%◌, ◌^◌, ◌<◌, ◌≤◌, List, [], ◌∷◌, Some, if◌then◌else◌}
use Rattle.paygo_spec.specs.Chain.{token_at}
use Rattle.paygo_spec.specs.Searched.{IsClean}
use Rattle.ledger_spec.specs.declared.Row.{Row}
use Rattle.ledger_spec.specs.declared.Order.{Order}
use Rattle.ledger_spec.specs.declared.Ask.{Ask}
use Rattle.ledger_spec.specs.declared.Ask.TheVariants.{Pay}
use Rattle.ledger_spec.specs.declared.Kind.TheVariants as kind_is
use Rattle.ledger_spec.specs.Names.{same_name}
use Rattle.ledger_spec.specs.Tables.{Tables, row_of, order_of, prices_for, Kept}
use Rattle.ledger_spec.specs.Issuing.{parity_of}
use Rattle.ledger_spec.specs.Replay.{orders_back, IsReplayed}

-- An order is one that was issued for its row: its count is at most the row's last one, and even for an add token alone;
-- its token is that of the count and the value, and no other count has it, of those up to 4,095 and up to its own (a
-- greater count may have it too); and an add token has at most 995 units.
pub record IsIssued (next : List ℕ → ℕ → ℕ) (row : Row) (order : Order) : Type 0 where
  pub count : order.count ≤ row.last
  pub parity : order.count % 2 ≡ parity_of order.kind
  pub token : order.token ≡ token_at (next row.key) row.start order.value order.count
  pub clean : IsClean (next row.key) row.start order.count order.value
  pub units : order.kind ≡ kind_is.Add → order.value ≤ 995

-- What was paid with what was asked.
abbrev pub paid_with : Ask → ℕ
paid_with (Pay amount) = amount
paid_with _ = 0

-- What was paid for a device with these orders.
abbrev pub paid_by : List Order → List ℕ → ℕ
paid_by [] serial = 0
paid_by (order ∷ orders) serial =
    (if same_name order.serial serial then paid_with order.ask else 0) + paid_by orders serial

-- The tables are in order; each order is one that was issued for its row; the orders of one device have different counts;
-- and each row is what its orders and the changes of its price come to.
pub record Sound (next : List ℕ → ℕ → ℕ) (tables : Tables) : Type 0 where
  pub kept : Kept tables
  pub issued : (id : List ℕ) (order : Order) (row : Row) → order_of tables id ≡ Some order
      → row_of tables order.serial ≡ Some row → IsIssued next row order
  pub counts : (id other : List ℕ) (order second : Order) → order_of tables id ≡ Some order
      → order_of tables other ≡ Some second
      → order.serial ≡ second.serial → order.count ≡ second.count → order ≡ second
  pub replayed : (serial : List ℕ) (row : Row) → row_of tables serial ≡ Some row
      → IsReplayed (orders_back tables serial) (prices_for tables serial) row

-- No step leads out of the codes.
abbrev pub StaysBelow : (List ℕ → ℕ → ℕ) → Type 0
StaysBelow next = (key : List ℕ) (code : ℕ) → next key code < 10 ^ 9
