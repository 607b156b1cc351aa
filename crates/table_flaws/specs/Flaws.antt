-- What is wrong in tables that are in order: a list, which is empty exactly where the tables are sound.
use Rattle.std.specs.Prelude.{ℕ, ◌+◌, ◌%◌, Bool, true, false, not, ◌&&◌, ◌==◌, nat_le, nat_lt, List, [], ◌∷◌, ◌++◌}
use Rattle.std.specs.List.{flat_map}
use Rattle.paygo_spec.specs.Chain.{token_at}
use Rattle.ledger_spec.specs.declared.Row.{Row}
use Rattle.ledger_spec.specs.declared.Order.{Order}
use Rattle.ledger_spec.specs.declared.PriceChange.{PriceChange}
use Rattle.ledger_spec.specs.declared.Kind.{Kind}
use Rattle.ledger_spec.specs.declared.Kind.TheVariants as kind_is
use Rattle.table_flaws.specs.declared.flaw.Flaw.{Flaw}
use Rattle.table_flaws.specs.declared.flaw.Flaw.TheVariants as flaw_is
use Rattle.ledger_spec.specs.Tables.{Tables, prices_for}
use Rattle.ledger_spec.specs.Issuing.{is_clean, parity_of}
use Rattle.ledger_spec.specs.Replay.{Account, Booked, account_of, account_after, booked, orders_back, price_by}
use Rattle.ledger_spec.specs.Sorted.{all_rows}

-- Whether two kinds are one.
abbrev pub same_kind : Kind → Kind → Bool
same_kind kind_is.Add kind_is.Add = true
same_kind kind_is.Set kind_is.Set = true
same_kind kind_is.Disable kind_is.Disable = true
same_kind kind_is.Sync kind_is.Sync = true
same_kind _ _ = false

-- Whether a token of this kind may have so many units: an add token has at most 995, since a device takes no more.
abbrev pub may_have : Kind → ℕ → Bool
may_have kind_is.Add value = nat_le value 995
may_have _ value = true

-- Whether two truths are one.
abbrev pub same_truth : Bool → Bool → Bool
same_truth true b = b
same_truth false b = not b

-- Whether two accounts are one: the sum paid, the rest that bought no unit yet, and whether the device is freed.
abbrev pub same_account : Account → Account → Bool
same_account a b = (a.paid == b.paid) && ((a.rest == b.rest) && same_truth a.closed b.closed)

-- Whether an order's token does what the customer was due: its kind and its value are those that what was asked comes
-- to.
abbrev pub is_booked : Booked → Order → Bool
is_booked due order = same_kind order.kind due.kind && ((order.value == due.value) && may_have order.kind order.value)

-- A flaw, unless the test passes.
abbrev pub unless : Bool → Flaw → List Flaw
unless true flaw = []
unless false flaw = flaw ∷ []

-- What is wrong with an order of a row whose count is to be below the bound, and whose customer was due so much. A
-- customer who has its token may get another thing for it than what was paid for, or nothing.
abbrev pub due_flaws : (ℕ → ℕ) → Row → ℕ → Order → Booked → List Flaw
due_flaws next row bound order due =
    unless (nat_lt order.count bound) (flaw_is.Count order.id)
    ++ (unless (order.count % 2 == parity_of order.kind) (flaw_is.Parity order.id)
    ++ (unless (token_at next row.start order.value order.count == order.token) (flaw_is.Token order.id)
    ++ (unless (is_clean next row.start order.value order.count) (flaw_is.Shared order.id)
    ++ unless (is_booked due order) (flaw_is.Booked order.id))))

-- The same where these are the device's older orders, and each count has a price: so much was due after them.
abbrev pub order_flaws : (ℕ → ℕ) → (ℕ → ℕ) → Row → ℕ → Order → List Order → List Flaw
order_flaws next price row bound order older =
    due_flaws next row bound order
    (booked (price order.count) row.total order.ask (account_after price row.total older))

-- What is wrong with the orders of a row, which stand here the newest first, and whose counts are to fall from below
-- the bound: no count is sold twice. It is told from the oldest order on.
abbrev pub orders_flaws : (ℕ → ℕ) → (ℕ → ℕ) → Row → ℕ → List Order → List Flaw
orders_flaws next price row bound [] = []
orders_flaws next price row bound (order ∷ older) =
    orders_flaws next price row order.count older ++ order_flaws next price row bound order older

-- What is wrong with the changes of a row's price: each is to hold from a count on that was reached already.
abbrev pub changes_flaws : Row → List PriceChange → List Flaw
changes_flaws row [] = []
changes_flaws row (change ∷ changes) =
    unless (nat_le change.from row.last) (flaw_is.Price row.serial) ++ changes_flaws row changes

-- What is wrong with a row that has these orders, the newest first, and these changes of its price: with the orders,
-- then with the changes, and then with what the row says of its customer's money, which is to be what the orders come
-- to.
abbrev pub flaws_by : (ℕ → ℕ) → Row → List Order → List PriceChange → List Flaw
flaws_by next row orders changes =
    let price = price_by changes row in
    orders_flaws next price row (row.last + 1) orders
    ++ (changes_flaws row changes
    ++ unless (same_account (account_after price row.total orders) (account_of row)) (flaw_is.Account row.serial))

-- What is wrong with a row of the tables, by the orders and the changes of its price that they have.
abbrev pub row_flaws : (List ℕ → ℕ → ℕ) → Tables → Row → List Flaw
row_flaws next tables row =
    flaws_by (next row.key) row (orders_back tables row.serial) (prices_for tables row.serial)

-- What is wrong in the tables, row by row, by serial. A shop whose list is empty may rely on what the ledger promises
-- of sound tables.
abbrev pub flaws : (List ℕ → ℕ → ℕ) → Tables → List Flaw
flaws next tables = flat_map (row_flaws next tables) (all_rows tables)
