-- How the shop's tables stand in the trees of a database.
use Rattle.std.specs.Prelude.{◌≡◌, ℕ, suc, pos, Bool, List, [], ◌∷◌, ◌++◌, length, if◌then◌else◌, not, ◌==◌, IsSome}
use Rattle.sqlite.specs.declared.types.Value.{Value}
use Rattle.sqlite.specs.declared.types.Value.TheVariants.{Int, Text, Blob}
use Rattle.sqlite.specs.Order.{Row as Columns}
use Rattle.sqlite.specs.Tree.{Trees}
use Rattle.paygo_spec.specs.Digits.{digit_count}
use Rattle.paygo_spec.specs.declared.TheConstants.{GREAT, LAST}
use Rattle.ledger_spec.specs.declared.Row.{Row}
use Rattle.ledger_spec.specs.declared.Order.{Order}
use Rattle.ledger_spec.specs.declared.PriceChange.{PriceChange}
use Rattle.ledger_spec.specs.Names.{same_name}
use Rattle.table_columns.specs.Said.{ask_code, asked_code, kind_code}
use Rattle.ledger_spec.specs.Tables.{Tables, row_in}
use Rattle.shop_tables.specs.Schema.{device_tree, order_tree, raised_tree, change_tree}
use Rattle.std.specs.List.{list_any}

-- A number as a column holds it.
abbrev pub count : ℕ → Value
count n = Int (pos n)

-- Yes or no as a column holds it.
abbrev pub flag : Bool → Value
flag b = Int (if b then pos 1 else pos 0)

-- The columns of a row in its table.
abbrev pub device_columns : Row → Columns
device_columns row = Text row.serial ∷ Blob row.key ∷ count row.start ∷ count row.divider ∷ count (digit_count row.form) ∷ count row.price
    ∷ count row.total ∷ count row.paid ∷ count row.rest ∷ count row.last ∷ flag row.closed ∷ []

-- A row as the statements show it: its columns, and whether its limit was raised.
abbrev pub row_columns : Row → Columns
row_columns row = device_columns row ++ flag (not (row.limit == LAST)) ∷ []

-- The columns of an order in its table.
abbrev pub order_columns : Order → Columns
order_columns order = Text order.id ∷ Text order.serial ∷ count (ask_code order.ask) ∷ count (asked_code order.ask) ∷ count (kind_code order.kind)
    ∷ count order.count ∷ count order.value ∷ count order.token ∷ []

-- The columns of a change of a price in its table.
abbrev pub change_columns : PriceChange → Columns
change_columns change = Text change.serial ∷ count change.from ∷ count change.price ∷ []

-- The column of a serial in the table of the raised ones.
abbrev pub raised_columns : List ℕ → Columns
raised_columns serial = Text serial ∷ []

-- What the statement that lifts a row's last count is given.
abbrev pub lifted_columns : List ℕ → ℕ → Columns
lifted_columns serial to = Text serial ∷ count to ∷ []

-- The rows as they stand in a tree: the oldest first, numbered from 1.
abbrev pub stored_by : {X : Type 0} → (X → Columns) → List X → List Columns
stored_by columns [] = []
stored_by columns (x ∷ xs) = stored_by columns xs ++ (count (suc (length xs)) ∷ columns x) ∷ []

-- The limit of a row, by the serials of the raised ones.
abbrev pub limit_by : List (List ℕ) → List ℕ → ℕ
limit_by serials serial = if list_any (λ s. same_name s serial) serials then GREAT else LAST

-- The limits of these rows are those that the serials of the raised ones say.
abbrev pub AreLimited : List (List ℕ) → List Row → Type 0
AreLimited serials [] = Unit {0}
AreLimited serials (row ∷ rows) = (row.limit ≡ limit_by serials row.serial) × AreLimited serials rows

-- Each of these serials has a row.
abbrev pub AreKnown : List Row → List (List ℕ) → Type 0
AreKnown rows [] = Unit {0}
AreKnown rows (serial ∷ serials) = IsSome (row_in rows serial) × AreKnown rows serials

-- The trees hold these tables.
pub record Hold (trees : Trees) (tables : Tables) : Type 0 where
  pub rows : trees device_tree ≡ stored_by device_columns tables.rows
  pub orders : trees order_tree ≡ stored_by order_columns tables.orders
  pub changes : trees change_tree ≡ stored_by change_columns tables.changes
  pub serials : List (List ℕ)
  pub raised : trees raised_tree ≡ stored_by raised_columns serials
  pub limits : AreLimited serials tables.rows
  pub known : AreKnown tables.rows serials
