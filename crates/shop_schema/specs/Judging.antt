-- What is wrong with the tables of a database: the first table and the first column, in a fixed order.
use Rattle.std.specs.Prelude.{◌≡◌, ◌⊎◌, ℕ, ◌+◌, ◌==◌, Bool, true, false, not, ◌&&◌, ◌||◌, List, [], ◌∷◌, codes, Option, Some, None, is_some, if◌then◌else◌}
use Rattle.std.specs.List.{find, list_any}
use Rattle.std.specs.Option.{option_or}
use Rattle.sqlite_value.specs.declared.keys.Collation.{Collation}
use Rattle.sqlite_value.specs.declared.keys.Collation.TheVariants as collation
use Rattle.sqlite_value.specs.declared.value.Value.{Value}
use Rattle.sqlite_value.specs.declared.value.Value.TheVariants as value
use Rattle.sqlite_schema.specs.declared.schema.Kind.{Kind}
use Rattle.sqlite_schema.specs.declared.schema.Kind.TheVariants as kind
use Rattle.sqlite_schema.specs.declared.schema.Column.{Column}
use Rattle.sqlite_schema.specs.declared.schema.Table.{Table}
use Rattle.sqlite_schema.specs.declared.schema.Schema.{Schema}
use Rattle.sqlite_schema.specs.Names.{same_name, column_named, place_of, index_named, view_named}
use Rattle.shop_schema.specs.declared.form.ShopTable.{ShopTable}
use Rattle.shop_schema.specs.declared.form.ShopTable.TheVariants.{Device, TokenOrder, Raised, PriceChange}
use Rattle.shop_schema.specs.declared.form.Holds.{Holds}
use Rattle.shop_schema.specs.declared.form.Holds.TheVariants.{Words, Whole, Bare}
use Rattle.shop_schema.specs.declared.misfit.Wrong.{Wrong}
use Rattle.shop_schema.specs.declared.misfit.Wrong.TheVariants.{NoTable, NoColumn, OtherType, OtherCollation, OtherKey, MustBeGiven}
use Rattle.shop_schema.specs.declared.misfit.Misfit.{Misfit}
use Rattle.shop_schema.specs.declared.misfit.SchemaError.{SchemaError}
use Rattle.shop_schema.specs.declared.misfit.SchemaError.TheVariants as error
use Rattle.shop_schema.specs.Form.{Name, name_of, needs_of, key_name}

-- The table and the column of a name. The case of letters makes no difference.
abbrev pub table_in : Schema → Name → Option Table
table_in schema name = find (λ t. same_name t.name name) schema.tables

abbrev pub column_in : Table → Name → Option Column
column_in found name = find (λ c. same_name c.name name) found.columns

-- Whether an index, a view or a table that can't be read has the name.
abbrev pub is_taken : Schema → Name → Bool
is_taken schema name = is_some (index_named schema name) || is_some (view_named schema name)

-- Whether a column of this kind holds this.
abbrev pub may_hold : Holds → Kind → Bool
may_hold Words kind.Text = true
may_hold Whole kind.Integer = true
may_hold Bare kind.Blob = true
may_hold Bare kind.Any = true
may_hold _ _ = false

-- Whether texts are compared byte by byte, where texts are held.
abbrev pub may_compare : Holds → Collation → Bool
may_compare Words collation.Binary = true
may_compare Words _ = false
may_compare _ _ = true

-- What is wrong with the column in which this is to be held.
abbrev pub column_wrong : Option Column → Holds → Option Wrong
column_wrong None holds = Some NoColumn
column_wrong (Some c) holds =
    if may_hold holds c.kind then (if may_compare holds c.collation then None else Some OtherCollation) else Some OtherType

-- The misfit that names this table and column where something is wrong, and else what comes next.
abbrev pub or_next : ShopTable → Name → Option Wrong → Option Misfit → Option Misfit
or_next table name None next = next
or_next table name (Some wrong) next = Some (record { table = table; column = name; wrong = wrong })

-- The first of the columns that the shop needs with which something is wrong.
abbrev pub needed_misfit : ShopTable → Table → List (Name × Holds) → Option Misfit
needed_misfit table found [] = None
needed_misfit table found (n ∷ rest) =
    or_next table n.0 (column_wrong (column_in found n.0) n.1) (needed_misfit table found rest)

-- Whether the column of this name has this place in a row.
abbrev pub has_place : Table → ℕ → Option ℕ → Bool
has_place found place None = false
has_place found place (Some at) = place_of found at == place

abbrev pub is_at : Table → ℕ → Name → Bool
is_at found place name = has_place found place (column_named found name)

-- Whether a primary key of these places is the shop's: serial and from_count of price_change, id of token_order, and serial of
-- the others.
abbrev pub is_keyed : ShopTable → Table → List ℕ → Bool
is_keyed PriceChange found (serial ∷ from ∷ []) = is_at found serial (codes "serial") && is_at found from (codes "from_count")
is_keyed Device found (serial ∷ []) = is_at found serial (codes "serial")
is_keyed Raised found (serial ∷ []) = is_at found serial (codes "serial")
is_keyed TokenOrder found (id ∷ []) = is_at found id (codes "id")
is_keyed _ _ _ = false

abbrev pub key_misfit : ShopTable → Table → Option Misfit
key_misfit table found =
    or_next table (key_name table) (if is_keyed table found found.primary then None else Some OtherKey) None

-- Whether the shop's statements don't name this column.
abbrev pub is_besides : ShopTable → Name → Bool
is_besides table name = not (list_any (λ n. same_name name n.0) (needs_of table))

-- Whether a place is among these.
abbrev pub is_among : List ℕ → ℕ → Bool
is_among places place = list_any (λ p. p == place) places

-- Whether a value is NULL.
abbrev pub is_null : Value → Bool
is_null value.Null = true
is_null _ = false

-- Whether no row can be added without a value for a column: its default is computed, and isn't the time; or it is NULL, and the
-- column takes none.
abbrev pub must_be_given : Table → ℕ → Column → Bool
must_be_given found at c =
    let place = place_of found at in
    if is_among found.computed place then not (is_among found.stamps.places place) else c.not_null && is_null c.default

-- The first of the columns besides, from this one on, without a value for which no row can be added.
abbrev pub besides_misfit : ShopTable → Table → ℕ → List Column → Option Misfit
besides_misfit table found at [] = None
besides_misfit table found at (c ∷ rest) =
    or_next table c.name (if is_besides table c.name && must_be_given found at c then Some MustBeGiven else None)
    (besides_misfit table found (at + 1) rest)

-- What is wrong with a table: with its needed columns, then with its primary key, then with its columns besides.
abbrev pub table_misfit : ShopTable → Table → Option Misfit
table_misfit table found =
    option_or (needed_misfit table found (needs_of table))
    (option_or (key_misfit table found) (besides_misfit table found 0 found.columns))

-- What is wrong with what has the name of a table. None at all is right.
abbrev pub found_misfit : ShopTable → Bool → Option Table → Option Misfit
found_misfit table taken (Some found) = table_misfit table found
found_misfit table taken None = or_next table [] (if taken then Some NoTable else None) None

unfoldable pub name_misfit : Schema → ShopTable → Option Misfit
name_misfit schema table = found_misfit table (is_taken schema (name_of table)) (table_in schema (name_of table))

-- What is wrong with the shop's tables, in this order. One that is absent is right.
unfoldable pub misfit_of : Schema → Option Misfit
misfit_of schema =
    option_or (name_misfit schema Device) (option_or (name_misfit schema TokenOrder)
    (option_or (name_misfit schema Raised) (name_misfit schema PriceChange)))

-- Whether a table is there, and whether all are.
abbrev pub is_there : Schema → ShopTable → Bool
is_there schema table = is_some (table_in schema (name_of table))

unfoldable pub are_there : Schema → Bool
are_there schema = is_there schema Device && (is_there schema TokenOrder && (is_there schema Raised && is_there schema PriceChange))

-- The error names what is wrong, or there is no memory to name it.
abbrev pub Refuses : Option Misfit → SchemaError → Type 0
Refuses None e = ⊥
Refuses (Some m) e = (e ≡ error.Memory) ⊎ (e ≡ error.Misfit m)
