-- The schema of the shop's database.
use Rattle.std.specs.Prelude.{true, false, [], ◌∷◌, None, codes, List, ℕ}
use Rattle.sqlite.specs.Collation.TheVariants.{Binary}
use Rattle.sqlite.specs.declared.types.Value.TheVariants.{Null}
use Rattle.sqlite_value.specs.Keys.{plain}
use Rattle.sqlite.specs.Table.{Table}
use Rattle.sqlite.specs.Schema.{Schema}
use Rattle.sqlite.specs.Kind.{Kind}
use Rattle.sqlite.specs.Kind.TheVariants.{Integer, Text, Any}
use Rattle.sqlite_schema.specs.declared.schema.Column.{Column}
use Rattle.sqlite_schema.specs.declared.schema.Reference.{Reference}
use Rattle.sqlite_schema.specs.declared.schema.Index.{Index}
use Rattle.sqlite_schema.specs.declared.schema.Action.TheVariants.{NoAction}

-- A column that isn't empty.
abbrev pub needed : List ℕ → Kind → Column
needed name kind = record { name = name; kind = kind; is_strict = false; not_null = true; default = Null; collation = Binary }

-- The column names the row of a device.
abbrev pub of_device : ℕ → Reference
of_device place = record { columns = place ∷ []; parent = codes "device"; parent_columns = codes "serial" ∷ []; on_delete = NoAction; on_update = NoAction; is_deferred = false }

-- A table with one key, which is no rowid.
abbrev pub keyed : List ℕ → ℕ → List Column → List ℕ → List Reference → Table
keyed name tree columns key references = record {
  name = name;
  tree = tree;
  columns = columns;
  key = None;
  primary = key;
  uniques = key ∷ [];
  orders = plain ∷ [];
  checks = [];
  references = references;
  computed = [];
  stamps = record { places = []; terms = []; formats = [] };
  is_counted = false;
}

-- The trees of the tables.
abbrev pub device_tree : ℕ
device_tree = 0

abbrev pub order_tree : ℕ
order_tree = 2

abbrev pub raised_tree : ℕ
raised_tree = 5

abbrev pub change_tree : ℕ
change_tree = 7

abbrev pub device : Table
device = keyed (codes "device") device_tree
    (needed (codes "serial") Text ∷ needed (codes "secret") Any ∷ needed (codes "start") Integer ∷ needed (codes "divider") Integer
    ∷ needed (codes "form") Integer ∷ needed (codes "price") Integer ∷ needed (codes "total") Integer ∷ needed (codes "paid") Integer
    ∷ needed (codes "rest") Integer ∷ needed (codes "last") Integer ∷ needed (codes "closed") Integer ∷ [])
    (1 ∷ []) []

abbrev pub token_order : Table
token_order = keyed (codes "token_order") order_tree
    (needed (codes "id") Text ∷ needed (codes "serial") Text ∷ needed (codes "ask") Integer ∷ needed (codes "asked") Integer
    ∷ needed (codes "kind") Integer ∷ needed (codes "count") Integer ∷ needed (codes "value") Integer ∷ needed (codes "token") Integer ∷ [])
    (1 ∷ []) (of_device 2 ∷ [])

abbrev pub raised : Table
raised = keyed (codes "raised") raised_tree (needed (codes "serial") Text ∷ []) (1 ∷ []) (of_device 1 ∷ [])

abbrev pub price_change : Table
price_change = keyed (codes "price_change") change_tree
    (needed (codes "serial") Text ∷ needed (codes "from_count") Integer ∷ needed (codes "price") Integer ∷ [])
    (1 ∷ 2 ∷ []) (of_device 1 ∷ [])

-- The index that goes with the key of a table.
abbrev pub key_index : List ℕ → ℕ → ℕ → List ℕ → Index
key_index name tree table columns = record { name = name; tree = tree; table = table; columns = columns; order = plain; is_unique = true }

abbrev pub by_device : Index
by_device = record { name = codes "token_order_by_device"; tree = 4; table = order_tree; columns = 2 ∷ 6 ∷ 1 ∷ []; order = plain; is_unique = false }

abbrev pub no_schema : Schema
no_schema = record { tables = []; indexes = []; views = [] }

abbrev pub shop_schema : Schema
shop_schema = record {
  tables = device ∷ token_order ∷ raised ∷ price_change ∷ [];
  indexes = key_index (codes "sqlite_autoindex_device_1") 1 device_tree (1 ∷ []) ∷ key_index (codes "sqlite_autoindex_token_order_1") 3 order_tree (1 ∷ [])
      ∷ by_device ∷ key_index (codes "sqlite_autoindex_raised_1") 6 raised_tree (1 ∷ []) ∷ key_index (codes "sqlite_autoindex_price_change_1") 8 change_tree (1 ∷ 2 ∷ []) ∷ [];
  views = [];
}
