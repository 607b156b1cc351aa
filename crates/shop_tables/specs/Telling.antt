-- What a connection tells of the shop's tables, and what a call over it does to them.
use Rattle.std.specs.Prelude.{◌≡◌, false, IsTrue}
use Rattle.sqlite.specs.State.{State, HasCleanDisk, Survives}
use Rattle.sqlite.specs.Effect.{Database}
use Rattle.sqlite.specs.Tree.{Trees}
use Rattle.ledger_spec.specs.Tables.{Tables, Kept}
use Rattle.shop_tables.specs.Schema.{shop_schema}
use Rattle.shop_tables.specs.Stored.{Hold}

-- The database has the shop's schema, and these tables stand in it.
abbrev pub Has : Database → Tables → Type 0
Has database tables = (database.schema ≡ shop_schema) × Hold database.trees tables

-- The connection is open on the shop's database, in no transaction, and these are its tables.
pub record Tells (s : State) (tables : Tables) : Type 0 where
  pub is_open : IsTrue s.is_open
  pub mode : s.in_transaction ≡ false
  pub settled : s.now ≡ s.committed
  pub schema : s.now.schema ≡ shop_schema
  pub hold : Hold s.now.trees tables

-- These tables may be what the next look at the database finds, also after a crash.
pub record MayHold (s : State) (tables : Tables) : Type 0 where
  pub clean : HasCleanDisk s
  pub trees : Trees
  pub may : s.may_leave trees
  pub hold : Hold trees tables

-- What is told after a write that went well: the tables that were told, changed, where they were as the write asks.
abbrev pub Wrote : (Tables → Type 0) → (Tables → Tables) → State → State → Type 0
Wrote asked change old new = (tables : Tables) → Tells old tables → Kept tables → asked tables → Tells new (change tables)

-- What was told is told still.
abbrev pub StillTells : State → State → Type 0
StillTells old new = (tables : Tables) → Tells old tables → Tells new tables

-- What was told is told still, as long as the connection is open.
abbrev pub Stays : State → State → Type 0
Stays old new = IsTrue new.is_open → StillTells old new

-- Whatever a write came to, a crash leaves what it would have left before, or the whole change of what was told.
abbrev pub WritesWhole : (Tables → Type 0) → (Tables → Tables) → State → State → Type 0
WritesWhole asked change old new =
    Survives old new (λ trees. (tables : Tables) → Tells old tables → Kept tables → asked tables → Hold trees (change tables))

-- A call that only asks: a crash leaves what it would have left before.
abbrev pub WritesNothing : State → State → Type 0
WritesNothing old new = Survives old new (λ _. (tables : Tables) → Tells old tables → ⊥)
