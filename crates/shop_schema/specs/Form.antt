-- The form that the shop's tables must have.
use Rattle.std.specs.Prelude.{ℕ, List, [], ◌∷◌, codes}
use Rattle.shop_schema.specs.declared.form.ShopTable.{ShopTable}
use Rattle.shop_schema.specs.declared.form.ShopTable.TheVariants.{Device, TokenOrder, Raised, PriceChange}
use Rattle.shop_schema.specs.declared.form.Holds.{Holds}
use Rattle.shop_schema.specs.declared.form.Holds.TheVariants.{Words, Whole, Bare}
use Rattle.shop_schema.specs.declared.form.Need.{Need}

-- A name, as its bytes.
abbrev pub Name : Type 0
Name = List ℕ

-- The name of a table.
abbrev pub name_of : ShopTable → Name
name_of Device = codes "device"
name_of TokenOrder = codes "token_order"
name_of Raised = codes "raised"
name_of PriceChange = codes "price_change"

-- A column that holds a text, a whole number, and bytes.
abbrev pub words : Name → Name × Holds
words name = (name, Words)

abbrev pub whole : Name → Name × Holds
whole name = (name, Whole)

abbrev pub bare : Name → Name × Holds
bare name = (name, Bare)

-- The columns that the shop needs of a table, in the order in which they are looked at.
abbrev pub needs_of : ShopTable → List (Name × Holds)
needs_of Device = words (codes "serial") ∷ bare (codes "secret") ∷ whole (codes "start") ∷ whole (codes "divider")
    ∷ whole (codes "form") ∷ whole (codes "price") ∷ whole (codes "total") ∷ whole (codes "paid") ∷ whole (codes "rest")
    ∷ whole (codes "last") ∷ whole (codes "closed") ∷ []
needs_of TokenOrder = words (codes "id") ∷ words (codes "serial") ∷ whole (codes "ask") ∷ whole (codes "asked")
    ∷ whole (codes "kind") ∷ whole (codes "count") ∷ whole (codes "value") ∷ whole (codes "token") ∷ []
needs_of Raised = words (codes "serial") ∷ []
needs_of PriceChange = words (codes "serial") ∷ whole (codes "from_count") ∷ whole (codes "price") ∷ []

-- The first column of the primary key of a table.
abbrev pub key_name : ShopTable → Name
key_name TokenOrder = codes "id"
key_name _ = codes "serial"

-- A column as the code lists it.
abbrev pub need : Need → Name × Holds
need n = (n.name.now, n.holds)
