-- What the statement says that asks for an order with the row of its device.
use Rattle.std.proofs.Common.{◌≡◌, List, ℕ, refl, codes, [], ◌∷◌, None, false, pos, negsuc}
use Rattle.sqlite.specs.Command.TheVariants.{Select}
use Rattle.sqlite.specs.Query.{Query, Join, end, inner, counted, left}
use Rattle.sqlite.specs.Term.{Term, lit, col}
use Rattle.sqlite.specs.declared.types.Value.TheVariants.{Int}
use Rattle.sqlite_tied.specs.Compute.{everything}
use Rattle.sqlite.specs.Listing.{understood, reads_listing}
use Rattle.sqlite.proofs.Callers.{IsPlain, command_of}
use Rattle.shop_tables.specs.Schema.{shop_schema, order_tree, device_tree, raised_tree}
use Rattle.shop_tables.specs.declared.statements.TheConstants.{ORDER}
use Rattle.shop_tables.proofs.Commands.{same}

abbrev pub order_project : List Term
order_project = col 1 1 ∷ col 1 2 ∷ col 1 3 ∷ col 1 4 ∷ col 1 5 ∷ col 1 6 ∷ col 1 7 ∷ col 1 8
    ∷ col 2 1 ∷ col 2 2 ∷ col 2 3 ∷ col 2 4 ∷ col 2 5 ∷ col 2 6 ∷ col 2 7 ∷ col 2 8 ∷ col 2 9 ∷ col 2 10 ∷ col 2 11 ∷ col 3 0 ∷ []

-- what is done at an order and a row: is the order's serial among the raised ones?
abbrev pub order_flag : Join
order_flag = counted 1 (inner raised_tree end) (same (col 3 1) (col 1 2) ∷ []) end

-- what is done at an order: the rows with its serial
abbrev pub order_rows : Join
order_rows = left device_tree (same (col 2 1) (col 1 2) ∷ []) order_flag

abbrev pub order_query : Query
order_query = record {
  from = inner order_tree order_rows;
  filter = same (col 1 1) (col 0 0) ∷ [];
  group = None;
  project = order_project;
  distinct = false;
  collations = [];
  order = [];
  limit = lit (Int (negsuc 0));
  offset = lit (Int (pos 0));
}

abbrev pub order_names : List (List ℕ)
order_names = codes "id" ∷ codes "serial" ∷ codes "ask" ∷ codes "asked" ∷ codes "kind" ∷ codes "count" ∷ codes "value" ∷ codes "token"
    ∷ codes "serial" ∷ codes "secret" ∷ codes "start" ∷ codes "divider" ∷ codes "form" ∷ codes "price" ∷ codes "total" ∷ codes "paid" ∷ codes "rest" ∷ codes "last" ∷ codes "closed"
    ∷ codes "EXISTS (SELECT 1 FROM raised AS r WHERE r.serial = o.serial)" ∷ []

pub order_is : command_of (understood shop_schema ORDER.now) ≡ Select (record { lets = []; body = order_query }) order_names
unfolding understood everything
order_is = refl

pub order_plain : IsPlain (understood shop_schema ORDER.now)
unfolding understood everything
order_plain = (refl, refl)

pub order_unlisted : reads_listing shop_schema ORDER.now ≡ false
unfolding understood everything
order_unlisted = refl
