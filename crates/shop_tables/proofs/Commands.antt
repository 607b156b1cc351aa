-- What the statements say.
use Rattle.std.proofs.Common.{◌≡◌, List, ℕ, refl, codes, [], ◌∷◌, None, false, pos, negsuc}
use Rattle.sqlite.specs.Command.TheVariants.{Insert, Select, Update}
use Rattle.sqlite.specs.Source.TheVariants.{Values}
use Rattle.sqlite.specs.Query.{Query, end, inner, counted}
use Rattle.sqlite_sql.specs.declared.ops.BinaryOp.TheVariants.{Compare}
use Rattle.sqlite_sql.specs.declared.ops.CompareOp.TheVariants.{Eq}
use Rattle.sqlite.specs.Collation.TheVariants.{Binary}
use Rattle.sqlite.specs.Term.{Term, lit, col, op2}
use Rattle.sqlite.specs.declared.types.Value.TheVariants.{Null, Int}
use Rattle.sqlite_tied.specs.Compute.{everything}
use Rattle.sqlite.specs.Listing.{understood, reads_listing}
use Rattle.sqlite.proofs.Callers.{IsPlain, command_of}
use Rattle.shop_tables.specs.Schema.{shop_schema, device_tree, raised_tree}
use Rattle.shop_tables.specs.declared.statements.TheConstants.{DEVICE, ADD_DEVICE, PUT_DEVICE, ADD_ORDER, RAISE, ADD_PRICE}

abbrev pub order_terms : List Term
order_terms = lit Null ∷ col 0 0 ∷ col 0 1 ∷ col 0 2 ∷ col 0 3 ∷ col 0 4 ∷ col 0 5 ∷ col 0 6 ∷ col 0 7 ∷ []

abbrev pub device_terms : List Term
device_terms = lit Null ∷ col 0 0 ∷ col 0 1 ∷ col 0 2 ∷ col 0 3 ∷ col 0 4 ∷ col 0 5 ∷ col 0 6 ∷ col 0 7 ∷ col 0 8 ∷ col 0 9 ∷ col 0 10 ∷ []

pub add_order_is : command_of (understood shop_schema ADD_ORDER.now) ≡ Insert 1 (Values order_terms 9)
unfolding understood everything
add_order_is = refl

pub add_order_plain : IsPlain (understood shop_schema ADD_ORDER.now)
unfolding understood everything
add_order_plain = (refl, refl)

pub add_device_is : command_of (understood shop_schema ADD_DEVICE.now) ≡ Insert 0 (Values device_terms 12)
unfolding understood everything
add_device_is = refl

pub add_device_plain : IsPlain (understood shop_schema ADD_DEVICE.now)
unfolding understood everything
add_device_plain = (refl, refl)

abbrev pub same : Term → Term → Term
same a b = op2 (Compare Eq Binary) a b

abbrev pub device_project : List Term
device_project = col 1 1 ∷ col 1 2 ∷ col 1 3 ∷ col 1 4 ∷ col 1 5 ∷ col 1 6 ∷ col 1 7 ∷ col 1 8 ∷ col 1 9 ∷ col 1 10 ∷ col 1 11 ∷ col 2 0 ∷ []

abbrev pub device_query : Query
device_query = record {
  from = inner device_tree (counted 1 (inner raised_tree end) (same (col 2 1) (col 1 1) ∷ []) end);
  filter = same (col 1 1) (col 0 0) ∷ [];
  group = None;
  project = device_project;
  distinct = false;
  collations = [];
  order = [];
  limit = lit (Int (negsuc 0));
  offset = lit (Int (pos 0));
}

abbrev pub device_names : List (List ℕ)
device_names = codes "serial" ∷ codes "secret" ∷ codes "start" ∷ codes "divider" ∷ codes "form" ∷ codes "price" ∷ codes "total" ∷ codes "paid" ∷ codes "rest" ∷ codes "last" ∷ codes "closed" ∷ codes "EXISTS (SELECT 1 FROM raised AS r WHERE r.serial = d.serial)" ∷ []

pub device_is : command_of (understood shop_schema DEVICE.now) ≡ Select (record { lets = []; body = device_query }) device_names
unfolding understood everything
device_is = refl

pub device_plain : IsPlain (understood shop_schema DEVICE.now)
unfolding understood everything
device_plain = (refl, refl)

pub device_unlisted : reads_listing shop_schema DEVICE.now ≡ false
unfolding understood everything
device_unlisted = refl

abbrev pub put_project : List Term
put_project = col 1 0 ∷ col 1 0 ∷ col 1 1 ∷ col 0 1 ∷ col 0 2 ∷ col 0 3 ∷ col 0 4 ∷ col 0 5 ∷ col 0 6 ∷ col 0 7 ∷ col 0 8 ∷ col 0 9 ∷ col 0 10 ∷ []

abbrev pub put_query : Query
put_query = record {
  from = inner device_tree (counted 1 (inner raised_tree end) (same (col 2 1) (col 0 0) ∷ []) end);
  filter = same (col 1 1) (col 0 0) ∷ same (col 2 0) (col 0 11) ∷ [];
  group = None;
  project = put_project;
  distinct = false;
  collations = [];
  order = [];
  limit = lit (Int (negsuc 0));
  offset = lit (Int (pos 0));
}

pub put_device_is : command_of (understood shop_schema PUT_DEVICE.now) ≡ Update 0 (record { lets = []; body = put_query })
unfolding understood everything
put_device_is = refl

pub put_device_plain : IsPlain (understood shop_schema PUT_DEVICE.now)
unfolding understood everything
put_device_plain = (refl, refl)

pub raise_is : command_of (understood shop_schema RAISE.now) ≡ Insert 2 (Values (lit Null ∷ col 0 0 ∷ []) 2)
unfolding understood everything
raise_is = refl

pub raise_plain : IsPlain (understood shop_schema RAISE.now)
unfolding understood everything
raise_plain = (refl, refl)

pub add_price_is : command_of (understood shop_schema ADD_PRICE.now) ≡ Insert 3 (Values (lit Null ∷ col 0 0 ∷ col 0 1 ∷ col 0 2 ∷ []) 4)
unfolding understood everything
add_price_is = refl

pub add_price_plain : IsPlain (understood shop_schema ADD_PRICE.now)
unfolding understood everything
add_price_plain = (refl, refl)
