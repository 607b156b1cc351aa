-- What the statements with ORDER BY say.
use Rattle.std.proofs.Common.{◌≡◌, List, ℕ, refl, codes, [], ◌∷◌, true, false}
use Rattle.sqlite.specs.Command.TheVariants.{Select}
use Rattle.sqlite.specs.Query.{Query, end, inner, counted}
use Rattle.sqlite_value.specs.declared.keys.Key.{Key}
use Rattle.sqlite.specs.Collation.TheVariants.{Binary}
use Rattle.sqlite.specs.Term.{Term, col}
use Rattle.sqlite_tied.specs.Compute.{everything}
use Rattle.sqlite.specs.Listing.{understood, reads_listing}
use Rattle.sqlite.proofs.Callers.{IsPlain, command_of}
use Rattle.shop_tables.specs.Schema.{shop_schema, order_tree, device_tree, raised_tree, change_tree}
use Rattle.shop_tables.specs.declared.statements.TheConstants.{DEVICES, ORDERS, ORDERS_BACK, PRICES}
use Rattle.shop_tables.proofs.Commands.{same, device_project, device_names}
use Rattle.shop_tables.proofs.ListingShown.{listing}

abbrev pub rising_key : Key
rising_key = record { collation = Binary; descending = false }

abbrev pub falling_key : Key
falling_key = record { collation = Binary; descending = true }

-- the row's serial is the one that is given
abbrev pub of_given : ℕ → List Term
of_given place = same (col 1 place) (col 0 0) ∷ []

abbrev pub order_project : List Term
order_project = col 1 1 ∷ col 1 2 ∷ col 1 3 ∷ col 1 4 ∷ col 1 5 ∷ col 1 6 ∷ col 1 7 ∷ col 1 8 ∷ []

abbrev pub order_names : List (List ℕ)
order_names = codes "id" ∷ codes "serial" ∷ codes "ask" ∷ codes "asked" ∷ codes "kind" ∷ codes "count" ∷ codes "value" ∷ codes "token" ∷ []

abbrev pub by_count : List (Term × Key)
by_count = (col 1 6, rising_key) ∷ (col 1 1, rising_key) ∷ []

abbrev pub orders_query : Query
orders_query = listing (inner order_tree end) (of_given 2) order_project by_count

pub orders_is : command_of (understood shop_schema ORDERS.now) ≡ Select (record { lets = []; body = orders_query }) order_names
unfolding understood everything
orders_is = refl

pub orders_plain : IsPlain (understood shop_schema ORDERS.now)
unfolding understood everything
orders_plain = (refl, refl)

pub orders_unlisted : reads_listing shop_schema ORDERS.now ≡ false
unfolding understood everything
orders_unlisted = refl

abbrev pub by_rowid : List (Term × Key)
by_rowid = (col 1 0, falling_key) ∷ []

abbrev pub orders_back_query : Query
orders_back_query = listing (inner order_tree end) (of_given 2) order_project by_rowid

pub orders_back_is : command_of (understood shop_schema ORDERS_BACK.now) ≡ Select (record { lets = []; body = orders_back_query }) order_names
unfolding understood everything
orders_back_is = refl

pub orders_back_plain : IsPlain (understood shop_schema ORDERS_BACK.now)
unfolding understood everything
orders_back_plain = (refl, refl)

pub orders_back_unlisted : reads_listing shop_schema ORDERS_BACK.now ≡ false
unfolding understood everything
orders_back_unlisted = refl

abbrev pub change_project : List Term
change_project = col 1 1 ∷ col 1 2 ∷ col 1 3 ∷ []

abbrev pub change_names : List (List ℕ)
change_names = codes "serial" ∷ codes "from_count" ∷ codes "price" ∷ []

abbrev pub by_from : List (Term × Key)
by_from = (col 1 2, rising_key) ∷ []

abbrev pub prices_query : Query
prices_query = listing (inner change_tree end) (of_given 1) change_project by_from

pub prices_is : command_of (understood shop_schema PRICES.now) ≡ Select (record { lets = []; body = prices_query }) change_names
unfolding understood everything
prices_is = refl

pub prices_plain : IsPlain (understood shop_schema PRICES.now)
unfolding understood everything
prices_plain = (refl, refl)

pub prices_unlisted : reads_listing shop_schema PRICES.now ≡ false
unfolding understood everything
prices_unlisted = refl

abbrev pub by_serial : List (Term × Key)
by_serial = (col 1 1, rising_key) ∷ []

abbrev pub devices_query : Query
devices_query = listing (inner device_tree (counted 1 (inner raised_tree end) (same (col 2 1) (col 1 1) ∷ []) end)) [] device_project by_serial

pub devices_is : command_of (understood shop_schema DEVICES.now) ≡ Select (record { lets = []; body = devices_query }) device_names
unfolding understood everything
devices_is = refl

pub devices_plain : IsPlain (understood shop_schema DEVICES.now)
unfolding understood everything
devices_plain = (refl, refl)

pub devices_unlisted : reads_listing shop_schema DEVICES.now ≡ false
unfolding understood everything
devices_unlisted = refl
