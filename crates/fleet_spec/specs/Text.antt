-- What is written of a fleet.
use Rattle.std.specs.Prelude.{ℕ, List, ◌++◌, [], ◌∷◌, codes}
use Rattle.paygo_spec.specs.Text.{with_number}
use Rattle.fleet_spec.specs.declared.Totals.{Totals}

-- How many devices and days there were.
abbrev pub with_size : ℕ → ℕ → List ℕ
with_size devices days = with_number (with_number (codes "fleet") devices) days

-- Behind that, how many orders, and how many entries were accepted, were old, were invalid and came while entries were blocked;
-- how many events were cut off, and how many seconds are left.
abbrev pub with_entries : List ℕ → Totals → List ℕ
with_entries front totals =
    let orders = with_number (front ++ codes " orders") totals.orders in
    let accepted = with_number (orders ++ codes " accepted") totals.accepted in
    let old = with_number (accepted ++ codes " old") totals.old in
    let invalid = with_number (old ++ codes " invalid") totals.invalid in
    with_number (invalid ++ codes " blocked") totals.blocked

abbrev pub with_totals : List ℕ → Totals → List ℕ
with_totals front totals =
    with_number (with_number (with_entries front totals ++ codes " down") totals.down ++ codes " left") totals.left

-- The line that a fleet of so many devices and days writes.
unfoldable pub text_of_fleet : ℕ → ℕ → Totals → List ℕ
text_of_fleet devices days totals = with_totals (with_size devices days) totals ++ 10 ∷ []
