-- What the reports of agents come to: the same in whatever order they come, and however often each of them comes.
use Rattle.std.specs.Prelude.{◌≡◌, ℕ, ◌+◌, Bool, true, false, not, ◌&&◌, ◌||◌, ◌==◌, nat_lt, List, [], ◌∷◌, length}
use Rattle.std.specs.Prelude.{Option, Some, None, ◌⊎◌, ◌↔◌, if◌then◌else◌}
use Rattle.std.specs.List.{list_all, list_any}
use Rattle.std.specs.Option.{option_map}
use Rattle.ledger_spec.specs.Names.{same_name}
use Rattle.ledger_spec.specs.Sorted.{name_before}
use Rattle.sheet_book.specs.declared.places.Key.{Key}
use Rattle.sheet_book.specs.declared.sales.Sale.{Sale}
use Rattle.sheet_book.specs.declared.sales.Kept.{Kept}
use Rattle.sheet_book.specs.declared.sales.Totals.{Totals}

-- What an agent reports: the token at this place of a sheet was sold by this sale.
pub record Report : Type 0 where
  pub key : Key
  pub sale : Sale

-- A place of the sheet with this name.
abbrev pub key_at : List ℕ → ℕ → Key
key_at sheet place = record { sheet = sheet; place = place }

-- The report that the token at a place of a sheet was sold by the sale with this name, for this much money.
abbrev pub report_of : List ℕ → ℕ → List ℕ → ℕ → Report
report_of sheet place name money = record { key = key_at sheet place; sale = record { name = name; money = money } }

-- Whether two places are one: the same number on the same sheet.
abbrev pub same_key : Key → Key → Bool
same_key a b = same_name a.sheet b.sheet && (a.place == b.place)

-- Whether two sales are one: the same name, and the same money.
abbrev pub same_sale : Sale → Sale → Bool
same_sale a b = same_name a.name b.name && (a.money == b.money)

-- Whether a sale stands before another: by the bytes of its name, and by its money where the names are one.
abbrev pub sale_before : Sale → Sale → Bool
sale_before a b = name_before a.name b.name || (same_name a.name b.name && nat_lt a.money b.money)

-- The sales that were reported of a place, the newest report first.
abbrev pub sales_of : Key → List Report → List Sale
sales_of key [] = []
sales_of key (report ∷ reports) =
    if same_key key report.key then report.sale ∷ sales_of key reports else sales_of key reports

-- The one of two sales that stands before the other. Where there is no other, it is the sale itself.
abbrev pub lesser : Sale → Option Sale → Sale
lesser sale None = sale
lesser sale (Some other) = if sale_before sale other then sale else other

-- The least of some sales. It is the one that counts, whichever was reported last.
abbrev pub least : List Sale → Option Sale
least [] = None
least (sale ∷ sales) = Some (lesser sale (least sales))

-- Whether two of the sales differ, so that somebody has to ask the agent.
abbrev pub differ : List Sale → Bool
differ [] = false
differ (sale ∷ sales) = not (list_all (same_sale sale) sales) || differ sales

-- What is kept of a place: the least sale that was reported, and whether two of them differ. Nothing where none was.
abbrev pub kept_of : Key → List Report → Option Kept
kept_of key reports =
    let sales : List Sale = sales_of key reports in
    option_map (λ sale. record { sale = sale; disputed = differ sales }) (least sales)

-- Whether a place is among these.
abbrev pub has_key : List Key → Key → Bool
has_key keys key = list_any (same_key key) keys

-- No place is among these twice.
abbrev pub is_distinct : List Key → Bool
is_distinct [] = true
is_distinct (key ∷ keys) = not (has_key keys key) && is_distinct keys

-- The places of which there is a report, each once.
abbrev pub keys_of : List Report → List Key
keys_of [] = []
keys_of (report ∷ reports) =
    if has_key (keys_of reports) report.key then keys_of reports else report.key ∷ keys_of reports

-- The sum over places.
abbrev pub sum_over : (Key → ℕ) → List Key → ℕ
sum_over f [] = 0
sum_over f (key ∷ keys) = f key + sum_over f keys

-- The money of a sale, or 0 where there is none.
abbrev pub money_in : Option Sale → ℕ
money_in None = 0
money_in (Some sale) = sale.money

-- The money that was taken for the token at a place.
abbrev pub money_at : List Report → Key → ℕ
money_at reports key = money_in (least (sales_of key reports))

-- 1 for a place of which two reports differ.
abbrev pub dispute_at : List Report → Key → ℕ
dispute_at reports key = if differ (sales_of key reports) then 1 else 0

-- What the reports of these places come to: how many places they are, the sum of the money that was taken for their
-- tokens, and of how many of them two reports differ.
abbrev pub totals_at : List Key → List Report → Totals
totals_at keys reports =
    record {
      tokens = length keys;
      money = sum_over (money_at reports) keys;
      disputes = sum_over (dispute_at reports) keys;
    }

-- What all reports come to.
abbrev pub totals_of : List Report → Totals
totals_of reports = totals_at (keys_of reports) reports

-- A report is among these.
abbrev pub IsAmong : Report → List Report → Type 0
IsAmong report [] = ⊥
IsAmong report (first ∷ reports) = (report ≡ first) ⊎ IsAmong report reports

-- Two lists have the same reports, in whatever order, and however often.
abbrev pub SameReports : List Report → List Report → Type 0
SameReports xs ys = (report : Report) → (IsAmong report xs ↔ IsAmong report ys)

-- There is a report of this place.
abbrev pub IsReported : Key → List Report → Type 0
IsReported key reports = (sale : Sale) × IsAmong (record { key = key; sale = sale }) reports

-- These are the places of which there is a report, and no other, and each of them once.
pub record AreReportedOnce (keys : List Key) (reports : List Report) : Type 0 where
  pub once : is_distinct keys ≡ true
  pub reported : (key : Key) → (has_key keys key ≡ true) ↔ IsReported key reports
