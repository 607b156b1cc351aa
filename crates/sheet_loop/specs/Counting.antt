-- What the last word counts.
use Rattle.std.specs.Prelude.{◌≡◌, ℕ, ◌≤◌, true, ◌⊎◌, ◌↔◌, List, [], ◌∷◌, length, IsSome, Ok}
use Rattle.ledger_spec.specs.Tables.{order_of}
use Rattle.run_spec.specs.Meaning.{trimmed, is_ledger_text}
use Rattle.sheet_book.specs.declared.places.Key.{Key}
use Rattle.sheet_book.specs.Reports.{AreReportedOnce, has_key, totals_at, totals_of}
use Rattle.sheet_text.specs.declared.asks.Ask.TheVariants as ask_is
use Rattle.sheet_text.specs.declared.asks.Sold.{Sold}
use Rattle.sheet_text.specs.Asks.{ask_in}
use Rattle.sheet_text.specs.Ids.{id_of}
use Rattle.sheet_loop.specs.Office.{Office, behind, answers_to, last_word}

-- The last word behind these lines.
abbrev pub last_behind : (List ℕ → ℕ → ℕ) → List (List ℕ) → Office → List ℕ
last_behind next lines office = (last_word (behind office (answers_to next lines office))).text

-- The line reports this sale.
pub record Reports (line : List ℕ) (sold : Sold) : Type 0 where
  pub short : length line ≤ 4096
  pub begins : is_ledger_text (trimmed line) ≡ true
  pub asks : ask_in (trimmed line) ≡ Ok (ask_is.Sold sold)

-- Each of these lines reports a sale.
abbrev pub ReportSales : List (List ℕ) → Type 0
ReportSales [] = Unit {0}
ReportSales (line ∷ lines) = ((sold : Sold) × Reports line sold) × ReportSales lines

-- The line is among these.
abbrev pub IsIn : List ℕ → List (List ℕ) → Type 0
IsIn line [] = ⊥
IsIn line (first ∷ lines) = (line ≡ first) ⊎ IsIn line lines

-- The same lines, in whatever order, and however often.
abbrev pub SameLines : List (List ℕ) → List (List ℕ) → Type 0
SameLines xs ys = (line : List ℕ) → (IsIn line xs ↔ IsIn line ys)

-- The last word counts these places, each of them once: of each of them a sale was reported, each has an order of the
-- shop, and no two of them have one order.
pub record CountsTokens (office : Office) : Type 0 where
  pub places : List Key
  pub once : AreReportedOnce places office.reports
  pub counted : totals_of office.reports ≡ totals_at places office.reports
  pub sold : (place : Key) → has_key places place ≡ true
      → IsSome (order_of office.tables (id_of place.sheet place.place))
  pub differ : (a b : Key) → id_of a.sheet a.place ≡ id_of b.sheet b.place → a ≡ b
