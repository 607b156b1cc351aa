-- What a check of a whole shop's tables finds.
use Rattle.std.specs.Prelude.{◌≡◌, ℕ, ◌-◌, ◌^◌, Bool, ◌&&◌, ◌==◌, List, [], ◌∷◌, ◌++◌, length, sum_by, min, find, Option, Some, None, Result}
use Rattle.std.specs.Str.{bytes_eq}
use Rattle.ledger_spec.specs.declared.Row.{Row}
use Rattle.ledger_spec.specs.declared.LedgerFault.{LedgerFault}
use Rattle.ledger_spec.specs.Tables.{Tables}
use Rattle.ledger_spec.specs.Replay.{orders_back}
use Rattle.ledger_spec.specs.Sorted.{all_rows}
use Rattle.ledger_spec.specs.Applied.{Blames}
use Rattle.ledger_spec.specs.Keeper.{KeeperView}
use Rattle.table_flaws.specs.declared.flaw.Flaw.{Flaw}
use Rattle.table_flaws.specs.declared.findings.Twins.{Twins}
use Rattle.table_flaws.specs.declared.findings.Findings.{Findings as Answered}
use Rattle.table_flaws.specs.Flaws.{flaws}

-- What a check found: how many devices there are; how many orders they have, each of which was looked at (a number that
-- stands still at 2^64 - 1); what is wrong with them; and which devices take each other's tokens.
pub record Findings : Type 0 where
  pub rows : ℕ
  pub orders : ℕ
  pub flaws : List Flaw
  pub twins : List Twins

-- What an answer of the check says that it found.
abbrev pub findings_of : Answered → Findings
findings_of answer =
    record { rows = answer.rows; orders = answer.orders; flaws = answer.flaws.items; twins = answer.twins.items }

-- Whether two rows have one key and one starting code. Each of the two devices takes the tokens that are sold for the
-- other: so one customer's payment gives both of them units.
abbrev pub share_chain : Row → Row → Bool
share_chain a b = bytes_eq a.key b.key && (a.start == b.start)

-- The pair of an earlier row, where there is one, and this row.
abbrev pub twins_with : Option Row → Row → List Twins
twins_with None row = []
twins_with (Some first) row = record { first = first.serial; second = row.serial } ∷ []

-- The pair of a row and the first of the earlier ones that has its key and its starting code, where there is one. Where
-- three devices have one key and one starting code, the first of them stands in two pairs.
abbrev pub twin_at : List Row → Row → List Twins
twin_at earlier row = twins_with (find (share_chain row) earlier) row

-- The pairs of some rows, each with one of those before it.
abbrev pub twins_from : List Row → List Row → List Twins
twins_from earlier [] = []
twins_from earlier (row ∷ rows) = twin_at earlier row ++ twins_from (earlier ++ row ∷ []) rows

-- The pairs of devices of these rows that take each other's tokens. Where there is none, no token that was sold for one
-- of the devices is taken by another for the reason that they have one key: see `no_twins_no_shared_chain`.
abbrev pub twins : List Row → List Twins
twins rows = twins_from [] rows

-- How many orders some rows have.
abbrev pub order_count : Tables → List Row → ℕ
order_count tables rows = sum_by (λ row. length (orders_back tables row.serial)) rows

-- What a check of the tables finds, device by device, by serial.
abbrev pub found : (List ℕ → ℕ → ℕ) → Tables → Findings
found next tables =
    record {
      rows = length (all_rows tables);
      orders = min (order_count tables (all_rows tables)) (2 ^ 64 - 1);
      flaws = flaws next tables;
      twins = twins (all_rows tables);
    }

-- A check over a keeper changes no table, and it says that the keeper failed where it did, once.
pub record Looks {T : Type 0} (result : Result T LedgerFault) (old new : KeeperView) : Type 0 where
  pub tables : new.tables ≡ old.tables
  pub faults : Blames result old.faults new.faults
