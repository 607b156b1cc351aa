-- What an audit of the shop's tables finds: orders whose token is wrong, or whose count isn't clean, since another count,
-- up to 4,095 or up to its own, has the token. A customer who types such a token may get another thing than what was paid
-- for, or nothing.
use Rattle.std.specs.Prelude.{◌≡◌, ℕ, ◌-◌, ◌^◌, Bool, ◌&&◌, ◌==◌, not, List, length, map, filter, sum_by, min, Result}
use Rattle.std.specs.List.{flat_map}
use Rattle.paygo_spec.specs.Chain.{token_at}
use Rattle.ledger_spec.specs.declared.Row.{Row}
use Rattle.ledger_spec.specs.declared.Order.{Order}
use Rattle.ledger_spec.specs.declared.LedgerFault.{LedgerFault}
use Rattle.ledger_spec.specs.Tables.{Tables}
use Rattle.ledger_spec.specs.Issuing.{is_clean}
use Rattle.ledger_spec.specs.Applied.{Blames}
use Rattle.ledger_spec.specs.Keeper.{KeeperView}
use Rattle.loan_ledger.specs.declared.findings.Audit.{Audit}
use Rattle.ledger_spec.specs.Sorted.{orders_for, all_rows}

-- What an audit found: how many rows there are, how many orders (a number that stands still at 2^64 - 1), and the ids
-- of the wrong orders, by serial, then by count, then by id.
pub record Findings : Type 0 where
  pub rows : ℕ
  pub orders : ℕ
  pub wrong : List (List ℕ)

-- What an answer of the audit says that it found.
abbrev pub findings_of : Audit → Findings
findings_of audit = record { rows = audit.rows; orders = audit.orders; wrong = audit.wrong.items }

-- Whether an order of a row is right: its token is that of its count and value, and its count is clean: no other count up
-- to 4,095 or up to its own has the token.
abbrev pub is_right : (List ℕ → ℕ → ℕ) → Row → Order → Bool
is_right next row order =
    (token_at (next row.key) row.start order.value order.count == order.token)
    && is_clean (next row.key) row.start order.value order.count

-- Whether it is wrong.
abbrev pub is_wrong : (List ℕ → ℕ → ℕ) → Row → Order → Bool
is_wrong next row order = not (is_right next row order)

-- The ids of the wrong ones of some orders of a row.
abbrev pub wrong_among : (List ℕ → ℕ → ℕ) → Row → List Order → List (List ℕ)
wrong_among next row orders = map (λ order. order.id) (filter (is_wrong next row) orders)

-- The ids of the wrong orders of some rows.
abbrev pub wrong_of : (List ℕ → ℕ → ℕ) → Tables → List Row → List (List ℕ)
wrong_of next tables rows = flat_map (λ row. wrong_among next row (orders_for tables row.serial)) rows

-- How many orders some rows have.
abbrev pub order_count : Tables → List Row → ℕ
order_count tables rows = sum_by (λ row. length (orders_for tables row.serial)) rows

-- What an audit of some rows finds.
abbrev pub found_in : (List ℕ → ℕ → ℕ) → Tables → List Row → Findings
found_in next tables rows =
    record {
      rows = length rows;
      orders = min (order_count tables rows) (2 ^ 64 - 1);
      wrong = wrong_of next tables rows;
    }

-- What an audit finds.
abbrev pub audited : (List ℕ → ℕ → ℕ) → Tables → Findings
audited next tables = found_in next tables (all_rows tables)

-- An audit over a keeper changes no table, and it says that the keeper failed where it did, once.
pub record Audits {T : Type 0} (result : Result T LedgerFault) (old new : KeeperView) : Type 0 where
  pub tables : new.tables ≡ old.tables
  pub faults : Blames result old.faults new.faults
