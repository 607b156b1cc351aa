-- The form that is told with an order.
use Rattle.std.specs.Prelude.{ℕ, List, Option, Some, None, if◌then◌else◌}
use Rattle.paygo_spec.specs.declared.Form.{Form}
use Rattle.sqlite_value.specs.declared.value.Value.{Value}
use Rattle.ledger_spec.specs.declared.Row.{Row}
use Rattle.ledger_spec.specs.Names.{same_name}
use Rattle.table_columns.specs.Said.{given, row_said}

-- The form of a row, if it has the serial.
abbrev pub form_for : List ℕ → Row → Option Form
form_for serial row = if same_name row.serial serial then Some row.form else None

-- The form of the row that the columns from this place on say, if it has the serial.
abbrev pub form_said : ℕ → List ℕ → List Value → Option Form
form_said at serial columns = given (row_said at columns) (form_for serial)
