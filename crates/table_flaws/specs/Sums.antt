-- How the code's sums read.
use Rattle.ledger_spec.specs.Replay.{Account, Booked}
use Rattle.table_flaws.specs.declared.booking.Sums.{Sums}
use Rattle.table_flaws.specs.declared.booking.Due.{Due}

-- The account that the sums of a device are.
abbrev pub account_in : Sums → Account
account_in sums = record { paid = sums.paid; rest = sums.rest; closed = sums.closed }

-- What an order is to be: the kind and the value of its token, and the account after it.
abbrev pub due_in : Due → Booked
due_in due = record { kind = due.kind; value = due.value; account = account_in due.sums }
