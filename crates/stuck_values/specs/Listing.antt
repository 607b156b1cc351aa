-- How the code's list reads.
use Rattle.ledger_spec.specs.Stuck.{Stuck}
use Rattle.stuck_values.specs.declared.stuck_value.StuckValue.{StuckValue}

-- What a listed value is in the definition of the list.
abbrev pub stuck_of_code : StuckValue → Stuck
stuck_of_code stuck = record { kind = stuck.kind; value = stuck.value; last = stuck.last }
