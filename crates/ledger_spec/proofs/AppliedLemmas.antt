-- What is told of a keeper.
use Rattle.std.proofs.Common.{Option, Some, None}
use Rattle.std.specs.Prelude.{IfSome}
use Rattle.ledger_spec.specs.Tables.{Tables}

-- a fact on what is told gives another
pub if_told : (told : Option Tables) (P Q : Tables → Type 0) → ((t : Tables) → P t → Q t) → IfSome told P → IfSome told Q
if_told None P Q gives is = tt
if_told (Some t) P Q gives is = gives t is
