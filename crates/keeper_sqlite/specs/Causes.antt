-- What an error of the database comes to.
use Rattle.sqlite.specs.declared.error.Error.{Error}
use Rattle.sqlite.specs.declared.error.Error.TheVariants.{SqliteFailure, QueryReturnedNoRows}
use Rattle.sqlite.specs.declared.error.ErrorCode.TheVariants as code
use Rattle.keeper_sqlite.specs.declared.cause.Cause.{Cause}
use Rattle.keeper_sqlite.specs.declared.cause.Cause.TheVariants as cause
use Rattle.keeper_sqlite.specs.declared.cause.Fault.{Fault}
use Rattle.keeper_sqlite.specs.declared.cause.Fault.TheVariants as fault

-- The cause that an error names.
abbrev pub cause_of : Error → Cause
cause_of (SqliteFailure code.NotADatabase) = cause.NotADatabase
cause_of (SqliteFailure code.DatabaseBusy) = cause.Held
cause_of (SqliteFailure code.CannotOpen) = cause.Unopened
cause_of (SqliteFailure code.DiskFull) = cause.Full
cause_of (SqliteFailure code.SystemIoFailure) = cause.DiskFailed
cause_of (SqliteFailure code.Closed) = cause.DiskFailed
cause_of (SqliteFailure code.DatabaseCorrupt) = cause.Damaged
cause_of QueryReturnedNoRows = cause.Unwritten
cause_of e = cause.Refused e

-- What a call comes to that met it: want of memory is no fault of the database.
abbrev pub fault_of : Error → Fault
fault_of (SqliteFailure code.OutOfMemory) = fault.Memory
fault_of e = fault.Caused (cause_of e)
