-- Why a call of `sqlite` failed.
use Rattle.sqlite.specs.declared.error.Error.{Error}
use Rattle.sqlite.specs.declared.error.Error.TheVariants.{SqliteFailure}
use Rattle.sqlite.specs.declared.error.ErrorCode.TheVariants as code
use Rattle.ccr_tables.specs.declared.cause.Cause.{Cause}
use Rattle.ccr_tables.specs.declared.cause.Cause.TheVariants.{Refused, NoMemory, Disk, Interrupted}

-- memory, disk and interruption by their codes; whatever else is wrong, the statement was refused
abbrev pub cause_of : Error → Cause
cause_of (SqliteFailure code.OutOfMemory) = NoMemory
cause_of (SqliteFailure code.SystemIoFailure) = Disk
cause_of (SqliteFailure code.DiskFull) = Disk
cause_of (SqliteFailure code.DatabaseCorrupt) = Disk
cause_of (SqliteFailure code.DatabaseBusy) = Disk
cause_of (SqliteFailure code.CannotOpen) = Disk
cause_of (SqliteFailure code.Closed) = Disk
cause_of (SqliteFailure code.OperationInterrupted) = Interrupted
cause_of _ = Refused
