-- Which fault a failure of `sqlite` is.
use Rattle.sqlite.specs.declared.error.Error.{Error}
use Rattle.sqlite.specs.declared.error.Error.TheVariants.{SqliteFailure}
use Rattle.sqlite.specs.declared.error.ErrorCode.TheVariants.{OutOfMemory}
use Rattle.ccr_tables.specs.declared.cause.Cause.{Cause}
use Rattle.ccr_tables.specs.declared.cause.Cause.TheVariants as cause
use Rattle.ccr_history.specs.declared.store_fault.StoreFault.{StoreFault}
use Rattle.ccr_history.specs.declared.store_fault.StoreFault.TheVariants.{Refused, NoMemory, Disk, Interrupted, NotOurs}

-- each cause has a fault of its name
abbrev pub fault_of : Cause → StoreFault
fault_of cause.Refused = Refused
fault_of cause.NoMemory = NoMemory
fault_of cause.Disk = Disk
fault_of cause.Interrupted = Interrupted

-- a read that is refused finds other tables
abbrev pub read_fault_of : Cause → StoreFault
read_fault_of cause.Refused = NotOurs
read_fault_of cause.NoMemory = NoMemory
read_fault_of cause.Disk = Disk
read_fault_of cause.Interrupted = Interrupted

-- an open fails for want of memory, or else it is the disk's: also where the file is no database, or is too big
abbrev pub open_fault_of : Error → StoreFault
open_fault_of (SqliteFailure OutOfMemory) = NoMemory
open_fault_of e = Disk
