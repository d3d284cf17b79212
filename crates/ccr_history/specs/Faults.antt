-- Which faults a call may answer.
use Rattle.std.specs.Prelude.{Bool, true, false}
use Rattle.ccr_history.specs.declared.fault.HistoryFault.{HistoryFault}
use Rattle.ccr_history.specs.declared.fault.HistoryFault.TheVariants.{NotObject, VersionNotText, NoMemory, TableFull, BuildsFull, NoBuild, AlreadyEnded, NoVersion}

-- the faults of a JSON value that is no version and no pin, and out of memory
abbrev pub is_fault_of_value : HistoryFault → Bool
is_fault_of_value NotObject = true
is_fault_of_value VersionNotText = true
is_fault_of_value NoMemory = true
is_fault_of_value TableFull = false
is_fault_of_value BuildsFull = false
is_fault_of_value NoBuild = false
is_fault_of_value AlreadyEnded = false
is_fault_of_value NoVersion = false

-- the faults of a report of versions: a full table, and out of memory
abbrev pub is_fault_of_report : HistoryFault → Bool
is_fault_of_report NotObject = false
is_fault_of_report VersionNotText = false
is_fault_of_report NoMemory = true
is_fault_of_report TableFull = true
is_fault_of_report BuildsFull = false
is_fault_of_report NoBuild = false
is_fault_of_report AlreadyEnded = false
is_fault_of_report NoVersion = false

-- the faults of a build that is added
abbrev pub is_fault_of_add : HistoryFault → Bool
is_fault_of_add NotObject = false
is_fault_of_add VersionNotText = false
is_fault_of_add NoMemory = true
is_fault_of_add TableFull = false
is_fault_of_add BuildsFull = true
is_fault_of_add NoBuild = false
is_fault_of_add AlreadyEnded = false
is_fault_of_add NoVersion = false

-- the faults of a build that can't end: it isn't there, or it has ended
abbrev pub is_fault_of_end : HistoryFault → Bool
is_fault_of_end NotObject = false
is_fault_of_end VersionNotText = false
is_fault_of_end NoMemory = false
is_fault_of_end TableFull = false
is_fault_of_end BuildsFull = false
is_fault_of_end NoBuild = true
is_fault_of_end AlreadyEnded = true
is_fault_of_end NoVersion = false

-- the faults of a place that is disabled: the table lacks it, and out of memory
abbrev pub is_fault_of_disable : HistoryFault → Bool
is_fault_of_disable NotObject = false
is_fault_of_disable VersionNotText = false
is_fault_of_disable NoMemory = true
is_fault_of_disable TableFull = false
is_fault_of_disable BuildsFull = false
is_fault_of_disable NoBuild = false
is_fault_of_disable AlreadyEnded = false
is_fault_of_disable NoVersion = true
