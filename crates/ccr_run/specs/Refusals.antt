-- How a refusal reads, and the status that the program ends with.
use Rattle.std.specs.Prelude.{ℕ, ◌++◌, Option, Some, None, option_map, codes, string_bytes}
use Rattle.ccr_history.specs.Text.{Text}
use Rattle.ccr_pipeline.specs.declared.fault.ReadFault.{ReadFault}
use Rattle.ccr_pipeline.specs.declared.fault.ReadFault.TheVariants as text
use Rattle.ccr_history.specs.declared.store_fault.StoreFault.{StoreFault}
use Rattle.ccr_history.specs.declared.store_fault.StoreFault.TheVariants as store
use Rattle.ccr_core.specs.declared.fault.CoreFault.{CoreFault}
use Rattle.ccr_core.specs.declared.fault.CoreFault.TheVariants as core_fault
use Rattle.ccr_serve.specs.declared.fault.ServeFault.{ServeFault}
use Rattle.ccr_serve.specs.declared.fault.ServeFault.TheVariants.{Core, Store, Read, File, BadPin, NoMemory, Closed, TurnsUsedUp}
use Rattle.ccr_store.specs.Faults.{open_fault_of}
use Rattle.ccr_run.specs.declared.failure.Failure.{Failure}
use Rattle.ccr_look.specs.declared.fault.CopyFault.{CopyFault}
use Rattle.ccr_look.specs.declared.fault.CopyFault.TheVariants as copy
use Rattle.ccr_run.specs.declared.failure.Failure.TheVariants.{Locked, Unopened, Refused, Unread, Unfound}
use Rattle.ccr_run.specs.declared.refusal.Refusal.{Refusal}

-- the words of a refusal, a path in the pipeline's text, and the status
pub record RefusalData : Type 0 where
  pub words : Text
  pub path : Option Text
  pub status : ℕ

-- what a value of the program's type stands for
abbrev pub refusal_data : Refusal → RefusalData
refusal_data r = record { words = r.words.now; path = option_map (λ path. string_bytes path.now) r.path; status = r.status }

-- the words, and the path behind them where there is one
abbrev pub text_at : Text → Option Text → Text
text_at words None = codes "refused: " ++ words
text_at words (Some path) = codes "refused: " ++ (words ++ (codes " at " ++ path))

-- how a refusal is written
abbrev pub refusal_text : RefusalData → Text
refusal_text r = text_at r.words r.path

-- the command is refused
abbrev pub refused : Text → RefusalData
refused words = record { words = words; path = None; status = 1 }

-- disk or memory has failed
abbrev pub broken : Text → RefusalData
broken words = record { words = words; path = None; status = 4 }

-- the pipeline's text is refused, for what stands at a path
abbrev pub at : Text → Text → RefusalData
at words path = record { words = words; path = Some path; status = 1 }

-- an event is refused by the core
abbrev pub of_core : CoreFault → RefusalData
of_core core_fault.NoPipeline = refused (codes "no pipeline")
of_core core_fault.NoJob = refused (codes "no such job")
of_core core_fault.NoResource = refused (codes "no such resource")
of_core core_fault.NoBuild = refused (codes "no such build")
of_core core_fault.BuildsOpen = refused (codes "builds open")
of_core core_fault.NotWanted = refused (codes "not wanted")
of_core core_fault.TooManyOpen = refused (codes "too many builds open")
of_core core_fault.TableFull = refused (codes "table full")
of_core core_fault.NoVersion = refused (codes "no such version")
of_core core_fault.NoMemory = broken (codes "out of memory")

-- the database fails
abbrev pub of_store : StoreFault → RefusalData
of_store store.Refused = broken (codes "store: refused")
of_store store.NoMemory = broken (codes "out of memory")
of_store store.Disk = broken (codes "store: disk")
of_store store.Interrupted = broken (codes "store: interrupted")
of_store store.NotOurs = broken (codes "store: not ours")

-- a pipeline's text is refused
abbrev pub of_text : ReadFault → RefusalData
of_text (text.TooLong path) = at (codes "pipeline: too long") (string_bytes path)
of_text (text.NotJson path) = at (codes "pipeline: not JSON") (string_bytes path)
of_text (text.Missing path) = at (codes "pipeline: missing") (string_bytes path)
of_text (text.WrongKind path) = at (codes "pipeline: wrong kind") (string_bytes path)
of_text (text.BadName path) = at (codes "pipeline: bad name") (string_bytes path)
of_text (text.Repeated path) = at (codes "pipeline: repeated") (string_bytes path)
of_text (text.NoStep path) = at (codes "pipeline: no step") (string_bytes path)
of_text (text.TwoSteps path) = at (codes "pipeline: two steps") (string_bytes path)
of_text (text.UnknownResource path) = at (codes "pipeline: unknown resource") (string_bytes path)
of_text (text.UnknownJob path) = at (codes "pipeline: unknown job") (string_bytes path)
of_text (text.BadAttempts path) = at (codes "pipeline: bad attempts") (string_bytes path)
of_text (text.TooDeep path) = at (codes "pipeline: too deep") (string_bytes path)
of_text (text.TooMany path) = at (codes "pipeline: too many") (string_bytes path)
of_text (text.Unsupported path) = at (codes "pipeline: unsupported") (string_bytes path)
of_text (text.NumberNotWhole path) = at (codes "pipeline: number not whole") (string_bytes path)
of_text text.NoMemory = broken (codes "out of memory")

-- a call of the server ends early
abbrev pub of_server : ServeFault → RefusalData
of_server (Core fault) = of_core fault
of_server (Store fault) = of_store fault
of_server (Read fault) = of_text fault
of_server File = broken (codes "file: cannot read")
of_server BadPin = refused (codes "bad pin")
of_server NoMemory = broken (codes "out of memory")
of_server Closed = broken (codes "closed")
of_server TurnsUsedUp = refused (codes "turns used up")

-- there is no database to look at
abbrev pub of_copy : CopyFault → RefusalData
of_copy copy.NoFile = broken (codes "database: no such file")
of_copy copy.OnlyLog = broken (codes "database: only its log is there")
of_copy copy.Empty = broken (codes "database: empty file")
of_copy copy.NotAFile = broken (codes "database: not a file")
of_copy copy.Journal = broken (codes "database: a journal is beside it")
of_copy copy.Restless = broken (codes "database: changes all the time")
of_copy copy.Unread = broken (codes "database: cannot read")
of_copy copy.NoMemory = broken (codes "out of memory")

-- HOW A FAILURE READS; a database that another program has open is a fault of the disk
abbrev pub refusal_of : Failure → RefusalData
refusal_of Locked = of_store store.Disk
refusal_of (Unopened error) = of_store (open_fault_of error)
refusal_of (Refused fault) = of_server fault
refusal_of (Unread fault) = of_copy fault
refusal_of (Unfound fault) = of_store fault
