-- What to do about how a command ended, where that helps.
use Rattle.std.specs.Prelude.{ℕ, ◌++◌, length, Option, Some, None, option_map, Result, Ok, Err, codes, nat_eq, if◌then◌else◌}
use Rattle.sqlite.specs.declared.error.Error.{Error}
use Rattle.sqlite.specs.declared.error.Error.TheVariants.{SqliteFailure}
use Rattle.sqlite.specs.declared.error.ErrorCode.TheVariants as sql
use Rattle.ccr_history.specs.Text.{Text}
use Rattle.ccr_history.specs.declared.store_fault.StoreFault.{StoreFault}
use Rattle.ccr_history.specs.declared.store_fault.StoreFault.TheVariants as store
use Rattle.ccr_pipeline.specs.declared.fault.ReadFault.{ReadFault}
use Rattle.ccr_pipeline.specs.declared.fault.ReadFault.TheVariants.{NotJson, BadName, BadAttempts, NumberNotWhole}
use Rattle.ccr_core.specs.declared.fault.CoreFault.TheVariants.{NoPipeline, NoJob, NoResource, NoBuild, NoVersion}
use Rattle.ccr_serve.specs.declared.fault.ServeFault.{ServeFault}
use Rattle.ccr_serve.specs.declared.fault.ServeFault.TheVariants.{Core, Store, Read, File, BadPin, NoMemory, TurnsUsedUp}
use Rattle.ccr_run.specs.declared.failure.Failure.{Failure}
use Rattle.ccr_look.specs.declared.fault.CopyFault.{CopyFault}
use Rattle.ccr_look.specs.declared.fault.CopyFault.TheVariants as copy
use Rattle.ccr_run.specs.declared.failure.Failure.TheVariants.{Locked, Unopened, Refused, Unread, Unfound}
use Rattle.ccr_run.specs.declared.hint.Hint.{Hint}

-- what to do, with the path of the database that it is about, if it is about one
pub record HintData : Type 0 where
  pub path : Option Text
  pub words : Text

-- what a value of the program's type stands for
abbrev pub hint_data : Hint → HintData
hint_data h = record { path = option_map (λ path. path.now) h.path; words = h.words.now }

-- the words, behind the path where there is one
abbrev pub text_about : Option Text → Text → Text
text_about None words = codes "hint: " ++ words
text_about (Some path) words = codes "hint: " ++ (path ++ (codes ": " ++ words))

-- how it is written what to do
abbrev pub hint_text : HintData → Text
hint_text h = text_about h.path h.words

-- what to do, whichever database it is
abbrev pub bare : Text → HintData
bare words = record { path = None; words = words }

-- what to do about the database at a path
abbrev pub about : Text → Text → HintData
about path words = record { path = Some path; words = words }

-- about a database in which no pipeline is set
abbrev pub unset : Text
unset = codes "no pipeline is set in it; is --db right? set-pipeline PIPELINE.json sets one"

-- about a name that the pipeline hasn't
abbrev pub named_wrong : Text
named_wrong = codes "the pipeline that is set in it, if one is, has no such name: jobs and resources show those that it has; is --db right?"

-- about a database that can't be opened, read or written
abbrev pub disk_failed : Text
disk_failed = codes "is the disk full or read-only? may you write the file and its directory? what was printed is kept"

-- about a file that is no database of this program
abbrev pub not_ours : Text
not_ours = codes "the file isn't a database of ccr_run in format 1 or 2; name another one, or use a newer ccr_run"

-- about being out of memory, the server or its database
abbrev pub out_of_memory : Text
out_of_memory = codes "what was printed is kept; try again with more memory"

-- about a fault of a pipeline's text
abbrev pub of_text : ReadFault → Text
of_text (NotJson path) = codes "YAML isn't read: examples/operating/pipeline-json FILE makes JSON of it. JSON has no comments; ccr_run validate-pipeline FILE shows where the slip is"
of_text (BadName path) = codes "a name has 1 to 128 bytes, no / and no control character, and isn't . or ..; ccr_run validate-pipeline FILE shows what stands there"
of_text (BadAttempts path) = codes "attempts are from 1 to 100, and of steps that stand in one another at most 10000 together; ccr_run validate-pipeline FILE shows what stands there"
of_text (NumberNotWhole path) = codes "a number here is whole: write another one as a text, as \"0.5\"; ccr_run validate-pipeline FILE says which it is"
of_text fault = codes "ccr_run validate-pipeline FILE says what stands there and what is wanted; docs/FORMATS.md has the format"

-- about a fault of the server, of the database at a path
abbrev pub of_server : Text → ServeFault → Option HintData
of_server path (Core NoPipeline) = Some (about path unset)
of_server path (Core NoJob) = Some (about path named_wrong)
of_server path (Core NoResource) = Some (about path named_wrong)
of_server path (Core NoBuild) = Some (about path (codes "it has no such build: builds shows those that it has; is --db right?"))
of_server path (Core NoVersion) = Some (bare (codes "resource-versions NAME shows which places there are"))
of_server path (Read fault) = Some (bare (of_text fault))
of_server path BadPin = Some (bare (codes "a version is written as a JSON object of texts, as {\"ref\":\"61cbef\"}: resource-versions NAME shows them so"))
of_server path (Store store.NotOurs) = Some (bare not_ours)
of_server path (Store store.Disk) = Some (bare disk_failed)
of_server path (Store store.NoMemory) = Some (bare out_of_memory)
of_server path File = Some (bare (codes "is the file there, and may you read it?"))
of_server path NoMemory = Some (bare out_of_memory)
of_server path TurnsUsedUp = Some (bare (codes "the next command ends the builds that still run as errored"))
of_server path fault = None

-- about there being no database to look at, at a path
abbrev pub of_copy : Text → CopyFault → HintData
of_copy path copy.NoFile = about path (codes "nothing is there: is --db right? set-pipeline makes a database, where the directory is there")
of_copy path copy.OnlyLog = about path (codes "what was written last is in the file beside it that ends in -wal: bring back the file that belongs to it, or a copy")
of_copy path copy.Empty = about path (codes "a command without --look makes a database of it; if a copy is being put there, look again when it is whole")
of_copy path copy.NotAFile = about path (codes "--db names a file; what is beside it and ends in -wal or -journal is a file too")
of_copy path copy.Journal = about path (codes "another program was writing the database and has not ended it: open it once with sqlite3, which takes that back")
of_copy path copy.Restless = about path (codes "it changed at each of 100 tries; look again")
of_copy path copy.Unread = about path (codes "may you read the file, the one beside it that ends in -wal, and their directory?")
of_copy path copy.NoMemory = bare out_of_memory

-- about a look that finds no history in the database at a path
abbrev pub of_bytes : Text → StoreFault → Option HintData
of_bytes path store.Disk = Some (about path (codes "it is no database, which begins with SQLite format 3 (head -c 15 FILE), or it is damaged, or its file that ends in -wal isn't beside it: name another one, or bring back a copy with both"))
of_bytes path store.NotOurs = Some (about path not_ours)
of_bytes path store.NoMemory = Some (bare out_of_memory)
of_bytes path fault = None

-- about a status of a command: 3 is over the budget
abbrev pub of_status : ℕ → Option Text
of_status status = if nat_eq status 3 then Some (codes "--budget N allows more, up to 1000000") else None

-- about the database at a path that can't be opened, by what SQLite answered
abbrev pub of_open : Text → Error → HintData
of_open path (SqliteFailure sql.OutOfMemory) = bare out_of_memory
of_open path (SqliteFailure sql.NotADatabase) = about path (codes "the file is no database; name another one")
of_open path (SqliteFailure sql.DatabaseCorrupt) = about path (codes "the database is damaged; bring back a copy of it")
of_open path (SqliteFailure sql.DiskFull) = about path (codes "the disk is full; make room")
of_open path (SqliteFailure sql.TooBig) = about path (codes "the file is too large for a database")
of_open path (SqliteFailure sql.CannotOpen) =
    about path (codes "it can't be opened: is its directory there, is it a file, and may you read and write both?")
of_open path error = about path (codes "it can't be read or written; is the disk in order?")

-- about why a command wasn't done over the database at a path
abbrev pub of_failure : Text → Failure → Option HintData
of_failure path Locked = Some (about path (codes "another program has the database open: lsof FILE names it. Try again when it has ended (examples/operating/ccr waits for it); what only shows waits for nobody with --look, as builds --look"))
of_failure path (Unopened error) = Some (of_open path error)
of_failure path (Refused fault) = of_server path fault
of_failure path (Unread fault) = Some (of_copy path fault)
of_failure path (Unfound fault) = of_bytes path fault

-- ABOUT HOW A COMMAND ENDED over the database at a path
abbrev pub hint_of : Text → Result ℕ Failure → Option HintData
hint_of path (Ok status) = option_map bare (of_status status)
hint_of path (Err failure) =
    if nat_eq (length path) 0 then Some (bare (codes "--db names no file: is a variable empty?")) else of_failure path failure
