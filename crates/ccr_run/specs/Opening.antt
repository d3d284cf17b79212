-- What an opener is answered, and why it opens nothing.
use Rattle.std.specs.Prelude.{◌≡◌, ◌⊎◌, Bool, true, false, None, IfSome, IsTrue}
use Rattle.sqlite_disk.specs.declared.Disk.{Ghosts}
use Rattle.sqlite_disk.specs.declared.Files.{Files}
use Rattle.sqlite.specs.declared.error.Error.{Error}
use Rattle.sqlite.specs.declared.error.Error.TheVariants.{SqliteFailure}
use Rattle.sqlite.specs.declared.error.ErrorCode.TheVariants.{CannotOpen, DatabaseBusy, OutOfMemory}
use Rattle.sqlite.specs.declared.file.Leftover.{Leftover}
use Rattle.sqlite.specs.Files.{IsCleanLeft, FailsToOpenFiles, LeavesFiles}
use Rattle.sqlite.specs.Opening.{is_open_error}
use Rattle.ccr_run.specs.declared.failure.Failure.{Failure}
use Rattle.ccr_run.specs.declared.failure.Failure.TheVariants.{Locked, Unopened}
use Rattle.ccr_run.specs.declared.opener.Answer.{Answer}
use Rattle.ccr_run.specs.declared.opener.Answer.TheVariants.{Opened, Refused}

-- why an open that failed so keeps the program from serving
abbrev pub failure_of : Error → Failure
failure_of (SqliteFailure DatabaseBusy) = Locked
failure_of error = Unopened error

-- no file was opened, for this cause
abbrev pub IsShutOut : Error → Type 0
IsShutOut error =
    (error ≡ SqliteFailure CannotOpen) ⊎ ((error ≡ SqliteFailure OutOfMemory) ⊎ (error ≡ SqliteFailure DatabaseBusy))

-- a connection was opened, which was this one
abbrev pub HasOpened : {C L : Type 0} → Answer C L → C → Type 0
HasOpened (Opened it) conn = it.value ≡ conn
HasOpened answer conn = ⊥

module _ {D : Type 0} {g : Ghosts D} (fresh : Bool → D → Type 0) where
  -- fresh files were opened as a database, which failed with this error: it says what they are, or what the disk did, and
  -- what is left of them opens as they did
  abbrev pub FailsOver : Error → Leftover D g → Type 0
  FailsOver error left =
      (files : Files D) × fresh true files.log × fresh false files.db
      × (IsCleanLeft left → FailsToOpenFiles files left error × LeavesFiles files left)

  -- AN OPEN WAS ANSWERED WITH THIS ERROR: no file was opened, or those that were aren't a database that can be opened
  abbrev pub HasRefused : {C : Type 0} → Answer C (Leftover D g) → Error → Type 0
  HasRefused (Refused it left) error =
      (it ≡ error) × IsTrue (is_open_error error) × (left ≡ None → IsShutOut error) × IfSome left (FailsOver error)
  HasRefused answer error = ⊥
