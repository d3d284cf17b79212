-- What comes of a look.
use Rattle.std.specs.Prelude.{◌≡◌, ◌⊎◌, ℕ, List, [], ◌∷◌, Option, Some, None, Result, Ok, Err}
use Rattle.sqlite_disk.specs.declared.Disk as disk
use Rattle.sqlite_store.specs.declared.store.FileStore.{FileStore}
use Rattle.sqlite_trees.specs.declared.store.Store.{Ghosts}
use Rattle.sqlite.specs.Held.{Held}
use Rattle.ccr_history.specs.Text.{Text}
use Rattle.ccr_history.specs.declared.store_fault.StoreFault.{StoreFault}
use Rattle.ccr_command.specs.declared.options.Options.{Options}
use Rattle.ccr_core.specs.Commands.{shown_data}
use Rattle.ccr_core.specs.Holding.{CoreData}
use Rattle.ccr_lines.specs.Shown.{Showing}
use Rattle.ccr_lines.specs.declared.shown.ShowFault.{ShowFault}
use Rattle.ccr_lines.specs.declared.shown.ShowFault.TheVariants as why
use Rattle.ccr_look.specs.Left.{IsWhatIsLeft}
use Rattle.ccr_look.specs.Looks.{image_of, Sees, SeesNothing}
use Rattle.ccr_look.specs.Reads.{IsReadInOrder}
use Rattle.ccr_look.specs.declared.copied.Copied.{Copied}
use Rattle.ccr_look.specs.declared.fault.CopyFault.{CopyFault}
use Rattle.ccr_serve.specs.declared.fault.ServeFault.TheVariants.{Core, BadPin, NoMemory}
use Rattle.ccr_run.specs.declared.failure.Failure.{Failure}
use Rattle.ccr_run.specs.declared.failure.Failure.TheVariants.{Refused, Unread, Unfound}
use Rattle.ccr_run.specs.declared.order.LookOrder.{LookOrder}
use Rattle.ccr_run.specs.Asked.{AskedData}
use Rattle.ccr_run.specs.Asked as files

-- how it ended that something was shown, as the program hands it on: its status, or its refusal
abbrev pub shown_end : Result ℕ ShowFault → Result ℕ Failure
shown_end (Ok status) = Ok status
shown_end (Err (why.Lacks fault)) = Err (Refused (Core fault))
shown_end (Err why.BadPin) = Err (Refused BadPin)
shown_end (Err why.NoMemory) = Err (Refused NoMemory)

-- what is shown of a core, how it ended, and all lines before and after
abbrev pub Showings : Type 1
Showings = CoreData → Result ℕ Failure → Text → Text → Type 0

-- something was shown of a core, with all lines before and after, and ended so
abbrev pub ShownOf : LookOrder → Showings
ShownOf order core end old new =
    (answer : Result ℕ ShowFault) × (end ≡ shown_end answer) × Showing (shown_data order.what) core answer old new

-- all that was asked of the files is that the database be read which the options name, and it was answered so
abbrev pub IsReadOf : Options → Option CopyFault → List AskedData → Type 0
IsReadOf options fault asked = asked ≡ files.read options.database.now fault ∷ []

-- the database that the options name was read, as a look reads
abbrev pub IsCopied : Options → Copied → Type 0
IsCopied options copied = (copied.path.now ≡ options.database.now) × IsReadInOrder copied

module _ {D : Type 0} {d : disk.Ghosts D} (g : Ghosts (FileStore D d)) (options : Options) where
  -- the database that the options name was read, and this core stands over the history that is found in the bytes
  pub record Saw (asked : List AskedData) (core : CoreData) : Type 0 where
    pub asked_is : IsReadOf options None asked
    pub copied : Copied
    pub read : IsCopied options copied
    pub sees : Sees g (image_of copied) options.budget core

  -- WHY NOTHING IS SEEN: that the database be read was answered with a fault; or it was read, and no history is found in the bytes
  abbrev pub KeepsFromSeeing : List AskedData → Failure → Type 0
  KeepsFromSeeing asked failure =
      ((fault : CopyFault) × IsReadOf options (Some fault) asked × (failure ≡ Unread fault))
      ⊎ (IsReadOf options None asked × (copied : Copied) × IsCopied options copied × (fault : StoreFault)
      × SeesNothing g (image_of copied) fault × (failure ≡ Unfound fault))

  -- nothing is seen, for a cause, and nothing is printed
  pub record SawNothing (asked : List AskedData) (end : Result ℕ Failure) (old new : Text) : Type 0 where
    pub failure : Failure
    pub end_is : end ≡ Err failure
    pub cause : KeepsFromSeeing asked failure
    pub unprinted : new ≡ old

module _ {D : Type 0} {d : disk.Ghosts D} (g : Ghosts (FileStore D d)) (options : Options) (shows : Showings) where
  -- the database that the options name was read, a core stands over the history that is found in the bytes, and this was shown of it
  pub record DidLook (asked : List AskedData) (end : Result ℕ Failure) (old new : Text) : Type 0 where
    pub core : CoreData
    pub saw : Saw g options asked core
    pub shown : shows core end old new

  -- WHAT CAME OF A LOOK, with what was asked of the files
  abbrev pub Looked : List AskedData → Result ℕ Failure → Text → Text → Type 0
  Looked asked end old new = DidLook asked end old new ⊎ SawNothing g options asked end old new

-- what comes of looks: by the options and by what is shown, with what was asked of the files, how it ended, and all lines before and after
abbrev pub Looks : Type 1
Looks = Options → Showings → List AskedData → Result ℕ Failure → Text → Text → Type 0

module _ {D C : Type 0} {d : disk.Ghosts D} {c : disk.Ghosts C} (g : Ghosts (FileStore D d)) (beside : Ghosts (FileStore C c))
    (options : Options) (shows : Showings) where
  -- what a look finds in bytes that a server's files leave is what its storage leaves, whichever server it is
  pub record DidLookBeside (asked : List AskedData) (end : Result ℕ Failure) (old new : Text) : Type 0 where
    pub did : DidLook g options shows asked end old new
    pub left : (server : Held (FileStore C c)) → IsWhatIsLeft server (image_of did.saw.copied) did.saw.sees.history

  -- WHAT CAME OF A LOOK BESIDE A SERVER
  abbrev pub LookedBeside : List AskedData → Result ℕ Failure → Text → Text → Type 0
  LookedBeside asked end old new = DidLookBeside asked end old new ⊎ SawNothing g options asked end old new
