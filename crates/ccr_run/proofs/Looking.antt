-- What came of a look, from what its parts say.
use Rattle.std.proofs.Common.{◌≡◌, ◌∙◌, inl, inr, refl, sym, ap, subst, ℕ, List, [], ◌++◌, Option, None, Some, Result, Ok, Err, OnOk, OnErr}
use Rattle.std.proofs.lemmas.List.{append-nil}
use Rattle.sqlite_disk.specs.declared.Disk as disk
use Rattle.sqlite_store.specs.declared.store.FileStore.{FileStore}
use Rattle.sqlite_trees.specs.declared.store.Store.{Ghosts}
use Rattle.ccr_history.specs.Text.{Text}
use Rattle.ccr_history.specs.declared.store_fault.StoreFault.{StoreFault}
use Rattle.ccr_command.specs.declared.options.Options.{Options}
use Rattle.ccr_core.specs.Holding.{CoreData}
use Rattle.ccr_core.specs.Commands.{shown_data}
use Rattle.ccr_lines.specs.Shown.{Showing}
use Rattle.ccr_lines.specs.declared.shown.ShowFault.{ShowFault}
use Rattle.ccr_lines.specs.declared.shown.ShowFault.TheVariants as why
use Rattle.ccr_look.specs.Looks.{image_of, Sees, SeesNothing}
use Rattle.ccr_look.proofs.Left.{what_is_left}
use Rattle.ccr_look.specs.declared.copied.Copied.{Copied}
use Rattle.ccr_look.specs.declared.fault.CopyFault.{CopyFault}
use Rattle.ccr_run.specs.declared.failure.Failure.{Failure}
use Rattle.ccr_run.specs.declared.failure.Failure.TheVariants.{Unread, Unfound}
use Rattle.ccr_run.specs.declared.order.LookOrder.{LookOrder}
use Rattle.ccr_run.specs.Asked.{AskedData}
use Rattle.ccr_run.specs.Looked.{IsCopied, IsReadOf, KeepsFromSeeing, Looked, LookedBeside, Saw, ShownOf, Showings, shown_end}

-- what was shown where nothing was, is shown behind what was
shown_behind : (order : LookOrder) (core : CoreData) (answer : Result ℕ ShowFault) (lines old new : Text)
    → Showing (shown_data order.what) core answer [] lines → new ≡ old ++ lines → Showing (shown_data order.what) core answer old new
shown_behind order core (Ok status) lines old new it is = (it.0, (it.1.0, it.1.1, is ∙ ap (λ (t : Text). old ++ t) it.1.2))
shown_behind order core (Err fault) lines old new it is = (it.0, is ∙ (ap (λ (t : Text). old ++ t) it.1 ∙ append-nil old))

-- something was shown of a core, behind what was printed before
pub shown_of : (order : LookOrder) (core : CoreData) (answer : Result ℕ ShowFault) (end : Result ℕ Failure) (empty lines old new : Text)
    → end ≡ shown_end answer → empty ≡ [] → Showing (shown_data order.what) core answer empty lines → new ≡ old ++ lines
    → ShownOf order core end old new
shown_of order core answer end empty lines old new is none shown printed = (
  answer,
  is,
  shown_behind order core answer lines old new
      (subst (λ (t : Text). Showing (shown_data order.what) core answer t lines) none shown) printed,
)

-- there was no memory for what was to be printed
pub unshown_of : (order : LookOrder) (core : CoreData) (end : Result ℕ Failure) (old new : Text)
    → end ≡ shown_end (Err why.NoMemory) → new ≡ old → ShownOf order core end old new
unshown_of order core end old new is same = (Err why.NoMemory, is, (tt, same))

module _ {D : Type 0} {d : disk.Ghosts D} (g : Ghosts (FileStore D d)) (options : Options) where
  -- a core was seen
  pub saw : (asked : List AskedData) (copied : Copied) (core : CoreData) → IsReadOf options None asked → IsCopied options copied
      → Sees g (image_of copied) options.budget core → Saw g options asked core
  saw asked copied core is read sees = record { asked_is = is; copied = copied; read = read; sees = sees }

  -- the database wasn't read
  pub unread : (asked : List AskedData) (fault : CopyFault) → IsReadOf options (Some fault) asked
      → KeepsFromSeeing g options asked (Unread fault)
  unread asked fault is = inl (fault, is, refl)

  -- no history is found in what was read
  pub unfound : (asked : List AskedData) (copied : Copied) (fault : StoreFault) → IsReadOf options None asked
      → IsCopied options copied → SeesNothing g (image_of copied) fault → KeepsFromSeeing g options asked (Unfound fault)
  unfound asked copied fault is read nothing = inr (is, copied, read, fault, nothing, refl)

module _ {D : Type 0} {d : disk.Ghosts D} (g : Ghosts (FileStore D d)) (options : Options) (shows : Showings) where
  -- something was shown of the core that was seen
  pub did_look : (asked : List AskedData) (core : CoreData) (end : Result ℕ Failure) (old new : Text) → Saw g options asked core
      → shows core end old new → Looked g options shows asked end old new
  did_look asked core end old new saw shown = inl (record { core = core; saw = saw; shown = shown })

  -- nothing was seen
  pub saw_nothing : (asked : List AskedData) (failure : Failure) (old : Text) → KeepsFromSeeing g options asked failure
      → Looked g options shows asked (Err failure) old old
  saw_nothing asked failure old cause = inr (record { failure = failure; end_is = refl; cause = cause; unprinted = refl })

-- whichever server it is beside
pub looked_beside : {D C : Type 0} {d : disk.Ghosts D} {c : disk.Ghosts C} (g : Ghosts (FileStore D d)) (beside : Ghosts (FileStore C c))
    (options : Options) (shows : Showings) (asked : List AskedData) (end : Result ℕ Failure) (old new : Text)
    → Looked g options shows asked end old new → LookedBeside g beside options shows asked end old new
looked_beside g beside options shows asked end old new (inl did) = inl (record {
  did = did;
  left = λ server. what_is_left g server (image_of did.saw.copied) did.saw.sees.history did.saw.sees.found;
})
looked_beside g beside options shows asked end old new (inr nothing) = inr nothing
