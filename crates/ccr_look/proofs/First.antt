-- What a kill of the first run leaves, before the tables are made.
use Rattle.std.proofs.Common.{◌≡◌, IsTrue, sym, subst, inl, inr}
use Rattle.std.proofs.Math.Logic.{∥∥₁_map}
use Rattle.sqlite_disk.specs.declared.Disk.{Ghosts}
use Rattle.sqlite_disk.specs.declared.Files.{Files}
use Rattle.sqlite_wal.specs.Files.{outcomes}
use Rattle.sqlite_wal.specs.Recovery.{Image}
use Rattle.sqlite_store.specs.FileStore.{recovers, state}
use Rattle.sqlite_store.specs.Unopened.{state_of}
use Rattle.sqlite_store.specs.declared.store.FileStore.{FileStore}
use Rattle.sqlite_store.specs.declared.store.open.Unopened.{Unopened}
use Rattle.sqlite.specs.declared.file.Leftover.TheVariants as leftover
use Rattle.sqlite.specs.Files.{image_of, IsEmpty, IsNothing, LeavesFiles}
use Rattle.sqlite.specs.Tree.{Trees}
use Rattle.ccr_look.specs.Holding.{HoldNothing}
use Rattle.ccr_look.specs.Left.{AreLeftBy, IsSoundStore}
use Rattle.ccr_look.proofs.Left.{holds_what_is_left}

-- an open that is killed leaves files in which nothing was made
pub killed_opening : {D : Type 0} {g : Ghosts D} (files : Files D) (now : Unopened D g) → IsNothing (image_of g files)
    → ((image : Image) → outcomes g files.log files.db image → IsNothing image) → LeavesFiles files (leftover.Unopened now)
    → (image : Image) → (state_of now).may_leave image → ∥ HoldNothing image ∥₁
killed_opening files now nothing fresh (inl it) image may = elim (it.1 image may) [
  | inl was ↦ ∣ inl (fresh image was) ∣₁
  | inr way ↦ elim way [ inl none ↦ ∣ inl none ∣₁ | inr made ↦ ∥∥₁_map made (λ m. inr m) ]
]
killed_opening files now nothing fresh (inr other) image may = absurd (other.0 nothing)

-- so does a kill once it is open, until something is committed
pub killed_open : {D : Type 0} {g : Ghosts D} (it : FileStore D g) (committed : Trees) → IsTrue (state it).is_clean → IsSoundStore it
    → ((db : Trees) → recovers it db → db ≡ committed) → IsEmpty committed → (image : Image) → AreLeftBy it image → ∥ HoldNothing image ∥₁
killed_open it committed clean sound settled empty image left =
    ∥∥₁_map (holds_what_is_left it clean sound image left) (λ held. inr (held.0, held.2, subst IsEmpty (sym (settled held.0 held.1)) empty))
