-- What an open of files in memory leaves where it fails.
use Rattle.std.proofs.Common.{refl}
use Rattle.sqlite_pool.specs.Pool.{state}
use Rattle.sqlite.specs.declared.file.Leftover.{Leftover}
use Rattle.sqlite.specs.declared.file.Leftover.TheVariants as left
use Rattle.sqlite.specs.Files.{IsCleanLeft}
use Rattle.ccr_look.specs.declared.scratch.Scratch.{Scratch}
use Rattle.ccr_look.specs.contracts.scratch.ScratchDisk.TheImpl.{ghosts}

-- Memory is always clean.
pub clean_left : (l : Leftover Scratch ghosts) → IsCleanLeft l
unfolding state
clean_left (left.Files files) = refl
clean_left (left.Unopened files) = refl
clean_left (left.Store it) = refl
