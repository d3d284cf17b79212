-- What bytes hold that a store's files leave.
use Rattle.std.proofs.Common.{◌≡◌, List, IsTrue, subst, refl, arith, Bool, true, false}
use Rattle.std.proofs.Math.Logic.{∥∥₁_elim, ∥∥₁_map}
use Rattle.sqlite_trees.specs.declared.store.Store as trees_store
use Rattle.sqlite_disk.specs.declared.Disk.{Ghosts}
use Rattle.sqlite_wal.specs.Files.{outcomes}
use Rattle.sqlite_wal.specs.Recovery.{Image}
use Rattle.sqlite_pool.specs.Pool as pool
use Rattle.sqlite_pool.specs.StoredLaws.{carried}
use Rattle.sqlite_pool.proofs.ResealLemmas.{adopts_of}
use Rattle.sqlite_pool.proofs.StateLemmas.{size_is_allowed}
use Rattle.sqlite_trees.specs.View.{doubt}
use Rattle.sqlite_store.specs.FileStore.{files, reading, recovers, schema_in, state}
use Rattle.sqlite_store.specs.Listing.{IsOurs}
use Rattle.sqlite_store.specs.declared.store.FileStore.{FileStore}
use Rattle.sqlite.specs.Files.{HoldsDatabase}
use Rattle.sqlite.specs.Held.{Held}
use Rattle.sqlite.specs.Tree.{Trees}
use Rattle.ccr_history.specs.History.{HistoryData}
use Rattle.ccr_look.specs.Holding.{HoldsHistory}
use Rattle.ccr_look.specs.Left.{AreLeftBy, IsOneOf, IsSoundStore, IsWhatIsLeft}
use Rattle.ccr_look.specs.Looks.{IsFoundIn}
use Rattle.ccr_look.proofs.Taken.{holds_one}

-- a disk that is in no doubt is clean
pub clean_of : (b : Bool) → doubt b ≡ 0 → IsTrue b
unfolding doubt
clean_of true e = refl
clean_of false e = absurd (omega (arith, e))

-- a store's files that a crash may leave, where it is clean
may_be_left : {D : Type 0} {g : Ghosts D} (it : FileStore D g) → IsTrue (state it).is_clean → (left : Image)
    → outcomes g (files it).0 (files it).1 left → (state it).may_leave left
unfolding pool.state pool.files
may_be_left it clean left out = (clean, out)

-- the bytes hold a database that the store may recover to
pub holds_what_is_left : {D : Type 0} {g : Ghosts D} (it : FileStore D g) → IsTrue (state it).is_clean → IsSoundStore it → (image : Image)
    → AreLeftBy it image → ∥ ((db : Trees) × recovers it db × HoldsDatabase image db) ∥₁
holds_what_is_left it clean sound image left = ∥∥₁_elim it.safe squash₁ (λ all.
    let may = may_be_left it clean left.0 left.1 in
    let found = all left.0 may in
    let db = reading it found.0 in
    let allowed : recovers it db = (left.0, found.0, may, ∣ found.1 ∣₁, refl) in
    let schema = sound.sound db allowed in
    ∥∥₁_elim (size_is_allowed it.pool) squash₁ (λ size. ∥∥₁_map found.2 (λ ours. let r : (x : Trees) × recovers it x × HoldsDatabase image x = (
      db,
      allowed,
      (
        (state it).page_size,
        size,
        record {
          pages = found.0;
          wanted = schema_in it found.0;
          schema = schema.0;
          found = adopts_of _ image found.0 (carried _ left.0 image left.2 found.0 found.1);
          reads = refl;
          sound = schema.1;
          ours = subst (λ b. IsOurs (state it).page_size b (schema_in it found.0) found.0) sound.numbered ours;
        },
      ),
    ) in r)))

-- where the bytes hold one of some histories, it is the one that is found
pub one_found : {D : Type 0} {d : Ghosts D} (g : trees_store.Ghosts (FileStore D d)) (image : Image) (found : HistoryData) → IsFoundIn g image found → (hs : List HistoryData)
    → (h : HistoryData) × IsOneOf hs h × HoldsHistory image h → IsOneOf hs found × HoldsHistory image found
one_found g image found it hs held =
    let same = it.only held.0 held.2 in
    (subst (IsOneOf hs) same held.1, subst (HoldsHistory image) same held.2)

-- what a look finds is what a server leaves
pub what_is_left : {D C : Type 0} {d : Ghosts D} {e : Ghosts C} (g : trees_store.Ghosts (FileStore D d)) (conn : Held (FileStore C e)) (image : Image)
    (found : HistoryData) → IsFoundIn g image found → IsWhatIsLeft conn image found
what_is_left g conn image found it tally hs rules leaves clean sound left =
    ∥∥₁_map (holds_what_is_left conn.store (clean_of _ clean) sound image left)
    (λ held. let listed = leaves clean held.0 held.1 in one_found g image found it hs (holds_one hs rules image held.0 held.2 listed.1 listed.0))
