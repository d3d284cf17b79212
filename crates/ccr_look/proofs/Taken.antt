-- A database that has the rows of a history holds it.
use Rattle.std.proofs.Common.{List, [], ◌∷◌, inl, inr, refl}
use Rattle.std.specs.List.{AllByRecursion}
use Rattle.sqlite_wal.specs.Recovery.{Image}
use Rattle.sqlite.specs.Files.{HoldsDatabase}
use Rattle.sqlite.specs.Tree.{Trees}
use Rattle.ccr_history.specs.History.{HistoryData, IsHistory}
use Rattle.ccr_tables.specs.Contents.{ListOurs}
use Rattle.ccr_store.specs.Crash.{HoldOneOf}
use Rattle.ccr_store.specs.declared.format.Format.TheVariants.{Two}
use Rattle.ccr_look.specs.Holding.{HoldsHistory}
use Rattle.ccr_look.specs.Left.{IsOneOf}

-- files that hold trees which list the six tables, and have the rows of one of these histories, hold it
pub holds_one : (hs : List HistoryData) → AllByRecursion IsHistory hs → (image : Image) (db : Trees) → HoldsDatabase image db → ListOurs db → HoldOneOf hs db
    → (h : HistoryData) × IsOneOf hs h × HoldsHistory image h
holds_one [] rules image db held listed none = absurd none
holds_one (h ∷ hs) rules image db held listed (inl rows) = (
  h,
  inl refl,
  inr (record { format = Two; trees = db; found = held; listed = listed; rules = rules.0; fits = tt; rows = rows }),
)
holds_one (h ∷ hs) rules image db held listed (inr more) =
    let it = holds_one hs rules.1 image db held listed more in
    (it.0, inr it.1, it.2)
