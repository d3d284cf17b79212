-- What lists the six tables.
use Rattle.std.proofs.Common.{◌≡◌, ◌∙◌, sym, subst}
use Rattle.sqlite_trees.specs.Objects.{catalog_tree}
use Rattle.sqlite_catalog.proofs.ReadLemmas.{lists_once}
use Rattle.sqlite.specs.Effect.{Database, IsDatabase}
use Rattle.sqlite.specs.Tree.{Trees}
use Rattle.ccr_tables.specs.Contents.{ListOurs}
use Rattle.ccr_tables.specs.Schema.{our_schema}

-- the trees of a database of our schema list the six tables
pub listed_ours : (db : Database) → IsDatabase db → db.schema ≡ our_schema → ListOurs db.trees
listed_ours db sound is schema other = lists_once (db.trees catalog_tree) schema db.schema other.lists sound.lists ∙ is

-- so do trees that are these
pub left_listed : (db : Database) → IsDatabase db → db.schema ≡ our_schema → (trees : Trees) → trees ≡ db.trees → ListOurs trees
left_listed db sound is trees same = subst ListOurs (sym same) (listed_ours db sound is)
