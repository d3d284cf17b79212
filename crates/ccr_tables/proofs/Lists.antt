-- What the SELECT of each table gives.
use Rattle.std.proofs.Common.{List, [], ◌∷◌, refl, Vec, Global, Result, IfOk, IsTrue}
use Rattle.sqlite.specs.declared.error.Error.{Error}
use Rattle.sqlite.specs.Order.{Row}
use Rattle.sqlite.specs.Term.{col}
use Rattle.sqlite.specs.State.{State, Shown}
use Rattle.ccr_tables.specs.Contents.{Contents, Holds, meta_row, scope_row, version_row, build_row, pair_row, pin_row}
use Rattle.ccr_tables.specs.Listing.{IsListed}
use Rattle.ccr_tables.specs.Tables.{key_width, listing_text, rows_of}
use Rattle.ccr_tables.specs.declared.table.Table.{Table}
use Rattle.ccr_tables.specs.declared.table.Table.TheVariants.{Meta, Scopes, Versions, Builds, Pairs, Pins}
use Rattle.ccr_tables.proofs.Texts as texts
use Rattle.ccr_tables.proofs.Selects as select
use Rattle.sqlite.specs.Effect.{Database}
use Rattle.std.proofs.Common.{Ok, Err}

list_meta : (these : Contents) (old new : State) (rows : List Row) → Holds these old.now → Shown texts.meta_text [] old new rows → IsListed 1 these.meta rows
list_meta these old new rows holds = select.lists_rows 0 (col 1 0 ∷ []) (col 1 0 ∷ col 1 2 ∷ []) meta_row 1 (λ r. refl) (λ a b. refl) texts.meta_text texts.meta_names texts.meta_command texts.meta_plain texts.meta_unlisted (λ db. refl) these.meta old new rows holds.schema holds.rows.meta

list_scopes : (these : Contents) (old new : State) (rows : List Row) → Holds these old.now → Shown texts.scopes_text [] old new rows → IsListed 1 these.scopes rows
list_scopes these old new rows holds = select.lists_rows 1 (col 1 0 ∷ []) (col 1 0 ∷ col 1 2 ∷ col 1 3 ∷ col 1 4 ∷ []) scope_row 1 (λ r. refl) (λ a b. refl) texts.scopes_text texts.scopes_names texts.scopes_command texts.scopes_plain texts.scopes_unlisted (λ db. refl) these.scopes old new rows holds.schema holds.rows.scopes

list_versions : (these : Contents) (old new : State) (rows : List Row) → Holds these old.now → Shown texts.versions_text [] old new rows → IsListed 2 these.versions rows
list_versions these old new rows holds = select.lists_rows 3 (col 1 1 ∷ col 1 2 ∷ []) (col 1 1 ∷ col 1 2 ∷ col 1 3 ∷ []) version_row 2 (λ r. refl) (λ a b. refl) texts.versions_text texts.versions_names texts.versions_command texts.versions_plain texts.versions_unlisted (λ db. refl) these.versions old new rows holds.schema holds.rows.versions

list_builds : (these : Contents) (old new : State) (rows : List Row) → Holds these old.now → Shown texts.builds_text [] old new rows → IsListed 1 these.builds rows
list_builds these old new rows holds = select.lists_rows 6 (col 1 0 ∷ []) (col 1 0 ∷ col 1 2 ∷ col 1 3 ∷ col 1 4 ∷ []) build_row 1 (λ r. refl) (λ a b. refl) texts.builds_text texts.builds_names texts.builds_command texts.builds_plain texts.builds_unlisted (λ db. refl) these.builds old new rows holds.schema holds.rows.builds

list_pairs : (these : Contents) (old new : State) (rows : List Row) → Holds these old.now → Shown texts.pairs_text [] old new rows → IsListed 4 these.pairs rows
list_pairs these old new rows holds = select.lists_rows 8 (col 1 1 ∷ col 1 2 ∷ col 1 3 ∷ col 1 4 ∷ []) (col 1 1 ∷ col 1 2 ∷ col 1 3 ∷ col 1 4 ∷ []) pair_row 4 (λ r. refl) (λ a b. refl) texts.pairs_text texts.pairs_names texts.pairs_command texts.pairs_plain texts.pairs_unlisted (λ db. refl) these.pairs old new rows holds.schema holds.rows.pairs

list_pins : (these : Contents) (old new : State) (rows : List Row) → Holds these old.now → Shown texts.pins_text [] old new rows → IsListed 1 these.pins rows
list_pins these old new rows holds = select.lists_rows 10 (col 1 1 ∷ []) (col 1 1 ∷ col 1 2 ∷ []) pin_row 1 (λ r. refl) (λ a b. refl) texts.pins_text texts.pins_names texts.pins_command texts.pins_plain texts.pins_unlisted (λ db. refl) these.pins old new rows holds.schema holds.rows.pins

pub list_rows : (t : Table) (these : Contents) (old new : State) (rows : List Row) → Holds these old.now → Shown (listing_text t) [] old new rows → IsListed (key_width t) (rows_of t these) rows
list_rows Meta = list_meta
list_rows Scopes = list_scopes
list_rows Versions = list_versions
list_rows Builds = list_builds
list_rows Pairs = list_pairs
list_rows Pins = list_pins

pub lists : (t : Table) (old new : State) (r : Result (Vec Row Global) Error) → IfOk r (λ rows. Shown (listing_text t) [] old new rows.items)
    → IfOk r (λ rows. (these : Contents) → Holds these old.now → IsListed (key_width t) (rows_of t these) rows.items)
lists t old new (Err e) h = tt
lists t old new (Ok rows) h = λ these holds. list_rows t these old new rows.items holds h
