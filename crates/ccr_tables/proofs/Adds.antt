-- What the INSERTs of four tables do.
use Rattle.std.proofs.Common.{ℕ, pos, List, [], ◌∷◌, Ok, refl}
use Rattle.sqlite.specs.declared.types.Value.TheVariants.{Null, Int, Text}
use Rattle.sqlite.specs.Order.{Row}
use Rattle.sqlite.specs.Term.{lit, col}
use Rattle.sqlite.specs.State.{State, Executes}
use Rattle.ccr_tables.specs.Schema.{scopes, versions, builds, pairs}
use Rattle.ccr_tables.specs.Contents.{Contents, Holds, scope_row, version_row, build_row, pair_row, IsBuild}
use Rattle.ccr_tables.specs.Written.{with_scope, with_version, with_build, with_pair}
use Rattle.ccr_tables.proofs.Edits.{all_permuted}
use Rattle.ccr_tables.proofs.Texts as texts
use Rattle.ccr_tables.proofs.Inserts.{adds, cast_null, cast_int}
use Rattle.ccr_tables.proofs.Turns.{row_in, turn_scopes, turn_versions, turn_builds, turn_pairs}

pub add_scope : (id : ℕ) (resource kind source : List ℕ) (old new : State) (count : ℕ) (these : Contents) → Holds these old.now → Executes texts.scope_text (Int (pos id) ∷ Text resource ∷ Text kind ∷ Text source ∷ []) old new (Ok count)
    → Holds (with_scope id resource kind source these) new.now
add_scope id resource kind source old new count these holds h =
    let raw : Row = Int (pos id) ∷ Null ∷ Text resource ∷ Text kind ∷ Text source ∷ [] in
    let it = adds texts.scope_text 1 (record scopes { tree = 1 }) (col 0 0 ∷ lit Null ∷ col 0 1 ∷ col 0 2 ∷ col 0 3 ∷ []) 5 texts.scope_command texts.scope_plain refl old new _ raw raw count
    holds.schema refl (rw (cast_null, cast_int (pos id))) h in
    turn_scopes these ((Int (pos id) ∷ Text resource ∷ Text kind ∷ Text source ∷ []) ∷ these.scopes) _ old.now new.now holds it (row_in scope_row these.scopes (Int (pos id) ∷ Text resource ∷ Text kind ∷ Text source ∷ []) _ (old.now.trees 1) (new.now.trees 1) refl holds.rows.scopes it.rows)

pub add_version : (scope place : ℕ) (body : List ℕ) (old new : State) (count : ℕ) (these : Contents) → Holds these old.now → Executes texts.version_text (Int (pos scope) ∷ Int (pos place) ∷ Text body ∷ []) old new (Ok count)
    → Holds (with_version scope place body these) new.now
add_version scope place body old new count these holds h =
    let raw : Row = Null ∷ Int (pos scope) ∷ Int (pos place) ∷ Text body ∷ [] in
    let it = adds texts.version_text 2 (record versions { tree = 3 }) (lit Null ∷ col 0 0 ∷ col 0 1 ∷ col 0 2 ∷ []) 4 texts.version_command texts.version_plain refl old new _ raw raw count
    holds.schema refl (rw (cast_null, cast_int (pos scope), cast_int (pos place))) h in
    turn_versions these ((Int (pos scope) ∷ Int (pos place) ∷ Text body ∷ []) ∷ these.versions) _ old.now new.now holds it (row_in version_row these.versions (Int (pos scope) ∷ Int (pos place) ∷ Text body ∷ []) _ (old.now.trees 3) (new.now.trees 3) refl holds.rows.versions it.rows)

pub add_build : (id : ℕ) (job : List ℕ) (number status : ℕ) (old new : State) (count : ℕ) (these : Contents) → Holds these old.now → Executes texts.build_text (Int (pos id) ∷ Text job ∷ Int (pos number) ∷ Int (pos status) ∷ []) old new (Ok count)
    → Holds (with_build id job number status these) new.now
add_build id job number status old new count these holds h =
    let raw : Row = Int (pos id) ∷ Null ∷ Text job ∷ Int (pos number) ∷ Int (pos status) ∷ [] in
    let it = adds texts.build_text 3 (record builds { tree = 6 }) (col 0 0 ∷ lit Null ∷ col 0 1 ∷ col 0 2 ∷ col 0 3 ∷ []) 5 texts.build_command texts.build_plain refl old new _ raw raw count
    holds.schema refl (rw (cast_null, cast_int (pos id), cast_int (pos number), cast_int (pos status))) h in
    turn_builds these ((Int (pos id) ∷ Text job ∷ Int (pos number) ∷ Int (pos status) ∷ []) ∷ these.builds) _ old.now new.now holds it (row_in build_row these.builds (Int (pos id) ∷ Text job ∷ Int (pos number) ∷ Int (pos status) ∷ []) _ (old.now.trees 6) (new.now.trees 6) refl holds.rows.builds it.rows) (all_permuted IsBuild _ (new.now.trees 6) it.rows ((job, pos number, refl, refl), holds.rows.typed_builds))

pub add_pair : (build : ℕ) (input : List ℕ) (scope place : ℕ) (old new : State) (count : ℕ) (these : Contents) → Holds these old.now → Executes texts.pair_text (Int (pos build) ∷ Text input ∷ Int (pos scope) ∷ Int (pos place) ∷ []) old new (Ok count)
    → Holds (with_pair build input scope place these) new.now
add_pair build input scope place old new count these holds h =
    let raw : Row = Null ∷ Int (pos build) ∷ Text input ∷ Int (pos scope) ∷ Int (pos place) ∷ [] in
    let it = adds texts.pair_text 4 (record pairs { tree = 8 }) (lit Null ∷ col 0 0 ∷ col 0 1 ∷ col 0 2 ∷ col 0 3 ∷ []) 5 texts.pair_command texts.pair_plain refl old new _ raw raw count
    holds.schema refl (rw (cast_null, cast_int (pos build), cast_int (pos scope), cast_int (pos place))) h in
    turn_pairs these ((Int (pos build) ∷ Text input ∷ Int (pos scope) ∷ Int (pos place) ∷ []) ∷ these.pairs) _ old.now new.now holds it (row_in pair_row these.pairs (Int (pos build) ∷ Text input ∷ Int (pos scope) ∷ Int (pos place) ∷ []) _ (old.now.trees 8) (new.now.trees 8) refl holds.rows.pairs it.rows)
