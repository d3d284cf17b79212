-- What each write makes of the contents.
use Rattle.std.specs.Prelude.{pos, ℕ, Bool, not, ◌&&◌, cond, [], ◌∷◌, List, map, filter, string_bytes}
use Rattle.std.specs.Ordering.{is_eq}
use Rattle.sqlite.specs.declared.types.Value.{Value}
use Rattle.sqlite.specs.declared.types.Value.TheVariants.{Int, Text, Blob}
use Rattle.sqlite.specs.Order.{Row, column, value_cmp}
use Rattle.ccr_tables.specs.Contents.{Contents}
use Rattle.ccr_tables.specs.declared.write.Write.{Write}
use Rattle.ccr_tables.specs.declared.write.Write.TheVariants as write

-- the first column has this value, as SQLite compares
abbrev pub begins_with : Value → Row → Bool
begins_with v row = is_eq (value_cmp (column row 0) v)

-- the rows with this key are gone
abbrev pub without : Value → List Row → List Row
without key rows = filter (λ r. not (begins_with key r)) rows

-- meta has this value under this key, in place of one that was there
abbrev pub with_meta : ℕ → List ℕ → Contents → Contents
with_meta k v these = record these { meta = (Int (pos k) ∷ Blob v ∷ []) ∷ without (Int (pos k)) these.meta }

abbrev pub with_scope : ℕ → List ℕ → List ℕ → List ℕ → Contents → Contents
with_scope id resource kind source these =
    record these { scopes = (Int (pos id) ∷ Text resource ∷ Text kind ∷ Text source ∷ []) ∷ these.scopes }

abbrev pub with_version : ℕ → ℕ → List ℕ → Contents → Contents
with_version scope place body these =
    record these { versions = (Int (pos scope) ∷ Int (pos place) ∷ Text body ∷ []) ∷ these.versions }

abbrev pub with_build : ℕ → List ℕ → ℕ → ℕ → Contents → Contents
with_build id job number status these =
    record these { builds = (Int (pos id) ∷ Text job ∷ Int (pos number) ∷ Int (pos status) ∷ []) ∷ these.builds }

abbrev pub with_pair : ℕ → List ℕ → ℕ → ℕ → Contents → Contents
with_pair build input scope place these =
    record these { pairs = (Int (pos build) ∷ Text input ∷ Int (pos scope) ∷ Int (pos place) ∷ []) ∷ these.pairs }

-- a row of builds with another status
abbrev pub restated : ℕ → Row → Row
restated status row = column row 0 ∷ column row 1 ∷ column row 2 ∷ Int (pos status) ∷ []

-- the build of this id has this status
abbrev pub with_status : ℕ → ℕ → Contents → Contents
with_status id status these =
    record these { builds = map (λ r. cond (begins_with (Int (pos id)) r) (restated status r) r) these.builds }

-- the resource has this pin, in place of one that was there
abbrev pub with_pin : List ℕ → List ℕ → Contents → Contents
with_pin resource body these = record these { pins = (Text resource ∷ Text body ∷ []) ∷ without (Text resource) these.pins }

abbrev pub without_pin : List ℕ → Contents → Contents
without_pin resource these = record these { pins = without (Text resource) these.pins }

-- the row has these four values, as SQLite compares
abbrev pub is_row : Value → Value → Value → Value → Row → Bool
is_row a b c d row =
    is_eq (value_cmp (column row 0) a) && (is_eq (value_cmp (column row 1) b)
    && (is_eq (value_cmp (column row 2) c) && is_eq (value_cmp (column row 3) d)))

-- the row of these four columns is gone
abbrev pub without_pair : ℕ → List ℕ → ℕ → ℕ → Contents → Contents
without_pair build input scope place these = record these {
  pairs = filter (λ r. not (is_row (Int (pos build)) (Text input) (Int (pos scope)) (Int (pos place)) r)) these.pairs;
}

-- what one write makes of the contents
abbrev pub written : Write → Contents → Contents
written write.Format = with_meta 1 (50 ∷ [])
written (write.PipelineText text) = with_meta 2 text.items
written (write.Scope id resource kind source) = with_scope id (string_bytes resource) (string_bytes kind) (string_bytes source)
written (write.Version scope place body) = with_version scope place (string_bytes body)
written (write.Build id job number status) = with_build id (string_bytes job) number status
written (write.Status build status) = with_status build status
written (write.Pair build input scope place) = with_pair build (string_bytes input) scope place
written (write.NoPair build input scope place) = without_pair build (string_bytes input) scope place
written (write.Pin resource body) = with_pin (string_bytes resource) (string_bytes body)
written (write.NoPin resource) = without_pin (string_bytes resource)

-- what the writes make of them, in turn
abbrev pub all_written : List Write → Contents → Contents
all_written [] these = these
all_written (w ∷ more) these = all_written more (written w these)
