-- What a write holds, without where it lies in memory, and what it makes of the six tables.
use Rattle.std.specs.Prelude.{ℕ, List, [], ◌∷◌, string_bytes}
use Rattle.ccr_tables.specs.Contents.{Contents}
use Rattle.ccr_tables.specs.Written.{with_meta, with_scope, with_version, with_build, with_pair, with_status, without_pair, with_pin, without_pin}
use Rattle.ccr_tables.specs.declared.write.Write.{Write}
use Rattle.ccr_tables.specs.declared.write.Write.TheVariants as written
use Rattle.ccr_history.specs.Text.{Text}

-- a write, its texts by their bytes
pub data WriteData : Type 0 where
  format : WriteData
  text : Text → WriteData
  scope : ℕ → Text → Text → Text → WriteData
  version : ℕ → ℕ → Text → WriteData
  build : ℕ → Text → ℕ → ℕ → WriteData
  status : ℕ → ℕ → WriteData
  pair : ℕ → Text → ℕ → ℕ → WriteData
  no_pair : ℕ → Text → ℕ → ℕ → WriteData
  pin : Text → Text → WriteData
  no_pin : Text → WriteData

-- what a write holds, without where it lies in memory
abbrev pub write_data : Write → WriteData
write_data written.Format = format
write_data (written.PipelineText bytes) = text bytes.items
write_data (written.Scope id resource kind source) =
    scope id (string_bytes resource) (string_bytes kind) (string_bytes source)
write_data (written.Version of place body) = version of place (string_bytes body)
write_data (written.Build id job number how) = build id (string_bytes job) number how
write_data (written.Status id how) = status id how
write_data (written.Pair id input of place) = pair id (string_bytes input) of place
write_data (written.NoPair id input of place) = no_pair id (string_bytes input) of place
write_data (written.Pin resource body) = pin (string_bytes resource) (string_bytes body)
write_data (written.NoPin resource) = no_pin (string_bytes resource)

-- what one write makes of the contents
abbrev pub made : WriteData → Contents → Contents
made format = with_meta 1 (50 ∷ [])
made (text bytes) = with_meta 2 bytes
made (scope id resource kind source) = with_scope id resource kind source
made (version of place body) = with_version of place body
made (build id job number how) = with_build id job number how
made (status id how) = with_status id how
made (pair id input of place) = with_pair id input of place
made (no_pair id input of place) = without_pair id input of place
made (pin resource body) = with_pin resource body
made (no_pin resource) = without_pin resource

-- what the writes make of them, in turn
abbrev pub all_made : List WriteData → Contents → Contents
all_made [] these = these
all_made (w ∷ ws) these = all_made ws (made w these)
