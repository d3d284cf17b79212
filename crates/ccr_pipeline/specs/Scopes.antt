-- The scopes of resources' versions.
use Rattle.std.specs.Prelude.{Option}
use Rattle.serde_json.specs.Data.{Data}
use Rattle.serde_json.specs.Written.{compact_text}
use Rattle.ccr_history.specs.Sources.{source_or_empty}
use Rattle.ccr_history.specs.Scopes.{ScopeData}
use Rattle.ccr_pipeline.specs.Tree.{Text}

-- the scope that versions belong to of a resource with this name, type and source: the source is there as compact text
abbrev pub scope_with : Text → Text → Option Data → ScopeData
scope_with name kind source = record { resource = name; kind = kind; source = compact_text (source_or_empty source) }
