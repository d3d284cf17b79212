-- Sources of resources.
use Rattle.std.specs.Prelude.{Option, unwrap_or}
use Rattle.serde_json.specs.Data.{Data, object, no_members}

-- a resource's source: an absent one is the object without members
abbrev pub source_or_empty : Option Data → Data
source_or_empty source = unwrap_or source (object no_members)
