-- JSON objects whose numbers are all whole, as sources and params are.
use Rattle.std.specs.Prelude.{Bool, ◌&&◌, not, Option, Some, None, is_some, if◌then◌else◌}
use Rattle.serde_json.specs.Data.{Data}
use Rattle.serde_json.specs.Find.{as_object}
use Rattle.serde_json.specs.Written.{has_float}

-- the value is an object, and each number in it is whole
abbrev pub is_object : Data → Bool
is_object d = is_some (as_object d) && not (has_float d)

-- the object that a value is, if it is such a one
abbrev pub object_of : Data → Option Data
object_of d = if is_object d then Some d else None
