-- The environment of a task.
use Rattle.std.specs.Prelude.{◌≡◌, List, ◌++◌, Option, Some, None, option_map, String, string_bytes}
use Rattle.std.specs.BTreeMap.{BTreeMap, get_by_text}
use Rattle.std.specs.List.Sorted.{IsStrictlySortedBy}
use Rattle.std.specs.Map.{keys_of, lookup}
use Rattle.std.specs.Ordering.{nat_cmp}
use Rattle.std.specs.Str.{bytes_eq}
use Rattle.std.specs.Cmp.Lexicographic.{slice_cmp}
use Rattle.std.specs.declared.alloc.Global.{Global}
use Rattle.ccr_pipeline.specs.Tree.{Text}

-- variables, each a name and its value
abbrev pub Variables : Type 0
Variables = List (Text × Text)

-- the value of the first variable of this name
abbrev pub value_of : Text → Variables → Option Text
value_of name vs = lookup (bytes_eq name) vs

-- the names ascend by bytes, so each stands once
abbrev pub IsAscending : Variables → Type 0
IsAscending vs = IsStrictlySortedBy (slice_cmp nat_cmp) (keys_of vs)

-- a task's environment: the step's variables and those of the config that the step doesn't have, names ascending
-- (Concourse: task step, params)
pub record IsEnvironment (config step env : Variables) : Type 0 where
  pub ascending : IsAscending env
  pub values : (name : Text) → value_of name env ≡ value_of name (step ++ config)

-- a map of variables while it is made
abbrev pub VariableMap : Type 0
VariableMap = BTreeMap (String Global) (String Global)

-- what it has at a name
abbrev pub value_at : VariableMap → Text → Option Text
value_at env name = option_map string_bytes (get_by_text env name)

-- the one value, or the other where it is absent
abbrev pub or_value : Option Text → Option Text → Option Text
or_value None other = other
or_value (Some value) other = Some value

-- the map has gained the variables whose names it didn't have
abbrev pub GainsNew : VariableMap → Variables → VariableMap → Type 0
GainsNew old vs new = (name : Text) → value_at new name ≡ or_value (value_at old name) (value_of name vs)
