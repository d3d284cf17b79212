-- What a value is read as, where no fault is present in it. What is absent is empty, false or none.
use Rattle.std.specs.Prelude.{ℕ, List, [], ◌∷◌, Bool, false, Option, is_some, option_and_then, unwrap_or, codes, if◌then◌else◌}
use Rattle.std.specs.Str.{bytes_eq}
use Rattle.serde_json.specs.Data.{Data, null, Items, no_items, item, Members, no_members, member}
use Rattle.serde_json.specs.Find.{as_null, as_str, as_bool, as_number, as_u64, as_object}
use Rattle.serde_json.specs.Written.{has_float, compact_text}
use Rattle.ccr_history.specs.Objects.{object_of}
use Rattle.ccr_history.specs.TextMap.{TextMap, text_map_of}
use Rattle.ccr_pipeline.specs.Keys.{at_key, or_else, list_at}
use Rattle.ccr_pipeline.specs.Names.{text_at, texts_in}
use Rattle.ccr_pipeline.specs.Tree.{Text, WantedData, latest, every, pinned, GetData, PutData, RunData, ConfigData, SourceData, config, file, TaskData}

-- the text at a key, or another where none is
abbrev pub text_or : Text → List ℕ → Data → Text
text_or absent k d = unwrap_or (text_at k d) absent

-- the texts of the list at a key
abbrev pub texts_from : List ℕ → Data → List Text
texts_from k d = texts_in (list_at k d)

-- whether true stands at a key
abbrev pub truth_from : List ℕ → Data → Bool
truth_from k d = or_else (at_key k d) false (λ found. unwrap_or (as_bool found) false)

-- the number at a key
abbrev pub whole_from : List ℕ → Data → ℕ
whole_from k d = or_else (at_key k d) 0 (λ found. unwrap_or (option_and_then as_u64 (as_number found)) 0)

-- the pin at a key
abbrev pub pin_from : List ℕ → Data → Option TextMap
pin_from k d = option_and_then text_map_of (at_key k d)

-- the object at a key
abbrev pub object_at : List ℕ → Data → Option Data
object_at k d = option_and_then object_of (at_key k d)

-- the value of a variable: a text as it stands, nothing for null, else compact JSON
abbrev pub variable_value : Data → Text
variable_value d =
    or_else (as_str d) (if is_some (as_null d) then [] else (if has_float d then [] else compact_text d)) (λ s. s)

-- an object's members as variables, in the order of their names
abbrev pub variables_in : Members → List (Text × Text)
variables_in no_members = []
variables_in (member k d ms) = (k, variable_value d) ∷ variables_in ms

-- the variables at a key
abbrev pub variables_from : List ℕ → Data → List (Text × Text)
variables_from k d = or_else (at_key k d) [] (λ found. or_else (as_object found) [] variables_in)

-- what a value says of a program: its path, its arguments and its folder
abbrev pub run_of : Data → RunData
run_of d = record {
  path = text_or [] (codes "path") d;
  args = texts_from (codes "args") d;
  dir = text_at (codes "dir") d;
}

-- the program that a config runs
abbrev pub run_from : Data → RunData
run_from d = run_of (unwrap_or (at_key (codes "run") d) null)

-- the members of a list as a task's inputs: a name, and whether the input is optional
abbrev pub inputs_in : Items → List (Text × Bool)
inputs_in no_items = []
inputs_in (item d ds) = (text_or [] (codes "name") d, truth_from (codes "optional") d) ∷ inputs_in ds

-- a config's inputs
abbrev pub inputs_from : Data → List (Text × Bool)
inputs_from d = inputs_in (list_at (codes "inputs") d)

-- the names of the members of a list
abbrev pub outputs_in : Items → List Text
outputs_in no_items = []
outputs_in (item d ds) = text_or [] (codes "name") d ∷ outputs_in ds

-- a config's outputs
abbrev pub outputs_from : Data → List Text
outputs_from d = outputs_in (list_at (codes "outputs") d)

-- a task config
abbrev pub config_from : Data → ConfigData
config_from d = record {
  run = run_from d;
  inputs = inputs_from d;
  outputs = outputs_from d;
  params = variables_from (codes "params") d;
}

-- a config, where there is one, else a file
abbrev pub source_from : Data → SourceData
source_from d =
    or_else (at_key (codes "config") d) (file (text_or [] (codes "file") d)) (λ found. config (config_from found))

-- a task step
abbrev pub task_from : Data → TaskData
task_from d = record {
  name = text_or [] (codes "task") d;
  source = source_from d;
  params = variables_from (codes "params") d;
  timeout = text_at (codes "timeout") d;
}

-- a text is every or latest, an object a pin
abbrev pub wanted_in : Data → WantedData
wanted_in d =
    or_else (as_str d) (or_else (text_map_of d) latest pinned)
    (λ s. if bytes_eq s (codes "every") then every else latest)

-- which versions a get wants: the latest, where it says nothing
abbrev pub wanted_from : Data → WantedData
wanted_from d = or_else (at_key (codes "version") d) latest wanted_in

-- the resource of a get or put is its name, where it isn't said
abbrev pub get_from : Data → GetData
get_from d = record {
  name = text_or [] (codes "get") d;
  resource = text_or (text_or [] (codes "get") d) (codes "resource") d;
  passed = texts_from (codes "passed") d;
  trigger = truth_from (codes "trigger") d;
  params = object_at (codes "params") d;
  wanted = wanted_from d;
  timeout = text_at (codes "timeout") d;
}

-- a put, whose resource is its name, where it says no other
abbrev pub put_from : Data → PutData
put_from d = record {
  name = text_or [] (codes "put") d;
  resource = text_or (text_or [] (codes "put") d) (codes "resource") d;
  params = object_at (codes "params") d;
  get_params = object_at (codes "get_params") d;
  no_get = truth_from (codes "no_get") d;
  timeout = text_at (codes "timeout") d;
}
