-- The format of pipelines and task files: the keys of each object, in the order in which they are read.
use Rattle.std.specs.Prelude.{ℕ, List, [], ◌∷◌, map, Bool, not, ◌&&◌, ◌||◌, is_some, codes, if◌then◌else◌}
use Rattle.std.specs.Borrow.{Bor}
use Rattle.std.specs.List.{list_any}
use Rattle.std.specs.Str.{bytes_eq}
use Rattle.serde_json.specs.Data.{Data}
use Rattle.ccr_pipeline.specs.declared.schema.Need.{Need}
use Rattle.ccr_pipeline.specs.declared.schema.Need.TheVariants.{New, Must, May}
use Rattle.ccr_pipeline.specs.declared.schema.Kind.{Kind}
use Rattle.ccr_pipeline.specs.declared.schema.Kind.TheVariants as kind
use Rattle.ccr_pipeline.specs.declared.schema.Schema.{Schema}
use Rattle.ccr_pipeline.specs.declared.schema.Schema.TheVariants as schema
use Rattle.ccr_pipeline.specs.Keys.{at_key}

-- a key: whether it has to be there, what stands at it, and its text
abbrev pub Row : Type 0
Row = Need × Kind × List ℕ

-- the keys before the steps that an object holds
abbrev pub opening : Schema → List Row
opening schema.Pipeline =
    (May, kind.Objects schema.Resource, codes "resources") ∷ (May, kind.Objects schema.Job, codes "jobs") ∷ []
opening schema.Resource =
    (New, kind.Name, codes "name") ∷ (Must, kind.Name, codes "type") ∷ (May, kind.Params, codes "source")
    ∷ (May, kind.Fields, codes "version") ∷ []
opening schema.Job = (New, kind.Name, codes "name") ∷ (Must, kind.Steps, codes "plan") ∷ []
opening schema.Undone =
    (May, kind.Undone, codes "across") ∷ (May, kind.Undone, codes "set_pipeline") ∷ (May, kind.Undone, codes "load_var")
    ∷ (May, kind.Undone, codes "aggregate") ∷ []
opening schema.Get =
    (New, kind.Name, codes "get") ∷ (May, kind.Text, codes "resource") ∷ (May, kind.Texts, codes "passed")
    ∷ (May, kind.Truth, codes "trigger") ∷ (May, kind.Params, codes "params") ∷ (May, kind.Wanted, codes "version") ∷ []
opening schema.Put =
    (Must, kind.Name, codes "put") ∷ (May, kind.Text, codes "resource") ∷ (May, kind.Params, codes "params")
    ∷ (May, kind.Params, codes "get_params") ∷ (May, kind.Truth, codes "no_get") ∷ []
opening schema.Task =
    (Must, kind.Text, codes "task") ∷ (Must, kind.Object schema.Config, codes "config")
    ∷ (May, kind.Params, codes "params") ∷ (May, kind.Nothing, codes "input_mapping")
    ∷ (May, kind.Nothing, codes "output_mapping") ∷ []
opening schema.FileTask =
    (Must, kind.Text, codes "task") ∷ (Must, kind.Text, codes "file") ∷ (May, kind.Params, codes "params")
    ∷ (May, kind.Nothing, codes "input_mapping") ∷ (May, kind.Nothing, codes "output_mapping") ∷ []
opening schema.Holder =
    (May, kind.Steps, codes "do") ∷ (May, kind.Parallel, codes "in_parallel") ∷ (May, kind.Step, codes "try") ∷ []
opening schema.Parallel = (Must, kind.Steps, codes "steps") ∷ []
opening schema.Config =
    (Must, kind.Object schema.Run, codes "run") ∷ (May, kind.Objects schema.Input, codes "inputs")
    ∷ (May, kind.Objects schema.Output, codes "outputs") ∷ (May, kind.Params, codes "params")
    ∷ (May, kind.Any, codes "platform") ∷ []
opening schema.Run = (Must, kind.Text, codes "path") ∷ (May, kind.Texts, codes "args") ∷ (May, kind.Text, codes "dir") ∷ []
opening schema.Input =
    (New, kind.Name, codes "name") ∷ (May, kind.OwnName, codes "path") ∷ (May, kind.Truth, codes "optional") ∷ []
opening schema.Output = (New, kind.Name, codes "name") ∷ (May, kind.OwnName, codes "path") ∷ []

-- the hooks of a step or a job
abbrev pub hooks : List Row
hooks =
    (May, kind.Step, codes "on_success") ∷ (May, kind.Step, codes "on_failure") ∷ (May, kind.Step, codes "on_error")
    ∷ (May, kind.Step, codes "on_abort") ∷ (May, kind.Step, codes "ensure") ∷ []

-- the keys of any step after its own
abbrev pub modifiers : List Row
modifiers = (May, kind.Attempts, codes "attempts") ∷ hooks

-- the keys after the steps that an object holds
abbrev pub closing : Schema → List Row
closing schema.Pipeline = []
closing schema.Resource = []
closing schema.Job =
    (May, kind.Truth, codes "serial") ∷ (May, kind.Texts, codes "serial_groups")
    ∷ (May, kind.Whole, codes "max_in_flight") ∷ hooks
closing schema.Undone = []
closing schema.Get = modifiers
closing schema.Put = modifiers
closing schema.Task = modifiers
closing schema.FileTask = modifiers
closing schema.Holder = modifiers
closing schema.Parallel = (May, kind.Truth, codes "fail_fast") ∷ []
closing schema.Config = []
closing schema.Run = []
closing schema.Input = []
closing schema.Output = []

-- the rows of a table, by the bytes of their keys
abbrev pub rows : List (Need × Kind × Bor (List ℕ)) → List Row
rows table = map (λ r. (r.0, r.1, r.2.now)) table

-- one of the rows has the key
abbrev pub has_row : List Row → List ℕ → Bool
has_row rs k = list_any (λ r. bytes_eq r.2 k) rs

-- objects of the schema may have the key
abbrev pub has_key : Schema → List ℕ → Bool
has_key s k = has_row (opening s) k || has_row (closing s) k

-- the keys that a step has by its kind; a task without a config has a file, where one is there
abbrev pub schema_of : Data → Schema
schema_of d =
    if is_some (at_key (codes "get") d) then schema.Get else
    (if is_some (at_key (codes "put") d) then schema.Put else
    (if not (is_some (at_key (codes "task") d)) then schema.Holder else
    (if not (is_some (at_key (codes "config") d)) && is_some (at_key (codes "file") d) then schema.FileTask else
    schema.Task)))
