-- The timeouts of gets, puts and tasks: no key of a step that may be there, but a launcher is told them.
use Rattle.std.specs.Prelude.{List, [], ◌∷◌, Bool, true, false, codes, if◌then◌else◌}
use Rattle.std.specs.List.{flat_map}
use Rattle.serde_json.specs.Data.{Data}
use Rattle.ccr_pipeline.specs.declared.schema.Schema.{Schema}
use Rattle.ccr_pipeline.specs.declared.schema.Schema.TheVariants as schema
use Rattle.ccr_pipeline.specs.Faults.{Path}
use Rattle.ccr_pipeline.specs.Keys.{at_key, or_else, path_below}
use Rattle.ccr_pipeline.specs.Places.{Part, Opening, Closing, Spot, all_steps}
use Rattle.ccr_pipeline.specs.Schema.{schema_of}

-- steps of the schema start programs themselves
abbrev pub starts : Schema → Bool
starts schema.Get = true
starts schema.Put = true
starts schema.Task = true
starts schema.FileTask = true
starts _ = false

-- the path of the timeout of an object, where it starts programs and has one
abbrev pub timeout_below : Schema → Path → Data → List Path
timeout_below s p d =
    if starts s then or_else (at_key (codes "timeout") d) [] (λ found. path_below p (codes "timeout") ∷ []) else []

-- the first of the two visits of a step tells its timeout
abbrev pub timeout_by : Part → Path → Data → List Path
timeout_by Opening p d = timeout_below (schema_of d) p d
timeout_by Closing p d = []

-- the timeout of the visited step
abbrev pub timeout_spot : Spot → List Path
timeout_spot x = timeout_by x.part x.path x.step

-- the timeouts of a pipeline's gets, puts and tasks, each by its path
unfoldable pub timeouts_in : Data → List Path
timeouts_in d = flat_map timeout_spot (all_steps d)
