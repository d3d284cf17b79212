-- The keys of Concourse's pipelines that have no effect here, and where a key has one.
use Rattle.std.specs.Prelude.{List, [], ◌∷◌, ◌&&◌, ◌||◌, Bool, true, false, Option, Some, None, map, is_some, codes, if◌then◌else◌}
use Rattle.std.specs.Borrow.{Bor}
use Rattle.std.specs.Option.{option_or}
use Rattle.std.specs.Str.{bytes_eq}
use Rattle.serde_json.specs.Data.{Data}
use Rattle.ccr_pipeline.specs.declared.schema.Schema.{Schema}
use Rattle.ccr_pipeline.specs.declared.schema.Schema.TheVariants as schema
use Rattle.ccr_pipeline.specs.Schema.{Row, opening, closing}
use Rattle.ccr_pipeline.specs.Tree.{Text}
use Rattle.ccr_findings.specs.declared.stand.Keys.TheVariants.{Of}
use Rattle.ccr_findings.specs.Near.{is_like}
use Rattle.ccr_findings.specs.Stands.{kind_in, kind_at}
use Rattle.ccr_findings.specs.Timeouts.{timeout_remedy}

-- the objects in which a misplaced key is looked for, those with gates first
abbrev pub owners : List Schema
owners =
    schema.Get ∷ schema.Put ∷ schema.Task ∷ schema.FileTask ∷ schema.Job ∷ schema.Resource ∷ schema.Parallel
    ∷ schema.Config ∷ schema.Run ∷ schema.Input ∷ schema.Output ∷ schema.Holder ∷ schema.Pipeline ∷ []

-- what an object is called in a line
abbrev pub name_of : Schema → Text
name_of schema.Pipeline = codes "the pipeline"
name_of schema.Resource = codes "a resource"
name_of schema.Job = codes "a job"
name_of schema.Undone = codes "nothing"
name_of schema.Get = codes "get"
name_of schema.Put = codes "put"
name_of schema.Task = codes "task"
name_of schema.FileTask = codes "task"
name_of schema.Holder = codes "a step"
name_of schema.Parallel = codes "in_parallel"
name_of schema.Config = codes "a task's config"
name_of schema.Run = codes "run"
name_of schema.Input = codes "an input"
name_of schema.Output = codes "an output"

-- a key of Concourse without effect here, and what to do in its place
abbrev pub Idle : Type 0
Idle = Text × Text

-- what to do in the place of a time limit
abbrev pub limit : Text
limit = codes "wrap the program in one that has a time limit"

-- what to do in the place of variables
abbrev pub values : Text
values = codes "put values in before set-pipeline"

-- what to do in the place of a type that the pipeline brings
abbrev pub own_type : Text
own_type = codes "the programs of a type are in the directory of types"

-- what to do in the place of a picture that a task would run in
abbrev pub image : Text
image = codes "a task runs on this machine itself: install there what it needs"

-- what to do in the place of rights that a task would have
abbrev pub rights : Text
rights = codes "a task runs as the user of ccr_run, or as a launcher (--launcher) has it run"

-- what to do in the place of a container's bounds
abbrev pub bounds : Text
bounds = codes "there are no containers; a launcher (--launcher) can set bounds"

-- what to do in the place of a choice among machines
abbrev pub machine : Text
machine = codes "all programs run on this machine; leave it out"

-- what to do in the place of what is hidden
abbrev pub access : Text
access = codes "whoever may read the database sees all; leave it out"

-- what to do in the place of how long logs are kept
abbrev pub logs : Text
logs = codes "a launcher (--launcher) keeps logs, and its settings say how long"

-- those of a pipeline
abbrev pub idle_pipeline : List Idle
idle_pipeline =
    (codes "resource_types", own_type) ∷ (codes "groups", codes "jobs aren't grouped; leave it out")
    ∷ (codes "display", codes "nothing shows it; leave it out") ∷ (codes "var_sources", values)
    ∷ (codes "prototypes", own_type) ∷ []

-- those of a resource
abbrev pub idle_resource : List Idle
idle_resource =
    (codes "icon", codes "nothing shows it; leave it out") ∷ (codes "check_every", codes "each round checks each resource")
    ∷ (codes "check_timeout", limit)
    ∷ (codes "expose_build_created_by", codes "no build knows who made it; leave it out")
    ∷ (codes "webhook_token", codes "have the hook start a round: run --rounds 1") ∷ (codes "public", access)
    ∷ (codes "tags", machine) ∷ (codes "old_name", codes "under a new name a resource begins without versions") ∷ []

-- those of a job
abbrev pub idle_job : List Idle
idle_job =
    (codes "old_name", codes "under a new name a job begins without builds") ∷ (codes "public", access)
    ∷ (codes "build_log_retention", logs) ∷ (codes "build_logs_to_retain", logs)
    ∷ (codes "disable_manual_trigger", codes "trigger-job takes each job; leave it out")
    ∷ (codes "interruptible", codes "there are no workers to wait for; leave it out") ∷ []

-- those of a task, and what to do about a second source
abbrev pub idle_task : List Idle
idle_task =
    (codes "file", codes "the task has a config; leave one of the two out") ∷ (codes "image", image)
    ∷ (codes "privileged", rights)
    ∷ (codes "vars", codes "give values as params, which are the task's environment") ∷ (codes "container_limits", bounds)
    ∷ (codes "hermetic", codes "a launcher (--launcher) can take the network away") ∷ (codes "tags", machine) ∷ []

-- those of a task's config
abbrev pub idle_config : List Idle
idle_config =
    (codes "image_resource", image) ∷ (codes "rootfs_uri", image)
    ∷ (codes "caches", codes "keep files in a directory outside of the build's") ∷ (codes "container_limits", bounds) ∷ []

-- the keys of an object that Concourse knows and that have no effect here, but for the timeout of a get, put or task
abbrev pub idle_keys : Schema → List Idle
idle_keys schema.Pipeline = idle_pipeline
idle_keys schema.Resource = idle_resource
idle_keys schema.Job = idle_job
idle_keys schema.Undone = []
idle_keys schema.Get = (codes "tags", machine) ∷ (codes "container_limits", bounds) ∷ []
idle_keys schema.Put =
    (codes "inputs", codes "a put has all artifacts; leave it out") ∷ (codes "tags", machine)
    ∷ (codes "container_limits", bounds) ∷ []
idle_keys schema.Task = idle_task
idle_keys schema.FileTask = idle_task
idle_keys schema.Holder = (codes "timeout", codes "put it at each step in it") ∷ (codes "tags", machine) ∷ []
idle_keys schema.Parallel = (codes "limit", codes "its steps run one after another; leave it out") ∷ []
idle_keys schema.Config = idle_config
idle_keys schema.Run = (codes "user", rights) ∷ []
idle_keys schema.Input = []
idle_keys schema.Output = []

-- the rows of a table, by the bytes of their texts
abbrev pub idle_rows : List (Bor Text × Bor Text) → List Idle
idle_rows table = map (λ r. (r.0.now, r.1.now)) table

-- what to do in the place of a key, by the rows of a table
abbrev pub remedy_in : List Idle → Text → Option Text
remedy_in [] key = None
remedy_in (r ∷ rs) key = if bytes_eq r.0 key then Some r.1 else remedy_in rs key

-- steps of the schema have a timeout
abbrev pub has_timeout : Schema → Bool
has_timeout schema.Get = true
has_timeout schema.Put = true
has_timeout schema.Task = true
has_timeout schema.FileTask = true
has_timeout s = false

-- what to do in the place of a key that Concourse knows, by what stands there
abbrev pub remedy_of : Schema → Text → Data → Option Text
remedy_of s key d = if has_timeout s && bytes_eq key (codes "timeout") then Some (timeout_remedy d) else
    remedy_in (idle_keys s) key

-- the first key of a table that this one looks like
abbrev pub like_in : List Row → Text → Option Text
like_in [] key = None
like_in (r ∷ rs) key = if is_like key r.2 then Some r.2 else like_in rs key

-- the key with an effect in the object that this one looks like
abbrev pub meant_key : Schema → Text → Option Text
meant_key s key = option_or (like_in (opening s) key) (like_in (closing s) key)

-- the key has an effect in the object
abbrev pub has_effect : Schema → Text → Bool
has_effect s key = is_some (kind_at (Of s) key)

-- the first of the objects in which the key has an effect
abbrev pub owner_in : List Schema → Text → Option Schema
owner_in [] key = None
owner_in (s ∷ ss) key = if has_effect s key then Some s else owner_in ss key

-- an object in which the key has an effect
unfoldable pub owner_of : Text → Option Schema
owner_of key = owner_in owners key

-- an object of the schema is a step
abbrev pub is_step : Schema → Bool
is_step schema.Get = true
is_step schema.Put = true
is_step schema.Task = true
is_step schema.FileTask = true
is_step schema.Holder = true
is_step s = false

-- the key of a step is no key without effect, but a fault: it says another kind of step, or what isn't done here
abbrev pub is_fault : Text → Bool
is_fault key = is_some (kind_in (opening schema.Undone) key) || (bytes_eq key (codes "get") || (bytes_eq key (codes "put")
    || (bytes_eq key (codes "task") || is_some (kind_in (opening schema.Holder) key))))

-- nothing is said of the key as one without effect
abbrev pub is_passed_over : Schema → Text → Bool
is_passed_over s key = has_effect s key || (is_step s && is_fault key)
