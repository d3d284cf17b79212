-- What was read of a pipeline, printed as a JSON value.
use Rattle.std.specs.Prelude.{ℕ, List, [], ◌∷◌, ◌++◌, Bool, Option, Some, None, option_map, unwrap_or, codes}
use Rattle.serde_json.specs.Data.{unsigned, Data, null, boolean, number, string, array, object, Items, no_items, item, Members, no_members, put as put_member}
use Rattle.ccr_history.specs.TextMap.{members_of}
use Rattle.ccr_pipeline.specs.declared.step.When.{When}
use Rattle.ccr_pipeline.specs.declared.step.When.TheVariants.{OnSuccess, OnFailure, OnError, OnAbort, Ensure}
use Rattle.ccr_pipeline.specs.JobData.{ResourceData, JobData}
use Rattle.ccr_pipeline.specs.Tree.{Text, WantedData, latest, every, pinned, GetData, PutData, RunData, ConfigData, SourceData, config, file, TaskData, Tree, Trees, get, put, task, in_order, in_parallel, tried, attempts, hook, no_trees, tree}

-- a key, and what stands at it
abbrev pub Field : Type 0
Field = List ℕ × Data

-- the members of an object with these fields, their keys ascending
abbrev pub members_from : List Field → Members
members_from [] = no_members
members_from (f ∷ fs) = put_member f.0 f.1 (members_from fs)

-- an object with these fields
abbrev pub made : List Field → Data
made fs = object (members_from fs)

-- null where nothing is, which is as absent
abbrev pub or_null : Option Data → Data
or_null o = unwrap_or o null

-- the items of a list of texts
abbrev pub strings : List Text → Items
strings [] = no_items
strings (s ∷ ss) = item (string s) (strings ss)

-- a list of texts
abbrev pub text_list : List Text → Data
text_list ss = array (strings ss)

-- an object whose fields are texts
abbrev pub text_object : List (Text × Text) → Data
text_object fields = object (members_of fields)

-- which versions a get wants
abbrev pub wanted_value : WantedData → Data
wanted_value latest = string (codes "latest")
wanted_value every = string (codes "every")
wanted_value (pinned fields) = text_object fields

-- what stands around a step: its attempts and its hooks, as far as it has them
pub record Around : Type 0 where
  pub attempts : Option ℕ
  pub on_success : Option Data
  pub on_failure : Option Data
  pub on_error : Option Data
  pub on_abort : Option Data
  pub ensure : Option Data

-- a step without attempts and hooks
abbrev pub alone : Around
alone = record { attempts = None; on_success = None; on_failure = None; on_error = None; on_abort = None; ensure = None }

-- with one more hook
abbrev pub with_printed : When → Data → Around → Around
with_printed OnSuccess h a = record a { on_success = Some h }
with_printed OnFailure h a = record a { on_failure = Some h }
with_printed OnError h a = record a { on_error = Some h }
with_printed OnAbort h a = record a { on_abort = Some h }
with_printed Ensure h a = record a { ensure = Some h }

-- the hooks
abbrev pub hook_fields : Around → List Field
hook_fields a =
    (codes "on_success", or_null a.on_success) ∷ (codes "on_failure", or_null a.on_failure)
    ∷ (codes "on_error", or_null a.on_error) ∷ (codes "on_abort", or_null a.on_abort)
    ∷ (codes "ensure", or_null a.ensure) ∷ []

-- the attempts and the hooks
abbrev pub around_fields : Around → List Field
around_fields a = (codes "attempts", or_null (option_map (λ n. number (unsigned n)) a.attempts)) ∷ hook_fields a

-- the timeout of a step that starts programs
abbrev pub timeout_field : Option Text → Field
timeout_field o = (codes "timeout", or_null (option_map string o))

-- a get
abbrev pub get_value : Around → GetData → Data
get_value a g = made (
    (codes "get", string g.name) ∷ (codes "resource", string g.resource) ∷ (codes "passed", text_list g.passed)
    ∷ (codes "trigger", boolean g.trigger) ∷ (codes "params", or_null g.params)
    ∷ (codes "version", wanted_value g.wanted) ∷ timeout_field g.timeout ∷ around_fields a)

-- a put
abbrev pub put_value : Around → PutData → Data
put_value a p = made (
    (codes "put", string p.name) ∷ (codes "resource", string p.resource) ∷ (codes "params", or_null p.params)
    ∷ (codes "get_params", or_null p.get_params) ∷ (codes "no_get", boolean p.no_get) ∷ timeout_field p.timeout
    ∷ around_fields a)

-- the program of a task
abbrev pub run_value : RunData → Data
run_value r = made (
    (codes "path", string r.path) ∷ (codes "args", text_list r.args)
    ∷ (codes "dir", or_null (option_map string r.dir)) ∷ [])

-- an input of a task
abbrev pub input_value : Text × Bool → Data
input_value i = made ((codes "name", string i.0) ∷ (codes "optional", boolean i.1) ∷ [])

-- a task's inputs
abbrev pub input_values : List (Text × Bool) → Items
input_values [] = no_items
input_values (i ∷ is) = item (input_value i) (input_values is)

-- a task's outputs
abbrev pub output_values : List Text → Items
output_values [] = no_items
output_values (s ∷ ss) = item (made ((codes "name", string s) ∷ [])) (output_values ss)

-- a task's config
abbrev pub config_value : ConfigData → Data
config_value c = made (
    (codes "run", run_value c.run) ∷ (codes "inputs", array (input_values c.inputs))
    ∷ (codes "outputs", array (output_values c.outputs)) ∷ (codes "params", text_object c.params) ∷ [])

-- what says how a task runs
abbrev pub source_field : SourceData → Field
source_field (config c) = (codes "config", config_value c)
source_field (file path) = (codes "file", string path)

-- a task
abbrev pub task_value : Around → TaskData → Data
task_value a t = made (
    (codes "task", string t.name) ∷ source_field t.source ∷ (codes "params", text_object t.params)
    ∷ timeout_field t.timeout ∷ around_fields a)

-- a step, with what stands around it
abbrev mutual
  pub printed : Around → Tree → Data
  printed a (get g) = get_value a g
  printed a (put p) = put_value a p
  printed a (task t) = task_value a t
  printed a (in_order ts) = made ((codes "do", array (printed_each ts)) ∷ around_fields a)
  printed a (in_parallel ts fast) = made (
      (codes "in_parallel", made ((codes "steps", array (printed_each ts)) ∷ (codes "fail_fast", boolean fast) ∷ []))
      ∷ around_fields a)
  printed a (tried t) = made ((codes "try", printed alone t) ∷ around_fields a)
  printed a (attempts n t) = printed (record a { attempts = Some n }) t
  printed a (hook w t h) = printed (with_printed w (printed alone h) a) t

  -- the steps of a list
  pub printed_each : Trees → Items
  printed_each no_trees = no_items
  printed_each (tree t ts) = item (printed alone t) (printed_each ts)

-- a job's plan, which is a do, and the job's hooks
abbrev pub plan_fields : Around → Tree → List Field
plan_fields a (in_order ts) = (codes "plan", array (printed_each ts)) ∷ hook_fields a
plan_fields a (hook w t h) = plan_fields (with_printed w (printed alone h) a) t
plan_fields a _ = []

-- a job but for its plan and its hooks
abbrev pub job_fields : JobData → List Field
job_fields j =
    (codes "name", string j.name) ∷ (codes "serial", boolean j.serial)
    ∷ (codes "serial_groups", text_list j.serial_groups)
    ∷ (codes "max_in_flight", number (unsigned j.max_in_flight)) ∷ []

-- a job
abbrev pub job_value : JobData → Data
job_value j = made (job_fields j ++ plan_fields alone j.plan)

-- the jobs of a list
abbrev pub job_values : List JobData → Items
job_values [] = no_items
job_values (j ∷ js) = item (job_value j) (job_values js)

-- a resource
abbrev pub resource_value : ResourceData → Data
resource_value r = made (
    (codes "name", string r.name) ∷ (codes "type", string r.kind) ∷ (codes "source", or_null r.source)
    ∷ (codes "version", or_null (option_map text_object r.version)) ∷ [])

-- the resources of a list
abbrev pub resource_values : List ResourceData → Items
resource_values [] = no_items
resource_values (r ∷ rs) = item (resource_value r) (resource_values rs)

-- a pipeline
abbrev pub pipeline_value : List ResourceData → List JobData → Data
pipeline_value rs js = made (
    (codes "resources", array (resource_values rs)) ∷ (codes "jobs", array (job_values js)) ∷ [])
