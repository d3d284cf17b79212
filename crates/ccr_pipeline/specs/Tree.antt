-- What the types of this crate hold, without where it lies in memory.
use Rattle.std.specs.Prelude.{ℕ, Bool, List, [], ◌∷◌, ◌++◌, Option, map, option_map, string_bytes, codes}
use Rattle.serde_json.specs.Data.{Data}
use Rattle.ccr_history.specs.ObjectData.{object_data}
use Rattle.ccr_history.specs.TextMap.{TextMap}
use Rattle.ccr_pipeline.specs.declared.task.Run.{Run}
use Rattle.ccr_pipeline.specs.declared.task.TaskInput.{TaskInput}
use Rattle.ccr_pipeline.specs.declared.task.Variable.{Variable}
use Rattle.ccr_pipeline.specs.declared.task.TaskConfig.{TaskConfig}
use Rattle.ccr_pipeline.specs.declared.task.TaskSource.{TaskSource}
use Rattle.ccr_pipeline.specs.declared.task.TaskSource.TheVariants.{Config, File}
use Rattle.ccr_pipeline.specs.declared.task.Task.{Task}
use Rattle.ccr_pipeline.specs.declared.step.Wanted.{Wanted}
use Rattle.ccr_pipeline.specs.declared.step.Wanted.TheVariants.{Latest, Every, Pinned}
use Rattle.ccr_pipeline.specs.declared.step.Get.{Get}
use Rattle.ccr_pipeline.specs.declared.step.Put.{Put}
use Rattle.ccr_pipeline.specs.declared.step.When.{When}
use Rattle.ccr_pipeline.specs.declared.step.Step.{Step}
use Rattle.ccr_pipeline.specs.declared.step.Step.TheOpen.{Step-F}
use Rattle.ccr_pipeline.specs.declared.step.Step.TheFolds.{fold-Step}
use Rattle.ccr_pipeline.specs.declared.step.When.TheVariants.{OnSuccess, OnFailure, OnError, OnAbort, Ensure}

-- the bytes of a text
abbrev pub Text : Type 0
Text = List ℕ

-- which versions a get wants: the latest, each in turn, or those that meet a pin
pub data WantedData : Type 0 where
  latest : WantedData
  every : WantedData
  pinned : TextMap → WantedData

-- which versions a get wants, without where they lie in memory
abbrev pub wanted_data : Wanted → WantedData
wanted_data Latest = latest
wanted_data Every = every
wanted_data (Pinned p) = pinned p

-- what a get holds
pub record GetData : Type 0 where
  pub name : Text
  pub resource : Text
  pub passed : List Text
  pub trigger : Bool
  pub params : Option Data
  pub wanted : WantedData
  pub timeout : Option Text

-- what a get holds, without where it lies in memory
abbrev pub get_data : Get → GetData
get_data g = record {
  name = string_bytes g.name;
  resource = string_bytes g.resource;
  passed = map string_bytes g.passed.items;
  trigger = g.trigger;
  params = option_map object_data g.params;
  wanted = wanted_data g.wanted;
  timeout = option_map string_bytes g.timeout;
}

-- what a put holds
pub record PutData : Type 0 where
  pub name : Text
  pub resource : Text
  pub params : Option Data
  pub get_params : Option Data
  pub no_get : Bool
  pub timeout : Option Text

-- what a put holds, without where it lies in memory
abbrev pub put_data : Put → PutData
put_data p = record {
  name = string_bytes p.name;
  resource = string_bytes p.resource;
  params = option_map object_data p.params;
  get_params = option_map object_data p.get_params;
  no_get = p.no_get;
  timeout = option_map string_bytes p.timeout;
}

-- the program of a task: its path, its arguments and its folder
pub record RunData : Type 0 where
  pub path : Text
  pub args : List Text
  pub dir : Option Text

-- the program of a task, without where it lies in memory
abbrev pub run_data : Run → RunData
run_data r = record {
  path = string_bytes r.path;
  args = map string_bytes r.args.items;
  dir = option_map string_bytes r.dir;
}

-- an input by its name, and whether it is optional
abbrev pub input_data : TaskInput → Text × Bool
input_data i = (string_bytes i.name, i.optional)

-- a variable by its name, and its value
abbrev pub variable_data : Variable → Text × Text
variable_data v = (string_bytes v.name, string_bytes v.value)

-- a task's config: its program, its inputs, the names of its outputs, and its variables
pub record ConfigData : Type 0 where
  pub run : RunData
  pub inputs : List (Text × Bool)
  pub outputs : List Text
  pub params : List (Text × Text)

-- a task's config, without where it lies in memory
abbrev pub config_data : TaskConfig → ConfigData
config_data c = record {
  run = run_data c.run;
  inputs = map input_data c.inputs.items;
  outputs = map string_bytes c.outputs.items;
  params = map variable_data c.params.items;
}

-- what says how a task runs: its config, or a file
pub data SourceData : Type 0 where
  config : ConfigData → SourceData
  file : Text → SourceData

-- what says how a task runs, without where it lies in memory
abbrev pub source_data : TaskSource → SourceData
source_data (Config c) = config (config_data c)
source_data (File path) = file (string_bytes path)

-- what a task step holds
pub record TaskData : Type 0 where
  pub name : Text
  pub source : SourceData
  pub params : List (Text × Text)
  pub timeout : Option Text

-- what a task step holds, without where it lies in memory
abbrev pub task_data : Task → TaskData
task_data t = record {
  name = string_bytes t.name;
  source = source_data t.source;
  params = map variable_data t.params.items;
  timeout = option_map string_bytes t.timeout;
}

-- a step in its modifiers
mutual
  pub data Tree : Type 0 where
    get : GetData → Tree
    put : PutData → Tree
    task : TaskData → Tree
    in_order : Trees → Tree
    in_parallel : Trees → Bool → Tree
    tried : Tree → Tree
    attempts : ℕ → Tree → Tree
    hook : When → Tree → Tree → Tree

  -- the steps of a list
  pub data Trees : Type 0 where
    no_trees : Trees
    tree : Tree → Trees → Trees

-- a list of steps, as the steps of a tree
abbrev pub trees_of : List Tree → Trees
trees_of [] = no_trees
trees_of (t ∷ ts) = tree t (trees_of ts)

-- one level, with each step inside already seen as its tree
abbrev pub tree_step : Step-F Tree → Tree
tree_step (Step-F.Get g) = get (get_data g)
tree_step (Step-F.Put p) = put (put_data p)
tree_step (Step-F.Task t) = task (task_data t)
tree_step (Step-F.Do steps) = in_order (trees_of steps.items)
tree_step (Step-F.InParallel steps fast) = in_parallel (trees_of steps.items) fast
tree_step (Step-F.Try b) = tried b.value
tree_step (Step-F.Attempts n b) = attempts n b.value
tree_step (Step-F.Hook w b h) = hook w b.value h.value

-- the tree of a step
abbrev pub tree_of : Step → Tree
tree_of = fold-Step Tree tree_step

-- what the steps of a tree that hold no others give, each by f, in the order of the text
abbrev mutual
  pub gathered : (Tree → List Text) → Tree → List Text
  gathered f (get g) = f (get g)
  gathered f (put p) = f (put p)
  gathered f (task t) = f (task t)
  gathered f (in_order ts) = gathered_in f ts
  gathered f (in_parallel ts fast) = gathered_in f ts
  gathered f (tried t) = gathered f t
  gathered f (attempts n t) = gathered f t
  gathered f (hook w t h) = gathered f t ++ gathered f h

  -- what those of the steps of a list give
  pub gathered_in : (Tree → List Text) → Trees → List Text
  gathered_in f no_trees = []
  gathered_in f (tree t ts) = gathered f t ++ gathered_in f ts

-- the key under which a step has a hook
abbrev pub hook_key : When → List ℕ
hook_key OnSuccess = codes "on_success"
hook_key OnFailure = codes "on_failure"
hook_key OnError = codes "on_error"
hook_key OnAbort = codes "on_abort"
hook_key Ensure = codes "ensure"
