-- What checks and asks are launched as.
use Rattle.std.specs.Prelude.{◌≡◌, ◌<◌, ◌≤◌, ◌==◌, List, [], ◌∷◌, length, Bool, true, false, not, ◌||◌, Option, Some, None, is_some, Result, Ok, Err, codes, if◌then◌else◌, ⊤}
use Rattle.std.specs.List.{list_any}
use Rattle.serde_json.specs.Data.{Data}
use Rattle.ccr_history.specs.TextMap.{TextMap}
use Rattle.ccr_pipeline.specs.Tree.{Text, ConfigData}
use Rattle.ccr_pipeline.specs.JobData.{ResourceData}
use Rattle.ccr_pipeline.specs.Named.{resource_of}
use Rattle.ccr_steps.specs.Asks.{AskData, fetch, push, read_config, run_task}
use Rattle.ccr_protocol.specs.Requests.{request_text}
use Rattle.ccr_protocol.specs.declared.request.TheConstants.{MOST_REQUEST}
use Rattle.ccr_protocol.specs.declared.fault.RequestFault.{RequestFault}
use Rattle.ccr_protocol.specs.declared.fault.RequestFault.TheVariants.{TooLong, NoMemory}
use Rattle.ccr_process.specs.Launches.{LaunchData, launch_data}
use Rattle.ccr_process.specs.declared.launch.Launch.{Launch}
use Rattle.ccr_task.specs.Places.{PlacesData, below, program_path}
use Rattle.ccr_task.specs.Environment.{Variables, IsEnvironment}

-- a program of a resource's type: its request is its input, its output is kept, and its environment is the server's
abbrev pub program_launch : PlacesData → ResourceData → Text → List Text → Text → Text → LaunchData
program_launch places r name args folder request = record {
  program = program_path places r.kind name;
  args = args;
  folder = folder;
  env = [];
  input = request;
  keep = true;
}

-- a check runs in the folder of all builds, without an argument; it is told the newest version, if there is one
-- (Concourse: implementing a resource type, check)
abbrev pub check_launch : PlacesData → ResourceData → Option TextMap → LaunchData
check_launch places r version =
    program_launch places r (codes "check") [] places.work (request_text None r.source version)

-- a fetch runs in the build folder, and the artifact's folder in it is its only argument (Concourse: implementing a
-- resource type, in)
abbrev pub fetch_launch : PlacesData → Text → Text → ResourceData → TextMap → Option Data → LaunchData
fetch_launch places build artifact r version params =
    program_launch places r (codes "in") (below build artifact ∷ []) build (request_text params r.source (Some version))

-- a push runs in the build folder, which is its only argument (Concourse: implementing a resource type, out)
abbrev pub push_launch : PlacesData → Text → ResourceData → Option Data → LaunchData
push_launch places build r params =
    program_launch places r (codes "out") (build ∷ []) build (request_text params r.source None)

-- the text begins with a slash
abbrev pub begins_with_slash : Text → Bool
begins_with_slash [] = false
begins_with_slash (b ∷ bs) = b == 47

-- a path that begins with a slash, or a name without one, stands as it is; another path begins at the build folder
abbrev pub task_program : Text → Text → Text
task_program build path =
    if begins_with_slash path || not (list_any (λ b. b == 47) path) then path else below build path

-- a task runs in the build folder, or in the folder below it that its config names
abbrev pub task_folder : Text → Option Text → Text
task_folder build None = build
task_folder build (Some dir) = below build dir

-- a task's program in a build folder, with the step's variables: nothing is its input, and its output isn't kept
-- (Concourse: task config, run)
pub record IsTaskLaunch (build : Text) (config : ConfigData) (step : Variables) (l : LaunchData) : Type 0 where
  pub program : l.program ≡ task_program build config.run.path
  pub args : l.args ≡ config.run.args
  pub folder : l.folder ≡ task_folder build config.run.dir
  pub env : IsEnvironment config.params step l.env
  pub input : l.input ≡ []
  pub keep : l.keep ≡ false

-- this launch, or a refusal exactly where its input is more than a request may be; of memory it says nothing
abbrev pub Launches : LaunchData → Result Launch RequestFault → Type 0
Launches l (Ok launch) = (launch_data launch ≡ l) × (length l.input ≤ MOST_REQUEST)
Launches l (Err TooLong) = MOST_REQUEST < length l.input
Launches l (Err NoMemory) = ⊤

-- a task's launch is refused only where memory runs out
abbrev pub LaunchesTask : Text → ConfigData → Variables → Result Launch RequestFault → Type 0
LaunchesTask build config step (Ok launch) = IsTaskLaunch build config step (launch_data launch)
LaunchesTask build config step (Err TooLong) = ⊥
LaunchesTask build config step (Err NoMemory) = ⊤

-- an ask starts a program, if it asks for no file, and the pipeline has the resource that it names
abbrev pub can_launch : List ResourceData → AskData → Bool
can_launch rs (fetch artifact resource version params) = is_some (resource_of resource rs)
can_launch rs (push artifact resource params) = is_some (resource_of resource rs)
can_launch rs (read_config file) = false
can_launch rs (run_task config env) = true

-- an ask starts a program, if it asks for no file
abbrev pub starts_program : AskData → Bool
starts_program (fetch artifact resource version params) = true
starts_program (push artifact resource params) = true
starts_program (read_config file) = false
starts_program (run_task config env) = true

-- what an ask of a build that works in this folder is launched as: a fetch, a push or a task's program
abbrev pub LaunchesAsk : PlacesData → List ResourceData → Text → AskData → Result Launch RequestFault → Type 0
LaunchesAsk places rs build (fetch artifact resource version params) result =
    (r : ResourceData) → resource_of resource rs ≡ Some r
    → Launches (fetch_launch places build artifact r version params) result
LaunchesAsk places rs build (push artifact resource params) result =
    (r : ResourceData) → resource_of resource rs ≡ Some r
    → Launches (push_launch places build r params) result
LaunchesAsk places rs build (read_config file) result = ⊤
LaunchesAsk places rs build (run_task config env) result = LaunchesTask build config env result
