-- What a build asks for, what it is answered, and the versions that it was made for.
use Rattle.std.specs.Prelude.{List, [], ◌∷◌, Option, Some, None, IsTrue, map, option_map, if◌then◌else◌}
use Rattle.std.specs.Option.{IfSome}
use Rattle.std.specs.Str.{bytes_eq}
use Rattle.serde_json.specs.Data.{Data}
use Rattle.ccr_history.specs.ObjectData.{object_data}
use Rattle.ccr_history.specs.TextMap.{TextMap}
use Rattle.ccr_pipeline.specs.Links.{used_resources}
use Rattle.ccr_pipeline.specs.Names.{has_name}
use Rattle.ccr_pipeline.specs.Tree.{Text, ConfigData, config_data, variable_data, GetData, PutData, Tree}
use Rattle.ccr_steps.specs.declared.ask.Ask.{Ask}
use Rattle.ccr_steps.specs.declared.ask.Ask.TheVariants.{Fetch, Push, ReadConfig, RunTask}
use Rattle.ccr_steps.specs.declared.ask.Answered.{Answered}
use Rattle.ccr_steps.specs.declared.ask.Answered.TheVariants.{Done, Pushed, Config, Failed, Errored, Aborted}

-- what a build waits for: a version's files, a version to be pushed, a task file, or a program
pub data AskData : Type 0 where
  fetch : (artifact : Text) (resource : Text) (version : TextMap) (params : Option Data) → AskData
  push : (artifact : Text) (resource : Text) (params : Option Data) → AskData
  read_config : (file : Text) → AskData
  run_task : (config : ConfigData) (env : List (Text × Text)) → AskData

-- an ask, without where its parts lie in memory
abbrev pub ask_data : Ask → AskData
ask_data (Fetch artifact resource version params) =
    fetch artifact.now resource.now version.now (option_map (λ p. object_data p.now) params)
ask_data (Push artifact resource params) = push artifact.now resource.now (option_map (λ p. object_data p.now) params)
ask_data (ReadConfig file) = read_config file.now
ask_data (RunTask config env) = run_task (config_data config.now) (map variable_data env.now)

-- the resource that an ask names: a task's asks name none
abbrev pub ask_resource : AskData → Option Text
ask_resource (fetch artifact resource version params) = Some resource
ask_resource (push artifact resource params) = Some resource
ask_resource (read_config file) = None
ask_resource (run_task config env) = None

-- the resource that an ask names is one of this plan's
abbrev pub NamesResourceOf : Tree → AskData → Type 0
NamesResourceOf t a = IfSome (ask_resource a) (λ r. IsTrue (has_name (used_resources t) r))

-- how it went; a version comes back from a push alone, a config from a task file alone; every ask may be aborted
pub data AnswerData : Type 0 where
  done : AnswerData
  pushed : (version : TextMap) → AnswerData
  configured : (config : ConfigData) → AnswerData
  failed : AnswerData
  errored : AnswerData
  aborted : AnswerData

-- an answer, without where its parts lie in memory
abbrev pub answer_data : Answered → AnswerData
answer_data Done = done
answer_data (Pushed version) = pushed version
answer_data (Config config) = configured (config_data config)
answer_data Failed = failed
answer_data Errored = errored
answer_data Aborted = aborted

-- an ask and its answer
pub record Exchange : Type 0 where
  pub ask : AskData
  pub answer : AnswerData

-- the exchange of an ask and its answer
abbrev pub exchange : AskData → AnswerData → Exchange
exchange a x = record { ask = a; answer = x }

-- an input's name and the version that was chosen for it
abbrev pub Chosen : Type 0
Chosen = List (Text × TextMap)

-- the inputs' names with the versions, in order
abbrev pub chosen : List Text → List TextMap → Chosen
chosen (n ∷ ns) (v ∷ vs) = (n, v) ∷ chosen ns vs
chosen ns vs = []

-- the version that was chosen for the input of this name; each get of a plan has one of its inputs' names
abbrev pub version_of : Chosen → Text → TextMap
version_of [] name = []
version_of (i ∷ is) name = if bytes_eq i.0 name then i.1 else version_of is name

-- what a get asks: its input's version
abbrev pub get_ask : Chosen → GetData → AskData
get_ask c g = fetch g.name g.resource (version_of c g.name) g.params

-- what a put asks first
abbrev pub put_ask : PutData → AskData
put_ask p = push p.name p.resource p.params

-- what a put asks for the version that it pushed (Concourse: implicit get)
abbrev pub pushed_ask : PutData → TextMap → AskData
pushed_ask p v = fetch p.name p.resource v p.get_params
