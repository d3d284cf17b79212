-- What is started of a launch: its program, or a launcher in the program's place.
use Rattle.std.specs.Prelude.{ℕ, List, [], ◌∷◌, ◌++◌, map, Option, Some, None, option_copied, codes, decimal}
use Rattle.ccr_pipeline.specs.Tree.{Text, Tree, get, put, task}
use Rattle.ccr_pipeline.specs.JobData.{ResourceData}
use Rattle.ccr_process.specs.Launches.{LaunchData}
use Rattle.ccr_steps.specs.Asks.{AskData, fetch, push, read_config, run_task}
use Rattle.ccr_task.specs.Environment.{Variables}
use Rattle.ccr_task.specs.Places.{PlacesData, build_folder}
use Rattle.ccr_task.specs.declared.started.Purpose.{Purpose}
use Rattle.ccr_task.specs.declared.started.StepLabel.{StepLabel}

-- ---- the label of a step
-- what the pipeline calls the step, and its timeout, if it has one
pub record StepLabelData : Type 0 where
  pub name : Text
  pub timeout : Option Text

-- the same, without where it lies in memory
abbrev pub step_label_data : StepLabel → StepLabelData
step_label_data l = record {
  name = l.name.now;
  timeout = option_copied l.timeout;
}

-- that of a step; a step that holds others has no name and no timeout of its own
abbrev pub step_label : Tree → StepLabelData
step_label (get g) = record { name = g.name; timeout = g.timeout }
step_label (put p) = record { name = p.name; timeout = p.timeout }
step_label (task t) = record { name = t.name; timeout = t.timeout }
step_label t = record { name = []; timeout = None }

-- ---- which program it is
-- its kind, its build, what the pipeline calls it, the directory of the build, and its step's timeout
pub record PurposeData : Type 0 where
  pub kind : Text
  pub job : Text
  pub number : ℕ
  pub name : Text
  pub directory : Text
  pub timeout : Option Text

-- the same, without where it lies in memory
abbrev pub purpose_data : Purpose → PurposeData
purpose_data p = record {
  kind = p.kind.now;
  job = p.job.now;
  number = p.number;
  name = p.name.now;
  directory = p.directory.now;
  timeout = option_copied p.timeout;
}

-- a check is of no build: its name is that of the resource, it runs in the folder of all builds, and has no timeout
abbrev pub check_purpose : PlacesData → ResourceData → PurposeData
check_purpose places r = record {
  kind = codes "check";
  job = codes "-";
  number = 0;
  name = r.name;
  directory = places.work;
  timeout = None;
}

-- the kind of an ask's program; an ask for a file has none
abbrev pub ask_kind : AskData → Text
ask_kind (fetch artifact resource version params) = codes "get"
ask_kind (push artifact resource params) = codes "put"
ask_kind (read_config file) = []
ask_kind (run_task config env) = codes "task"

-- an ask of a job's build of this number, at a step with this label
abbrev pub ask_purpose : PlacesData → Text → ℕ → StepLabelData → AskData → PurposeData
ask_purpose places job number label ask = record {
  kind = ask_kind ask;
  job = job;
  number = number;
  name = label.name;
  directory = build_folder places job number;
  timeout = label.timeout;
}

-- ---- what is started
-- the word of a timeout, where there is one: the text as it stands in the pipeline
abbrev pub timeout_words : Option Text → List Text
timeout_words None = []
timeout_words (Some timeout) = (codes "timeout=" ++ timeout) ∷ []

-- the words that a launcher is given before the program and its own
abbrev pub launcher_words : PurposeData → List Text
launcher_words p =
    p.kind ∷ p.job ∷ decimal p.number ∷ p.name ∷ p.directory ∷ (timeout_words p.timeout ++ codes "--" ∷ [])

-- the name under which a launcher is given a task's variable: it means nothing to the launcher, which takes the prefix off
-- for the program
abbrev pub launcher_variable : Text → Text
launcher_variable name = codes "CCR_VAR_" ++ name

-- a task's variables, as a launcher is given them
abbrev pub launcher_env : Variables → Variables
launcher_env env = map (λ v. (launcher_variable v.0, v.1)) env

-- WHAT IS STARTED of a launch: itself; or the launcher, if there is one, which is given the program and its words behind its
-- own, with the same folder, input and output, and the variables under other names
abbrev pub started : Option Text → PurposeData → LaunchData → LaunchData
started None p l = l
started (Some launcher) p l = record {
  program = launcher;
  args = launcher_words p ++ (l.program ∷ l.args);
  folder = l.folder;
  env = launcher_env l.env;
  input = l.input;
  keep = l.keep;
}

-- what is started of a check's launch
abbrev pub started_check : PlacesData → ResourceData → LaunchData → LaunchData
started_check places r l = started places.launcher (check_purpose places r) l

-- what is started of the launch of an ask of a job's build of this number, at a step with this label
abbrev pub started_ask : PlacesData → Text → ℕ → StepLabelData → AskData → LaunchData → LaunchData
started_ask places job number label ask l = started places.launcher (ask_purpose places job number label ask) l
