-- What a server is commanded.
use Rattle.std.specs.Prelude.{ℕ, Option, option_map, string_bytes}
use Rattle.ccr_history.specs.Text.{Text}
use Rattle.ccr_core.specs.declared.command.Command.{Command}
use Rattle.ccr_core.specs.declared.command.Command.TheVariants as command
use Rattle.ccr_core.specs.declared.form.Form.{Form}
use Rattle.ccr_core.specs.declared.shown.Shown.{Shown}
use Rattle.ccr_core.specs.declared.shown.Shown.TheVariants as value

-- what is shown: builds, all or those of a job, and of them all or the newest ones; the versions of a resource; the problem of a job's next
-- build, the proof of the choice for it, both in one text, or what it takes and why; the pipeline's text, its resources, its jobs, its graph; a
-- build, or the builds that a version went through; a build's problem with its choice, in one text. A form says how it is shown, where there are two
pub data ShownData : Type 0 where
  builds : (form : Form) (job : Option Text) (count : Option ℕ) → ShownData
  versions : (form : Form) (resource : Text) → ShownData
  problem : (job : Text) → ShownData
  proof : (job : Text) → ShownData
  certificate : (job : Text) → ShownData
  explanation : (form : Form) (job : Text) → ShownData
  pipeline : ShownData
  resources : (form : Form) → ShownData
  jobs : (form : Form) → ShownData
  red : (form : Form) → ShownData
  live : (form : Form) (job : Text) → ShownData
  graph : ShownData
  build : (form : Form) (job : Text) (number : ℕ) → ShownData
  trace : (form : Form) (resource pin : Text) → ShownData
  build_certificate : (job : Text) (number : ℕ) → ShownData

-- a command with its arguments; one that changes nothing shows something
pub data CommandData : Type 0 where
  set_pipeline : (file : Text) → CommandData
  check_resource : (resource : Text) → CommandData
  pin_resource : (resource pin : Text) → CommandData
  unpin_resource : (resource : Text) → CommandData
  disable_version : (resource : Text) (place : ℕ) → CommandData
  enable_version : (resource : Text) (place : ℕ) → CommandData
  trigger_job : (job : Text) → CommandData
  run : (rounds : ℕ) → CommandData
  shows : (what : ShownData) → CommandData

-- what a value of the program's type stands for
abbrev pub shown_data : Shown → ShownData
shown_data (value.Builds job count form) = builds form (option_map string_bytes job) count
shown_data (value.Versions resource form) = versions form (string_bytes resource)
shown_data (value.Problem job) = problem (string_bytes job)
shown_data (value.Proof job) = proof (string_bytes job)
shown_data (value.Certificate job) = certificate (string_bytes job)
shown_data (value.Explanation job form) = explanation form (string_bytes job)
shown_data value.Pipeline = pipeline
shown_data (value.Resources form) = resources form
shown_data (value.Jobs form) = jobs form
shown_data (value.Red form) = red form
shown_data (value.Live job form) = live form (string_bytes job)
shown_data value.Graph = graph
shown_data (value.Build job number form) = build form (string_bytes job) number
shown_data (value.Trace resource pin form) = trace form (string_bytes resource) (string_bytes pin)
shown_data (value.BuildCertificate job number) = build_certificate (string_bytes job) number

-- what a value of the program's type stands for
abbrev pub command_data : Command → CommandData
command_data (command.SetPipeline path) = set_pipeline (string_bytes path)
command_data (command.CheckResource resource) = check_resource (string_bytes resource)
command_data (command.PinResource resource pin) = pin_resource (string_bytes resource) (string_bytes pin)
command_data (command.UnpinResource resource) = unpin_resource (string_bytes resource)
command_data (command.DisableResourceVersion resource place) = disable_version (string_bytes resource) place
command_data (command.EnableResourceVersion resource place) = enable_version (string_bytes resource) place
command_data (command.TriggerJob job) = trigger_job (string_bytes job)
command_data (command.Run rounds) = run rounds
command_data (command.Show what) = shows (shown_data what)
