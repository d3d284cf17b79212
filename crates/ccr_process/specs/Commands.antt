-- What the system is told to start.
use Rattle.std.specs.Prelude.{◌≡◌, List, [], ◌∷◌, ◌++◌, Option, Some, None, false, bytes_eq, if◌then◌else◌}
use Rattle.std.specs.declared.alloc.Global.{Global}
use Rattle.std.specs.Process.{command_program, command_args, command_var, command_dir, clears_env, SameProgramAndArgs, SameEnv, SameOtherVars, SameDir}
use Rattle.std.specs.declared.process.Command.{Command}
use Rattle.ccr_process.specs.Launches.{Text, LaunchData}

-- what a variable is set to by these pairs in order, where it was set to this: the last value of a repeated name stays
abbrev pub set_by : List (Text × Text) → Text → Option (Option Text) → Option (Option Text)
set_by [] name before = before
set_by (e ∷ es) name before = set_by es name (if bytes_eq e.0 name then Some (Some e.1) else before)

-- the command of a launch: its program with its arguments in its folder, its variables laid over the server's
pub record IsCommandOf (launch : LaunchData) (command : Command Global) : Type 0 where
  pub program : command_program command ≡ launch.program
  pub args : command_args command ≡ launch.args
  pub folder : command_dir command ≡ Some launch.folder
  pub keeps_the_others : clears_env command ≡ false
  pub variables : (name : Text) → command_var command name ≡ set_by launch.env name None

-- a command has these arguments more, and is else the same
pub record AddsArgs (old : Command Global) (args : List Text) (new : Command Global) : Type 0 where
  pub added : command_args new ≡ command_args old ++ args
  pub program : command_program new ≡ command_program old
  pub env : SameEnv old new
  pub folder : SameDir old new

-- a command has these variables set in their order, and is else the same
pub record AddsVariables (old : Command Global) (env : List (Text × Text)) (new : Command Global) : Type 0 where
  pub set : (name : Text) → command_var new name ≡ set_by env name (command_var old name)
  pub call : SameProgramAndArgs old new
  pub clears : clears_env new ≡ clears_env old
  pub folder : SameDir old new

-- a command has this variable set, and is else the same
pub record SetsVariable (old : Command Global) (key value : Text) (new : Command Global) : Type 0 where
  pub set : command_var new key ≡ Some (Some value)
  pub others : SameOtherVars old new key
  pub call : SameProgramAndArgs old new
  pub clears : clears_env new ≡ clears_env old
  pub folder : SameDir old new
