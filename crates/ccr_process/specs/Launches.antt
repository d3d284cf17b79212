-- What a launch holds, and which launches can be started.
use Rattle.std.specs.Prelude.{ℕ, Bool, not, ◌&&◌, ◌==◌, length, List, map, String, string_bytes}
use Rattle.std.specs.List.{list_any, list_all}
use Rattle.std.specs.declared.alloc.Global.{Global}
use Rattle.ccr_process.specs.declared.launch.Launch.{Launch}

-- the bytes of a text
abbrev pub Text : Type 0
Text = List ℕ

-- a launch without where it lies in memory
pub record LaunchData : Type 0 where
  pub program : Text
  pub args : List Text
  pub folder : Text
  pub env : List (Text × Text)
  pub input : List ℕ
  pub keep : Bool

-- the bytes of each text
abbrev pub texts_of : List (String Global) → List Text
texts_of texts = map string_bytes texts

-- a variable by its name, and its value
abbrev pub variable_of : String Global × String Global → Text × Text
variable_of e = (string_bytes e.0, string_bytes e.1)

-- the variables, each by its name
abbrev pub variables_of : List (String Global × String Global) → List (Text × Text)
variables_of env = map variable_of env

-- what a launch holds
abbrev pub launch_data : Launch → LaunchData
launch_data l = record {
  program = string_bytes l.program;
  args = texts_of l.args.items;
  folder = string_bytes l.folder;
  env = variables_of l.env.items;
  input = l.input.items;
  keep = l.keep;
}

-- no byte of the text is 0
abbrev pub has_no_nul : Text → Bool
has_no_nul text = not (list_any (λ b. b == 0) text)

-- a variable's name isn't empty and has neither a byte 0 nor `=`
abbrev pub is_variable_name : Text → Bool
is_variable_name text = has_no_nul text && (not (list_any (λ b. b == 61) text) && not (length text == 0))

-- no text that the system is handed has a byte 0, and each variable has a name
abbrev pub can_start : Launch → Bool
can_start l =
    has_no_nul (string_bytes l.program) && (has_no_nul (string_bytes l.folder)
    && (list_all (λ text. has_no_nul (string_bytes text)) l.args.items
    && list_all (λ e. is_variable_name (string_bytes e.0) && has_no_nul (string_bytes e.1)) l.env.items))
