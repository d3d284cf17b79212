-- Commands whose variables are set one by one.
use Rattle.std.proofs.Common.{◌≡◌, ℕ, ◌+◌, ◌<◌, List, [], ◌∷◌, ◌++◌, Bool, true, false, refl, sym, ◌∙◌, length, get_or, take, Option, Some, String, Global, string_bytes}
use Rattle.std.specs.Bool.{Decides, if◌then◌else◌}
use Rattle.std.specs.Str.{bytes_eq}
use Rattle.std.specs.Process.{command_var, SameOtherVars}
use Rattle.std.specs.declared.process.Command.{Command}
use Rattle.std.proofs.lemmas.List.{take_more, map-append}
use Rattle.std.proofs.lemmas.Slice.Eq.{bytes_eq-Decides}
use Rattle.ccr_process.specs.Launches.{Text, variable_of, variables_of}
use Rattle.ccr_process.specs.Commands.{set_by, AddsVariables, SetsVariable}

-- what one more pair sets
set_by-append : (es : List (Text × Text)) (e : Text × Text) (name : Text) (before : Option (Option Text)) → set_by (es ++ e ∷ []) name before ≡ (if bytes_eq e.0 name then Some (Some e.1) else set_by es name before)
set_by-append [] e name before = refl
set_by-append (d ∷ es) e name before = set_by-append es e name (if bytes_eq d.0 name then Some (Some d.1) else before)

variables-take : (env : List (String Global × String Global)) (i : ℕ) (x : String Global × String Global) → i < length env → x ≡ get_or env i x → variables_of (take (i + 1) env) ≡ variables_of (take i env) ++ variable_of x ∷ []
variables-take env i x h is = rw (take_more env i x h, ← is, map-append) refl

chosen : (b : Bool) (k name v : Text) (new newer : Command Global) (before : Option (Option Text)) → Decides b (k ≡ name) → command_var newer k ≡ Some (Some v) → SameOtherVars new newer k → command_var new name ≡ before → command_var newer name ≡ (if b then Some (Some v) else before)
chosen true k name v new newer before d set others was = rw (← d.0 refl) set
chosen false k name v new newer before d set others was = others name (λ e. let b : false ≡ true = d.1 (sym e) in absurd cc) ∙ was

set_next : (env : List (String Global × String Global)) (i : ℕ) (x : String Global × String Global) (old new newer : Command Global) → i < length env → x ≡ get_or env i x → ((name : Text) → command_var new name ≡ set_by (variables_of (take i env)) name (command_var old name)) → command_var newer (string_bytes x.0) ≡ Some (Some (string_bytes x.1)) → SameOtherVars new newer (string_bytes x.0) → (name : Text) → command_var newer name ≡ set_by (variables_of (take (i + 1) env)) name (command_var old name)
set_next env i x old new newer h is before set others name =
    rw (variables-take env i x h is, set_by-append (variables_of (take i env)) (variable_of x) name (command_var old name))
    (chosen (bytes_eq (string_bytes x.0) name) (string_bytes x.0) name (string_bytes x.1) new newer (set_by (variables_of (take i env)) name (command_var old name)) (bytes_eq-Decides (string_bytes x.0) name) set others (before name))

-- the variable at i, after those before it
pub adds_next : (env : List (String Global × String Global)) (i : ℕ) (x : String Global × String Global) (old new newer : Command Global) → i < length env → x ≡ get_or env i x → AddsVariables old (variables_of (take i env)) new → SetsVariable new (string_bytes x.0) (string_bytes x.1) newer → AddsVariables old (variables_of (take (i + 1) env)) newer
adds_next env i x old new newer h is before sets = record {
  set = set_next env i x old new newer h is before.set sets.set sets.others;
  call = (sets.call.0 ∙ before.call.0, sets.call.1 ∙ before.call.1);
  clears = sets.clears ∙ before.clears;
  folder = sets.folder ∙ before.folder;
}
