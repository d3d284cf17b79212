-- A command line grows by an argument or a command.
use Rattle.std.proofs.Common.{◌≡◌, ◌∙◌, ap₂, false}
use Rattle.clap.specs.declared.builder.arg.Arg.{Arg}
use Rattle.clap.specs.declared.builder.command.Command.{Command}
use Rattle.clap.specs.declared.builder.command.Command.TheViews.{out-Command}
use Rattle.clap.specs.Words.{AddsArg, AddsSubcommand, App, Rule, Shape, app_of, rule_of, shape_of, with_rule, with_subcommand}

pub with_argument : (old : Command) (a : Arg) (new : Command) (app : App) (rule : Rule) → AddsArg old a new
    → app_of old ≡ app → rule_of a ≡ rule → a.global ≡ false → app_of new ≡ with_rule app rule
with_argument old a new app rule adds is_app is_rule local = adds.shape local ∙ ap₂ with_rule is_app is_rule

pub with_command : (old sub new : Command) (app : App) (shape : Shape) → AddsSubcommand old sub new
    → app_of old ≡ app → (shape_of sub ≡ shape) × ((out-Command sub).has_globals ≡ false)
    → app_of new ≡ with_subcommand app shape
with_command old sub new app shape adds is_app is_shape = adds.shape is_shape.1 ∙ ap₂ with_subcommand is_app is_shape.0
