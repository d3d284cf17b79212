use Rattle.std.proofs.Common.{◌∙◌, ap, codes, option_map}
use Rattle.clap.specs.Words.{found_of}
use Rattle.clap.proofs.WalkLemmas.{first_value-rows}
use Rattle.ccr_command.specs.Commands.{run_named}
use Rattle.ccr_core.specs.Commands.{run}
use Rattle.ccr_command.proofs.command.run_of.Goals as goal

pub returns-in-Some-number_of : goal.returns-in-Some-number_of
returns-in-Some-number_of c =
    ap (option_map run) c.in-Some-number_of.ensures
    ∙ ap run_named (c.in-Some.ensures ∙ first_value-rows (found_of c.args.values.now) (codes "rounds"))

pub returns-in-None-number_of : goal.returns-in-None-number_of
returns-in-None-number_of c =
    ap (option_map run) c.in-None-number_of.ensures
    ∙ ap run_named (c.in-Some.ensures ∙ first_value-rows (found_of c.args.values.now) (codes "rounds"))

pub returns-in-None : goal.returns-in-None
returns-in-None c = ap run_named (c.in-None.ensures ∙ first_value-rows (found_of c.args.values.now) (codes "rounds"))
