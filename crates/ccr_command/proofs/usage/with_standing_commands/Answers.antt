use Rattle.std.proofs.Common.{refl}
use Rattle.std.proofs.lemmas.Result.{IfOk-weaker}
use Rattle.clap.specs.Words.{app_of}
use Rattle.ccr_command.proofs.Lines.{with_command}
use Rattle.ccr_command.proofs.usage.with_standing_commands.Goals as goal

pub returns : goal.returns
returns c =
    let one = with_command _ _ _ (app_of c.args.line) _ c.in_ok-line.ensures refl c.in_ok-get_pipeline.ensures in
    let two = with_command _ _ _ _ _ c.in_ok-line-2.ensures one c.in_ok-resources.ensures in
    let three = with_command _ _ _ _ _ c.in_ok-line-3.ensures two c.in_ok-jobs.ensures in
    let four = with_command _ _ _ _ _ c.in_ok-line-4.ensures three c.in_ok-red.ensures in
    let five = with_command _ _ _ _ _ c.in_ok-line-5.ensures four c.in_ok-graph.ensures in
    IfOk-weaker c.subcommand-6.result _ _ (λ made h. with_command _ _ _ _ _ h five c.in_ok-page.ensures) c.subcommand-6.ensures
