use Rattle.std.proofs.Common.{refl}
use Rattle.std.proofs.lemmas.Result.{IfOk-weaker}
use Rattle.clap.specs.Words.{app_of}
use Rattle.ccr_command.proofs.Lines.{with_command}
use Rattle.ccr_command.proofs.usage.with_resource_commands.Goals as goal

pub returns : goal.returns
returns c =
    let one = with_command _ _ _ (app_of c.args.line) _ c.in_ok-line.ensures refl c.in_ok-set_pipeline.ensures in
    let two = with_command _ _ _ _ _ c.in_ok-line-2.ensures one c.in_ok-validate_pipeline.ensures in
    let three = with_command _ _ _ _ _ c.in_ok-line-3.ensures two c.in_ok-check_resource.ensures in
    let four = with_command _ _ _ _ _ c.in_ok-line-4.ensures three c.in_ok-resource_versions.ensures in
    let five = with_command _ _ _ _ _ c.in_ok-line-5.ensures four c.in_ok-pin_resource.ensures in
    let six = with_command _ _ _ _ _ c.in_ok-line-6.ensures five c.in_ok-unpin_resource.ensures in
    let seven = with_command _ _ _ _ _ c.in_ok-line-7.ensures six c.in_ok-disable_resource_version.ensures in
    IfOk-weaker c.subcommand-8.result _ _ (λ made h. with_command _ _ _ _ _ h seven c.in_ok-enable_resource_version.ensures)
    c.subcommand-8.ensures
