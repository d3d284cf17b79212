use Rattle.std.proofs.Common.{◌≡◌, ◌∙◌, Some, sym, ap, subst, option_map, option_copied, slice_get, string_bytes}
use Rattle.ccr_history.specs.Text.{Text}
use Rattle.ccr_pipeline.specs.Pipelines.{pipeline_data}
use Rattle.ccr_core.specs.Cores.{core_data}
use Rattle.ccr_core.specs.Commands.{build_certificate}
use Rattle.ccr_lines.specs.Shown.{IsMade}
use Rattle.ccr_lines.proofs.Certified.{certified_made}
use Rattle.ccr_lines.proofs.build_certificate.build_certificate_made.Goals as goal

pub returns-clause-made : goal.returns-clause-made
returns-clause-made c =
    let held = core_data c.args.core.now in
    let at : slice_get held.history.builds c.in-Some.position ≡ Some c.unwrap-build.result =
    ap (λ x. slice_get x.builds c.in-Some.position) (sym c.history-history.ensures)
    ∙ (sym c.build_at.ensures ∙ c.unwrap-build.ensures) in
    let bytes : c.into_bytes.result.items ≡ string_bytes c.in_ok-status.text = ap (λ v. v.items) c.into_bytes.ensures.value in
    let P : Text → Type 0 = λ t. IsMade (build_certificate c.args.job.now c.args.number) held c.in_ok-status.status t in
    subst P (sym bytes)
    (certified_made held c.args.job.now c.args.number c.in-Some.position c.unwrap-build.result
    c.history-history.result.now (option_map pipeline_data (option_copied c.pipeline.result))
    (c.in_ok-status.status, c.in_ok-status.text) at (c.in-Some.ensures.2 ∙ (sym c.in-Some.ensures.1 ∙ at))
    c.history-history.ensures c.pipeline.ensures c.in_ok-status.ensures)
