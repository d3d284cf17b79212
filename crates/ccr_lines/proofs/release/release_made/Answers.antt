use Rattle.std.proofs.Common.{◌≡◌, ◌∙◌, Some, sym, ap, map, option_map, option_copied, slice_get}
use Rattle.ccr_pipeline.specs.Pipelines.{pipeline_data}
use Rattle.ccr_core.specs.Cores.{core_data}
use Rattle.ccr_lines.specs.Releases.{together_data}
use Rattle.ccr_lines.proofs.Cores.{release_made}
use Rattle.ccr_lines.proofs.release.release_made.Goals as goal

pub returns-clause-made : goal.returns-clause-made
returns-clause-made c =
    let held = core_data c.args.core.now in
    let at : slice_get held.history.builds c.in-Some.position ≡ Some c.unwrap-build.result =
    ap (λ x. slice_get x.builds c.in-Some.position) (sym c.history-history.ensures)
    ∙ (sym c.build_at.ensures ∙ c.unwrap-build.ensures) in
    release_made c.args.form held c.args.job.now c.args.number c.in-Some.position c.unwrap-build.result
    c.history-history.result.now (option_map pipeline_data (option_copied c.pipeline.result))
    (map together_data c.deref.result.now) c.in_ok-text.text.items at
    (c.in-Some.ensures.2 ∙ (sym c.in-Some.ensures.1 ∙ at)) c.history-history.ensures c.pipeline.ensures
    (ap (λ ts. map together_data ts) c.deref.ensures.value ∙ c.in_ok-together.ensures) c.in_ok-text.ensures
