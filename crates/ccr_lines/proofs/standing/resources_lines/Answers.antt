use Rattle.std.proofs.Common.{◌∙◌, sym, ap}
use Rattle.std.proofs.lemmas.List.Folds.{flat_map-map}
use Rattle.ccr_pipeline.specs.JobData.{resource_data}
use Rattle.ccr_lines.specs.Standing.{resource_line}
use Rattle.ccr_lines.proofs.standing.resources_lines.Goals as goal

pub returns : goal.returns
returns c =
    ap (λ v. v.items) c.into_bytes.ensures.value
    ∙ (c.in_ok-text.ensures
    ∙ sym (flat_map-map (λ r. resource_line c.args.history.now r) resource_data c.args.resources.now))
