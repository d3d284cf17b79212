use Rattle.std.proofs.Common.{◌++◌, ◌∷◌, [], ◌∙◌, ap, map}
use Rattle.ccr_pipeline.specs.JobData.{resource_data}
use Rattle.ccr_lines.specs.Json.{array_of}
use Rattle.ccr_lines.specs.JobsJson.{job_json, jobs_json}
use Rattle.ccr_lines.specs.Standing.{next_data}
use Rattle.ccr_lines.proofs.JsonTexts.{array_of_each_seen, line_is}
use Rattle.ccr_lines.proofs.jobs_json.jobs_json.Goals as goal

pub returns : goal.returns
returns c =
    let rs = map resource_data c.args.resources.now in
    let h = c.args.history.now in
    line_is (jobs_json rs h (map next_data c.args.next.now)) c.in_ok-items.items.items c.in_ok-text.text.items
    (array_of_each_seen (λ n. job_json rs h n.job n.outlook) next_data c.args.next.now c.in_ok-items.items.items
    c.in_ok-items.ensures)
    (c.in_ok-text.ensures ∙ ap (λ t. array_of t ++ 10 ∷ []) c.deref.ensures.value)
