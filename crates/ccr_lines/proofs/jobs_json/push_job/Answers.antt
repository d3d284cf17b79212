use Rattle.std.proofs.Common.{◌++◌, ◌∙◌, true, false, ap, map, flat_map}
use Rattle.serde_json.specs.Written.{compact_text}
use Rattle.ccr_pipeline.specs.Inputs.{inputs}
use Rattle.ccr_pipeline.specs.JobData.{resource_data, job_data}
use Rattle.ccr_lines.specs.Json.{after_comma, array_of}
use Rattle.ccr_lines.specs.JobsJson.{newest_that, newest_json, input_json, output_of, job_object}
use Rattle.ccr_lines.proofs.JsonTexts.{array_of_all_seen}
use Rattle.ccr_lines.proofs.jobs_json.push_job.Goals as goal

pub returns : goal.returns
returns c =
    let h = c.args.history.now in
    let j = job_data c.args.next.now.job.now in
    let is = map (λ i. input_json i) (inputs j.plan) in
    let os = flat_map (λ r. output_of j.plan r) (map resource_data c.args.resources.now) in
    c.in_ok-push_job_of.ensures (newest_that false j.name h) (newest_that true j.name h) is os
    (c.deref.ensures.value ∙ (c.in_ok-finished.ensures ∙ ap (λ b. compact_text (newest_json b))
    (c.newest_that.ensures ∙ ap (λ name. newest_that false name h) c.as_str-name.ensures.value)))
    (ap array_of c.deref-2.ensures.value ∙ c.in_ok-inputs.ensures)
    (c.deref-3.ensures.value ∙ c.in_ok-words.ensures)
    (c.deref-4.ensures.value ∙ (c.in_ok-running.ensures ∙ ap (λ b. compact_text (newest_json b))
    (c.newest_that-2.ensures ∙ ap (λ name. newest_that true name h) c.as_str-name.ensures.value)))
    (array_of_all_seen (λ r. output_of j.plan r) resource_data c.args.resources.now c.deref-5.result.now
    (c.deref-5.ensures.value ∙ c.in_ok-outputs.ensures))
    ∙ ap (λ name. c.args.out.now.items ++ after_comma (job_object name c.args.next.now.outlook (newest_that false j.name h) is
    (newest_that true j.name h) os)) c.as_str-name.ensures.value
