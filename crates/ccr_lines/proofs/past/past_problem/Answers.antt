use Rattle.std.proofs.Common.{◌∙◌, map, string_bytes}
use Rattle.ccr_pipeline.specs.Inputs.{input_data, inputs}
use Rattle.ccr_pipeline.specs.Pipelines.{pipeline_data}
use Rattle.ccr_pipeline.specs.Tree.{tree_of}
use Rattle.ccr_lines.proofs.PastLaws.{past_made}
use Rattle.ccr_lines.proofs.past.past_problem.Goals as goal

pub new-requires : goal.new-requires
new-requires c =
    let p = pipeline_data c.args.pipeline.now in
    let made = past_made p c.args.history.now (string_bytes c.args.job.now.name)
    (inputs (tree_of c.args.job.now.plan.value)) (map input_data c.args.gets.now) c.args.before c.in_ok-today.today
    (map string_bytes c.args.names.now) c.in_ok-values.values.items c.in_ok-builds.builds.items c.rules.ensures
    c.requires.inputs c.in_ok-today.ensures c.inputs.ensures.kept c.requires.names
    (λ o r j e. c.in_ok-values.ensures o r j (c.inputs.ensures.value ∙ e))
    (λ s e. c.in_ok-builds.ensures s (c.jobs.ensures.value ∙ e)) in
    made.kept

pub returns : goal.returns
returns c =
    let p = pipeline_data c.args.pipeline.now in
    let made = past_made p c.args.history.now (string_bytes c.args.job.now.name)
    (inputs (tree_of c.args.job.now.plan.value)) (map input_data c.args.gets.now) c.args.before c.in_ok-today.today
    (map string_bytes c.args.names.now) c.in_ok-values.values.items c.in_ok-builds.builds.items c.rules.ensures
    c.requires.inputs c.in_ok-today.ensures c.inputs.ensures.kept c.requires.names
    (λ o r j e. c.in_ok-values.ensures o r j (c.inputs.ensures.value ∙ e))
    (λ s e. c.in_ok-builds.ensures s (c.jobs.ensures.value ∙ e)) in
    c.new.ensures ∙ made.same
