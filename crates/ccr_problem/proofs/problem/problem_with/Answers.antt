use Rattle.std.proofs.Common.{◌≡◌, ◌∙◌, ap, sym, subst, arith, map, length}
use Rattle.std.proofs.lemmas.List.{length-map}
use Rattle.ccr_choice.specs.Problem.{ProblemValue, IsProblem}
use Rattle.ccr_pipeline.specs.Inputs.{input_data}
use Rattle.ccr_pipeline.specs.Pipelines.{pipeline_data}
use Rattle.ccr_problem.specs.Passed.{job_value}
use Rattle.ccr_problem.specs.ProblemOf.{history_number}
use Rattle.ccr_problem.proofs.Kept.{few_resources, problem_kept, problem_made}
use Rattle.ccr_problem.proofs.problem.problem_with.Goals as goal

pub input_values-requires-clause-few_resources : goal.input_values-requires-clause-few_resources
input_values-requires-clause-few_resources c =
    omega (arith, ap length c.in_ok-resources.ensures, few_resources (map input_data c.args.inputs.now) c.requires)

pub builds_of_jobs-requires : goal.builds_of_jobs-requires
builds_of_jobs-requires c =
    let numbers = ap length (c.deref.ensures.value ∙ c.in_ok-scopes.ensures ∙ ap (map (history_number (pipeline_data c.args.pipeline.now) c.args.history.now)) c.names.ensures) in
    let same = length-map c.in_ok-resources.resources (history_number (pipeline_data c.args.pipeline.now) c.args.history.now) in
    omega (arith, numbers, same, ap length c.in_ok-resources.ensures, few_resources (map input_data c.args.inputs.now) c.requires)

pub new-requires : goal.new-requires
new-requires c =
    let p = pipeline_data c.args.pipeline.now in
    let h = c.args.history.now in
    let is = map input_data c.args.inputs.now in
    let scopes : c.deref.result.now ≡ map (history_number p h) c.in_ok-resources.resources =
    c.deref.ensures.value ∙ c.in_ok-scopes.ensures ∙ ap (map (history_number p h)) c.names.ensures in
    let builds = c.in_ok-builds.ensures ∙ ap (map (job_value h.builds c.deref.result.now)) c.names-2.ensures in
    let made = problem_made p h c.args.own.now is c.in_ok-resources.resources c.in_ok-jobs.jobs c.deref.result.now c.in_ok-values.values.items c.in_ok-builds.builds.items
    c.in_ok-resources.ensures c.in_ok-jobs.ensures scopes c.in_ok-values.ensures builds in
    let P : ProblemValue → Type 0 = IsProblem in
    subst P (sym made) (problem_kept p h c.args.own.now is c.rules.ensures c.requires)
