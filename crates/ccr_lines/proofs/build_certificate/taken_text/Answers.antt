use Rattle.std.proofs.Common.{◌∙◌, ap, map, take, string_bytes}
use Rattle.ccr_pipeline.specs.Inputs.{input_data}
use Rattle.ccr_pipeline.specs.Pipelines.{pipeline_data}
use Rattle.ccr_lines.proofs.Taking.{allowed_so, each_place, shown_so}
use Rattle.ccr_lines.proofs.build_certificate.taken_text.Goals as goal

pub said-requires-clause-allowed : goal.said-requires-clause-allowed
said-requires-clause-allowed c =
    allowed_so (pipeline_data c.args.pipeline.now) c.args.history.now c.args.build.now c.args.before
    (take c.args.before c.args.history.now.builds) (map input_data c.args.gets.now) c.args.places.items
    c.in_ok-problem.problem c.rules.ensures c.requires.at c.requires.taken c.in_ok-problem.ensures

pub said-requires-clause-each : goal.said-requires-clause-each
said-requires-clause-each c =
    each_place (pipeline_data c.args.pipeline.now) c.args.history.now c.args.build.now.used
    (take c.args.before c.args.history.now.builds) (map input_data c.args.gets.now) c.args.places.items
    c.in_ok-problem.problem c.requires.taken c.in_ok-problem.ensures

pub returns : goal.returns
returns c =
    shown_so (pipeline_data c.args.pipeline.now) c.args.history.now (take c.args.before c.args.history.now.builds)
    (map input_data c.args.gets.now) c.args.build.now.used (map string_bytes c.deref-2.result.now) c.args.places.items
    c.in_ok-problem.problem c.said.result c.requires.taken
    (ap (λ x. map string_bytes x) c.deref-2.ensures.value ∙ c.in_ok-jobs.ensures) c.in_ok-problem.ensures c.said.ensures
