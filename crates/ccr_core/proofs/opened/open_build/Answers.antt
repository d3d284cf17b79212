use Rattle.std.proofs.Common.{◌∷◌, [], ◌++◌, ap, ◌∙◌}
use Rattle.ccr_pipeline.specs.JobData.{job_data}
use Rattle.ccr_pipeline.specs.Pipelines.{pipeline_data}
use Rattle.ccr_core.proofs.Opening.{opened_ended, opened_open}
use Rattle.ccr_core.proofs.opened.open_build.Goals as goal

pub returns-in-Some-clause-opened : goal.returns-in-Some-clause-opened
returns-in-Some-clause-opened c =
    opened_ended (pipeline_data c.args.pipeline.now) c.args.history.now (job_data c.args.job.now) c.args.places.now c.in-Ok.made.number c.make_build.new.history c.in-Ok.made.run c.in-Ok.made.outcome c.in-Ok.ensures.made c.args.names.now.items c.reserve.new.self.items c.args.runs.now.items c.reserve-2.new.self.items c.in-Some.field-0 c.in-Some.is c.reserve.ensures.items c.reserve-2.ensures.items

pub returns-in-None-clause-opened : goal.returns-in-None-clause-opened
returns-in-None-clause-opened c =
    opened_open (pipeline_data c.args.pipeline.now) c.args.history.now (job_data c.args.job.now) c.args.places.now c.in-Ok.made.number c.make_build.new.history c.in-Ok.made.run c.in-Ok.made.outcome c.in-Ok.ensures.made c.args.names.now.items c.push_reserved.new.self.items c.args.runs.now.items c.push_reserved-in-None.new.self.items c.in_ok-name.name c.in-None.is (c.in_ok-name.ensures.ok ∙ c.as_str.ensures.value) (c.push_reserved.ensures.items ∙ ap (λ l. l ++ (c.in_ok-name.name, c.in-Ok.made.number) ∷ []) c.reserve.ensures.items) (c.push_reserved-in-None.ensures.items ∙ ap (λ l. l ++ c.in-Ok.made.run ∷ []) c.reserve-2.ensures.items)
