use Rattle.std.proofs.Common.{◌∙◌, sym, ap, take, option_map, option_copied}
use Rattle.ccr_pipeline.specs.JobData.{job_data}
use Rattle.ccr_pipeline.specs.Pipelines.{pipeline_data}
use Rattle.ccr_lines.proofs.Certified.{with_job}
use Rattle.ccr_lines.proofs.build_certificate.build_text.Goals as goal

pub returns-in-Some-job : goal.returns-in-Some-job
returns-in-Some-job c =
    with_job c.args.history.now c.args.job.now (take c.args.before c.args.history.now.builds) c.args.build.now.used
    (option_map pipeline_data (option_copied c.args.pipeline)) c.job_text.result (pipeline_data c.in-Some.pipeline.now)
    (job_data c.in-Some-job.found.now) (ap (λ x. option_map pipeline_data (option_copied x)) c.in-Some.is)
    (sym c.job.ensures ∙ ap (λ x. option_map (λ j. job_data j.now) x) c.in-Some-job.is) c.job_text.ensures
