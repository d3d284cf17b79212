use Rattle.std.proofs.Common.{length, decimal, sym, ◌∙◌, ap}
use Rattle.std.proofs.lemmas.List.{length-map}
use Rattle.ccr_pipeline.specs.JobData.{resource_data, job_data}
use Rattle.ccr_pipeline.specs.Pipelines.{pipeline_data}
use Rattle.ccr_lines.proofs.Telling.{pipeline_told}
use Rattle.ccr_lines.proofs.print.print_pipeline.Goals as goal

pub returns : goal.returns
returns g c =
    pipeline_told (g.O.Lines.written c.args.out.now) (g.O.Lines.written c.print_line.new.out)
    (g.O.Lines.written c.print_each_unused.new.out) c.format.result.now c.format-2.result.now
    (pipeline_data c.args.pipeline.now) c.unused.result.now
    (c.format.ensures.text ∙ ap decimal (sym (length-map c.resources.result.now resource_data) ∙ ap length c.resources.ensures))
    (c.format-2.ensures.text ∙ ap decimal (sym (length-map c.jobs.result.now job_data) ∙ ap length c.jobs.ensures))
    c.unused.ensures c.print_line.ensures.told c.print_each_unused.ensures
