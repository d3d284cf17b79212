use Rattle.std.proofs.Common.{◌++◌, ◌∷◌, [], ◌∙◌, List, map, ap, codes}
use Rattle.ccr_pipeline.specs.JobData.{ResourceData, JobData, job_data}
use Rattle.ccr_pipeline.specs.Pipelines.{pipeline_data}
use Rattle.ccr_lines.specs.Graphs.{resource_node, job_node, edges_to, edges_from, class_lines, numbered}
use Rattle.ccr_lines.specs.Lines.{line}
use Rattle.ccr_lines.proofs.Graphing.{all_told}
use Rattle.ccr_lines.proofs.graph.push_graph.Goals as goal

pub returns : goal.returns
returns c =
    let p = pipeline_data c.args.pipeline.now in
    let h = c.args.history.now in
    all_told c.args.out.now.items c.push_title.new.out.items c.push_resources.new.out.items c.push_jobs.new.out.items
    c.push_taken_edges.new.out.items c.push_put_edges.new.out.items c.push_classes.new.out.items
    (line (codes "flowchart LR" ∷ [])) (numbered (resource_node h) 0 p.resources) (numbered (job_node h) 0 p.jobs)
    (numbered (edges_to p) 0 p.jobs) (numbered (edges_from p.resources) 0 p.jobs) class_lines
    c.in_ok-push_title.ensures
    (c.in_ok-push_resources.ensures
    ∙ ap (λ (rs : List ResourceData). c.push_title.new.out.items ++ numbered (resource_node h) 0 rs)
    c.resources.ensures)
    (c.in_ok-push_jobs.ensures
    ∙ ap (λ (js : List JobData). c.push_resources.new.out.items ++ numbered (job_node h) 0 js) c.jobs.ensures)
    (c.in_ok-push_taken_edges.ensures
    ∙ ap (λ (js : List JobData). c.push_jobs.new.out.items ++ numbered (edges_to p) 0 js) c.jobs-2.ensures)
    (c.in_ok-push_put_edges.ensures
    ∙ (ap (λ (rs : List ResourceData). c.push_taken_edges.new.out.items
    ++ numbered (edges_from rs) 0 (map job_data c.jobs-3.result.now)) c.resources-2.ensures
    ∙ ap (λ (js : List JobData). c.push_taken_edges.new.out.items ++ numbered (edges_from p.resources) 0 js)
    c.jobs-3.ensures))
    c.in_ok-push_classes.ensures
