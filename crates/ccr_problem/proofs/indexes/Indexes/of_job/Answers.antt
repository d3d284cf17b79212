use Rattle.std.proofs.Common.{◌≡◌, ◌∙◌, ℕ, List, Option, Some, None, Bor, IfSome, IfNone, slice_get, ap, sym, subst}
use Rattle.std.specs.List.{position_or_len}
use Rattle.std.specs.Option.{option_copied}
use Rattle.std.specs.Str.{bytes_eq}
use Rattle.ccr_history.specs.Text.{Text}
use Rattle.ccr_history.specs.History.{HistoryData}
use Rattle.ccr_index.specs.Index.{IndexValue}
use Rattle.ccr_pipeline.specs.JobData.{JobData}
use Rattle.ccr_pipeline.specs.Pipelines.{PipelineData, pipeline_data}
use Rattle.ccr_problem.specs.ProblemOf.{job_of, IsProblemOf}
use Rattle.ccr_problem.specs.Indexes.{AreIndexes}
use Rattle.ccr_problem.proofs.Each.{of_job_so, no_job_so}
use Rattle.ccr_problem.proofs.indexes.Indexes.of_job.Goals as goal

module _ (p : PipelineData) (h : HistoryData) (xs : List IndexValue) (are : AreIndexes p h xs) (name : Text) (k : ℕ) (at : k ≡ position_or_len (λ (j : JobData). bytes_eq name j.name) p.jobs) where
  some_by : (o : Option (Bor IndexValue)) → option_copied o ≡ slice_get xs k → IfSome o (λ x. IsProblemOf p h name x.now.problem)
  some_by None e = tt
  some_by (Some x) e = of_job_so p h xs are name k at x.now (sym e)

  none_by : (o : Option (Bor IndexValue)) → option_copied o ≡ slice_get xs k → IfNone o (job_of name p.jobs ≡ None)
  none_by None e = no_job_so p h xs are name k at (sym e)
  none_by (Some x) e = tt

pub returns-clause-some : goal.returns-clause-some
returns-clause-some c =
    let p = pipeline_data c.args.pipeline.now in
    let h : HistoryData = c.args.history.now in
    let are = subst (AreIndexes p h) (sym (c.deref.ensures.value ∙ c.self.view_is)) c.requires in
    let at = c.job_position.ensures ∙ ap (position_or_len (λ (j : JobData). bytes_eq c.args.name.now j.name)) c.jobs.ensures in
    some_by p h c.deref.result.now are c.args.name.now c.job_position.result at c.index_at.result c.index_at.ensures

pub returns-clause-none : goal.returns-clause-none
returns-clause-none c =
    let p = pipeline_data c.args.pipeline.now in
    let h : HistoryData = c.args.history.now in
    let are = subst (AreIndexes p h) (sym (c.deref.ensures.value ∙ c.self.view_is)) c.requires in
    let at = c.job_position.ensures ∙ ap (position_or_len (λ (j : JobData). bytes_eq c.args.name.now j.name)) c.jobs.ensures in
    none_by p h c.deref.result.now are c.args.name.now c.job_position.result at c.index_at.result c.index_at.ensures
