use Rattle.std.proofs.Common.{Result, Ok, Err, IfOk, ◌≡◌, ◌∙◌, [], List, ℕ, map, string_bytes, ap, subst}
use Rattle.ccr_history.specs.Text.{Text}
use Rattle.ccr_history.specs.History.{HistoryData}
use Rattle.ccr_pipeline.specs.Inputs.{InputData, input_data, inputs, named_jobs}
use Rattle.ccr_pipeline.specs.JobData.{JobData, job_data}
use Rattle.ccr_pipeline.specs.Pipelines.{PipelineData, pipeline_data}
use Rattle.ccr_choice.specs.Problem.{ProblemValue, ChoiceValue}
use Rattle.ccr_resolve.specs.declared.chosen.Chosen.TheVariants as chosen
use Rattle.ccr_lines.specs.Each.{AreEach}
use Rattle.ccr_lines.specs.Explained.{IsTaken, subject_of, best_of, IsExplainedBy}
use Rattle.ccr_lines.specs.ExplainedData.{ExplainedData}
use Rattle.ccr_lines.specs.Reasons.{SubjectData}
use Rattle.ccr_lines.proofs.explain.explained_best.Goals as goal

-- what is said by the subject that was made is said by that of the job
told : {E : Type 0} (p : PipelineData) (h : HistoryData) (budget : ℕ) (j : JobData) (q : ProblemValue) (c : ChoiceValue)
    (s : SubjectData) (r : Result ExplainedData E) → s ≡ subject_of p h budget j q c
    → IfOk r (λ e. AreEach (IsTaken s) 0 s.inputs e.inputs) → IfOk r (λ e. e ≡ best_of s j e.inputs)
    → IfOk r (IsExplainedBy p h budget j q (chosen.Best c))
told p h budget j q c s (Ok e) same taken is =
    (subst (λ t. AreEach (IsTaken t) 0 t.inputs e.inputs) same taken, subst (λ t. e ≡ best_of t j e.inputs) same is)
told p h budget j q c s (Err f) same taken is = tt

pub returns : goal.returns
returns c =
    let p = pipeline_data c.args.pipeline.now in
    let h = c.args.history.now in
    let j = job_data c.args.job.now in
    let q = c.args.index.now.problem in
    let choice = c.args.choice.now in
    let at : List InputData → List Text → SubjectData = λ is names. record {
      pipeline = p;
      history = h;
      inputs = is;
      jobs = names;
      problem = q;
      choice = choice;
      budget = c.args.budget;
    } in
    let own = map input_data c.deref-2.result.now in
    let named = map string_bytes c.deref-3.result.now in
    let same = ap (λ x. map input_data x) c.deref-2.ensures.value ∙ c.in_ok-inputs.ensures.inputs in
    let names = ap (λ x. map string_bytes x) c.deref-3.ensures.value ∙ (c.in_ok-jobs.ensures
    ∙ ap (λ x. named_jobs [] x) (ap (λ x. map input_data x) c.deref.ensures.value ∙ c.in_ok-inputs.ensures.inputs)) in
    told p h c.args.budget j q choice (at own named) c.best_of.result (ap (λ x. at x named) same ∙ ap (λ x. at (inputs j.plan) x) names)
    c.best_of.ensures.taken c.best_of.ensures.is
