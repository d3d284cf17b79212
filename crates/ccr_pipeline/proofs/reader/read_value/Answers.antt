use Rattle.std.proofs.Common.{◌≡◌, [], map, sym, subst, codes}
use Rattle.serde_json.specs.View.{view}
use Rattle.ccr_pipeline.specs.JobData.{resource_data, job_data}
use Rattle.ccr_pipeline.specs.Keys.{list_at}
use Rattle.ccr_pipeline.specs.Links.{HasFewMembers, HasDistinctResources, HasDistinctJobs, AreLinked}
use Rattle.ccr_pipeline.specs.Names.{names_of}
use Rattle.ccr_pipeline.specs.Pipelines.{resources_from, jobs_from}
use Rattle.ccr_pipeline.specs.Reading.{pipeline_faults}
use Rattle.ccr_pipeline.specs.Unused.{unused_in}
use Rattle.ccr_pipeline.proofs.Faulted.{checks_fault}
use Rattle.ccr_pipeline.proofs.LinksKept.{few_resources, few_jobs, distinct_resources, distinct_jobs, are_linked}
use Rattle.ccr_pipeline.proofs.Ordered.{jobs_ordered}
use Rattle.ccr_pipeline.proofs.Printing.{read_again}
use Rattle.ccr_pipeline.proofs.Used.{says_the_same, says_the_same_untimed}
use Rattle.ccr_pipeline.proofs.Whole.{in_jobs, in_names, noted_unused, unfaulted}
use Rattle.ccr_pipeline.proofs.reader.read_value.Goals as goal

pub returns-in_err-jobs-clause-checked : goal.returns-in_err-jobs-clause-checked
returns-in_err-jobs-clause-checked c =
    checks_fault _ _ _ c.from_residual-in_err-jobs.ensures.1
    (in_jobs (view c.args.value) c.in_ok-notes.ensures.checked _ (rw c.job_list.ensures at c.in_err-jobs.ensures.checked))

pub returns-in_err-unused-clause-checked : goal.returns-in_err-unused-clause-checked
returns-in_err-unused-clause-checked c =
    checks_fault _ _ _ c.from_residual-in_err-unused.ensures.1
    (in_names (view c.args.value) c.in_ok-notes.ensures.checked (rw c.job_list.ensures at c.in_ok-jobs.ensures.checked.0) _ _
    c.in_ok-notes.ensures.known (rw c.job_list.ensures at c.in_ok-jobs.ensures.noted) _ c.in_err-unused.ensures.unknown)

pub returns-clause-checked : goal.returns-clause-checked
returns-clause-checked c =
    unfaulted (view c.args.value) c.in_ok-notes.ensures.checked (rw c.job_list.ensures at c.in_ok-jobs.ensures.checked.0) _ _
    c.in_ok-notes.ensures.known (rw c.job_list.ensures at c.in_ok-jobs.ensures.noted) c.in_ok-unused.ensures.known

pub returns-clause-read : goal.returns-clause-read
returns-clause-read c =
    let d = view c.args.value in
    let none = rw c.job_list.ensures at c.in_ok-jobs.ensures.checked.0 in
    let whole : pipeline_faults d ≡ [] =
    unfaulted d c.in_ok-notes.ensures.checked none _ _ c.in_ok-notes.ensures.known (rw c.job_list.ensures at c.in_ok-jobs.ensures.noted) c.in_ok-unused.ensures.known in
    let jobs : map job_data c.in_ok-jobs.jobs.items ≡ jobs_from d = rw c.job_list.ensures at c.in_ok-jobs.ensures.checked.1 in
    let unused : unused_in d ≡ names_of (c.read_jobs.new.notes).unused.items =
    sym (noted_unused d c.in_ok-notes.ensures.checked none _ _ c.in_ok-notes.ensures.known (rw c.job_list.ensures at c.in_ok-jobs.ensures.noted)) in
    record {
      bytes = c.in_ok-from_slice.ensures.items;
      resources = c.in_ok-notes.ensures.read;
      jobs = jobs;
      unused = rw unused c.in_ok-unused.ensures.sorted;
      effectless = λ e is. says_the_same e d is;
      untimed = λ e is. says_the_same_untimed e d is;
      inputs = rw jobs (jobs_ordered [] 0 (list_at (codes "jobs") d) none);
      printed = rw (c.in_ok-notes.ensures.read, jobs) (read_again d whole);
    }

pub invariant_of-result : goal.invariant_of-result
invariant_of-result c =
    let d = view c.args.value in
    let none : pipeline_faults d ≡ [] =
    unfaulted d c.in_ok-notes.ensures.checked (rw c.job_list.ensures at c.in_ok-jobs.ensures.checked.0) _ _
    c.in_ok-notes.ensures.known (rw c.job_list.ensures at c.in_ok-jobs.ensures.noted) c.in_ok-unused.ensures.known in
    let resources : resources_from d ≡ map resource_data c.in_ok-notes.resources.items = sym c.in_ok-notes.ensures.read in
    let jobs : jobs_from d ≡ map job_data c.in_ok-jobs.jobs.items = sym (rw c.job_list.ensures at c.in_ok-jobs.ensures.checked.1) in
    record {
      few_resources = subst HasFewMembers resources (few_resources d none);
      few_jobs = subst HasFewMembers jobs (few_jobs d none);
      distinct_resources = subst HasDistinctResources resources (distinct_resources d none);
      distinct_jobs = subst HasDistinctJobs jobs (distinct_jobs d none);
      linked = subst (AreLinked (map resource_data c.in_ok-notes.resources.items)) jobs (subst (λ rs. AreLinked rs (jobs_from d)) resources (are_linked d none));
    }
