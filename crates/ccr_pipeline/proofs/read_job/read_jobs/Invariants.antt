use Rattle.std.proofs.Common.{◌≡◌, [], ◌++◌, map, length, codes}
use Rattle.std.specs.Vec.Iter.{into_iter_items, into_iter_len}
use Rattle.serde_json.specs.View.{items_view}
use Rattle.ccr_pipeline.specs.JobData.{job_data}
use Rattle.ccr_pipeline.specs.JobRules.{job_faults, members}
use Rattle.ccr_pipeline.specs.Notes.{notes_data, with_visits}
use Rattle.ccr_pipeline.specs.Pipelines.{jobs_in}
use Rattle.ccr_pipeline.specs.Places.{job_steps}
use Rattle.ccr_pipeline.proofs.read_job.read_jobs.Given as goal

abbrev pub invariant-loop-text : goal.invariant-loop-text
invariant-loop-text l = record {
  checked : members job_faults [] (codes "jobs") 0 (items_view l.fn.list.items) ≡ members job_faults l.names (codes "jobs") (length l.jobs.items) (items_view (into_iter_items l.text-iterator));
  built : map job_data l.jobs.items ++ jobs_in (items_view (into_iter_items l.text-iterator)) ≡ jobs_in (items_view l.fn.list.items);
  noted : with_visits (notes_data l.notes) (job_steps (length l.jobs.items) (items_view (into_iter_items l.text-iterator))) ≡ with_visits (notes_data l.initial.notes) (job_steps 0 (items_view l.fn.list.items));
  counted : into_iter_len l.text-iterator ≡ length (into_iter_items l.text-iterator);
}
