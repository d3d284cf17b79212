-- What is noted of a pipeline, once all of its jobs are read.
use Rattle.std.proofs.Common.{◌≡◌, [], None, refl, sym, ◌∙◌, codes}
use Rattle.serde_json.specs.Data.{Data}
use Rattle.ccr_pipeline.specs.declared.fault.ReadFault.{ReadFault}
use Rattle.ccr_pipeline.specs.Faults.{first, fault_of, IsFirst}
use Rattle.ccr_pipeline.specs.JobRules.{job_faults, members, list_names}
use Rattle.ccr_pipeline.specs.Keys.{list_at}
use Rattle.ccr_pipeline.specs.Names.{with_names}
use Rattle.ccr_pipeline.specs.Notes.{NotesData, with_visits, IsBefore}
use Rattle.ccr_pipeline.specs.Places.{all_steps}
use Rattle.ccr_pipeline.specs.Reading.{faults_before, pipeline_faults}
use Rattle.ccr_pipeline.specs.Unknown.{unknown_in}
use Rattle.ccr_pipeline.specs.Unused.{unused_in}
use Rattle.ccr_pipeline.proofs.Faulted.{first_append, no_first, starts_first}
use Rattle.ccr_pipeline.proofs.LinksKept.{job_names_once}
use Rattle.ccr_pipeline.proofs.Repeats.{all_added}

module _ (d : Data) (before : faults_before d ≡ []) where
  -- the first fault of the jobs is the pipeline's
  pub in_jobs : (e : ReadFault) → IsFirst (members job_faults [] (codes "jobs") 0 (list_at (codes "jobs") d)) e → IsFirst (pipeline_faults d) e
  unfolding pipeline_faults
  in_jobs e h = rw before (first_append (members job_faults [] (codes "jobs") 0 (list_at (codes "jobs") d)) _ e h)

  module _ (none : members job_faults [] (codes "jobs") 0 (list_at (codes "jobs") d) ≡ []) where
    -- no two jobs have one name, so that all of their names are known
    all_known : with_names [] (list_names (codes "jobs") d) ≡ list_names (codes "jobs") d
    all_known = all_added [] (list_names (codes "jobs") d) (job_names_once [] 0 (list_at (codes "jobs") d) none)

    -- what is noted of all jobs, after what was noted before them
    module _ (old new : NotesData) (known : IsBefore d old) (noted : new ≡ with_visits old (all_steps d)) where
      -- what is noted is the first name that isn't there
      noted_unknown : new.unknown ≡ first (unknown_in (list_names (codes "resources") d) (list_names (codes "jobs") d) d)
      unfolding with_visits
      noted_unknown = rw (noted, known.resources, known.jobs ∙ all_known, known.unknown) refl

      pub noted_unused : new.unused ≡ unused_in d
      unfolding with_visits unused_in
      noted_unused = rw (noted, known.unused) refl

      pub unfaulted : new.unknown ≡ None → pipeline_faults d ≡ []
      unfolding pipeline_faults
      unfaulted e = rw (before, none, no_first (unknown_in (list_names (codes "resources") d) (list_names (codes "jobs") d) d) (sym noted_unknown ∙ e)) refl

      pub in_names : (e : ReadFault) → fault_of e ≡ new.unknown → IsFirst (pipeline_faults d) e
      unfolding pipeline_faults
      in_names e is = rw (before, none, is ∙ noted_unknown) (starts_first (unknown_in (list_names (codes "resources") d) (list_names (codes "jobs") d) d))
