-- What is shown of what a core holds.
use Rattle.std.proofs.Common.{◌≡◌, ◌+◌, ◌++◌, ◌∷◌, List, ℕ, take, drop, map, slice_get, Result, Option, Some, unwrap_or, refl, sym, ◌∙◌, ap, subst}
use Rattle.std.specs.Prelude.{IsSome, IfOk}
use Rattle.std.proofs.lemmas.List.{take-append-drop}
use Rattle.std.specs.declared.alloc.AllocError.{AllocError}
use Rattle.ccr_history.specs.Text.{Text}
use Rattle.ccr_history.specs.Builds.{BuildData, build_of}
use Rattle.ccr_history.specs.History.{HistoryData}
use Rattle.ccr_pipeline.specs.JobData.{resource_data, JobData, job_data}
use Rattle.ccr_pipeline.specs.Pipelines.{PipelineData}
use Rattle.ccr_pipeline.specs.declared.resource.Job.{Job}
use Rattle.ccr_pipeline.specs.declared.resource.Resource.{Resource}
use Rattle.ccr_core.specs.Holding.{CoreData}
use Rattle.ccr_core.specs.State.{no_pipeline}
use Rattle.ccr_lines.specs.Outlooks.{HasOutlook}
use Rattle.ccr_lines.specs.Releases.{TogetherData, all_together}
use Rattle.ccr_lines.specs.ReleaseJson.{release_shown}
use Rattle.ccr_lines.specs.ResourcesJson.{resources_shown}
use Rattle.ccr_core.specs.Commands.{build, resources, red, live}
use Rattle.ccr_lines.specs.Listed.{builds_shown}
use Rattle.ccr_lines.specs.Live.{live_of, live_status, live_text}
use Rattle.ccr_lines.specs.Needs.{IsMet, a_known_job}
use Rattle.ccr_lines.specs.Red.{red_builds, red_status}
use Rattle.ccr_lines.specs.Shown.{IsMade}
use Rattle.ccr_core.specs.declared.form.Form.{Form}
use Rattle.ccr_lines.specs.declared.outlook.Outlook.{Outlook}
use Rattle.ccr_lines.proofs.Showing.{drop_there}

-- the outlook by a history and a budget is that by those that are the same
pub outlook_of_same : (p : PipelineData) (h : HistoryData) (b : ℕ) (j : JobData) (g : HistoryData) (n : ℕ)
    (r : Result Outlook AllocError) → g ≡ h → n ≡ b → IfOk r (HasOutlook p g n j) → IfOk r (HasOutlook p h b j)
outlook_of_same p h b j g n r same budget has =
    subst (λ m. IfOk r (HasOutlook p h m j)) budget (subst (λ x. IfOk r (HasOutlook p x n j)) same has)

-- ---- a build
-- those in front of it were made before
pub made_before : (bs : List BuildData) (k : ℕ) (b : BuildData) → slice_get bs k ≡ Some b
    → bs ≡ take k bs ++ b ∷ drop (k + 1) bs
made_before bs k b at =
    sym (take-append-drop k bs) ∙ ap (λ ds. take k bs ++ ds) (drop_there bs k b at)

pub release_made : (f : Form) (c : CoreData) (job : Text) (number k : ℕ) (b : BuildData) (h : HistoryData)
    (o : Option PipelineData) (ts : List TogetherData) (lines : Text) → slice_get c.history.builds k ≡ Some b
    → build_of job number c.history.builds ≡ Some b → h ≡ c.history → o ≡ c.pipeline
    → ts ≡ all_together (unwrap_or o no_pipeline) (take k h.builds) b
    → lines ≡ release_shown f h.tables b ts → IsMade (build f job number) c 0 lines
release_made f c job number k b h o ts lines at there held set gone told = (
  subst (λ x. IsSome x) (sym there) refl,
  (
    refl,
    (
      b,
      take k c.history.builds,
      there,
      (drop (k + 1) c.history.builds, made_before c.history.builds k b at),
      told ∙ (ap (λ x. release_shown f h.tables b x) gone
          ∙ (ap (λ x. release_shown f x.tables b (all_together (unwrap_or o no_pipeline) (take k x.builds) b)) held
          ∙ ap (λ x. release_shown f c.history.tables b (all_together (unwrap_or x no_pipeline) (take k c.history.builds) b)) set)),
    ),
  ),
)

-- ---- resources
pub resources_made : (f : Form) (c : CoreData) (p : PipelineData) (h : HistoryData) (rs : List Resource) (lines : Text)
    → c.pipeline ≡ Some p → h ≡ c.history → map resource_data rs ≡ p.resources
    → lines ≡ resources_shown f h (map resource_data rs) → IsMade (resources f) c 0 lines
resources_made f c p h rs lines set held same told = (
  subst (λ o. IsSome o) (sym set) refl,
  (
    refl,
    told
        ∙ (ap (λ xs. resources_shown f h xs) same
        ∙ (ap (λ x. resources_shown f x p.resources) held
        ∙ ap (λ o. resources_shown f c.history (unwrap_or o no_pipeline).resources) (sym set))),
  ),
)

-- ---- red jobs
pub red_made : (f : Form) (c : CoreData) (p : PipelineData) (h : HistoryData) (js : List Job) (bs : List BuildData) (n : ℕ)
    (lines : Text) → c.pipeline ≡ Some p → h ≡ c.history → map job_data js ≡ p.jobs
    → bs ≡ red_builds h (map job_data js) → n ≡ red_status bs → lines ≡ builds_shown f bs → IsMade (red f) c n lines
red_made f c p h js bs n lines set held jobs found counted told =
    let same : bs ≡ red_builds c.history (unwrap_or c.pipeline no_pipeline).jobs =
    found
    ∙ (ap (λ x. red_builds x (map job_data js)) held
    ∙ (ap (λ xs. red_builds c.history xs) jobs
    ∙ ap (λ o. red_builds c.history (unwrap_or o no_pipeline).jobs) (sym set)))
    in (
      subst (λ o. IsSome o) (sym set) refl,
      (counted ∙ ap (λ xs. red_status xs) same, told ∙ ap (λ xs. builds_shown f xs) same),
    )

-- ---- what is live
pub live_made : (f : Form) (c : CoreData) (job : Text) (h : HistoryData) (found : Option BuildData) (n : ℕ) (lines : Text)
    → IsMet (a_known_job job) c.pipeline c.history → h ≡ c.history → found ≡ live_of job h → n ≡ live_status found
    → lines ≡ live_text f h.tables job found → IsMade (live f job) c n lines
live_made f c job h found n lines known held is counted told =
    let same : found ≡ live_of job c.history = is ∙ ap (λ x. live_of job x) held in (
      known,
      (
        counted ∙ ap (λ o. live_status o) same,
        told ∙ (ap (λ o. live_text f h.tables job o) same ∙ ap (λ x. live_text f x.tables job (live_of job c.history)) held),
      ),
    )
