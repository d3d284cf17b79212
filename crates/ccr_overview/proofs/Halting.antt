-- Where a place stopped.
use Rattle.std.proofs.Common.{◌≡◌, ℕ, List, find, Option, Some, option_map, ap, ap₂, ◌∙◌}
use Rattle.ccr_history.specs.Text.{Text}
use Rattle.ccr_history.specs.History.{HistoryData}
use Rattle.ccr_pipeline.specs.Pipelines.{PipelineData}
use Rattle.ccr_lines.specs.ExplainedData.{PassedData}
use Rattle.ccr_lines.specs.Stops.{StopData, is_unpassed, stop_of}

-- at the first job that hasn't passed it, or before
pub stopped_before : (p : PipelineData) (h : HistoryData) (pair own : ℕ × ℕ) (jobs passed : List PassedData) (q : PassedData) (job : Text)
    (stop : StopData) → pair ≡ own → jobs ≡ passed → Some q ≡ find (λ q. is_unpassed h pair q.job) jobs → job ≡ q.job
    → stop ≡ stop_of p h pair job
    → Some stop ≡ option_map (λ q. stop_of p h own q.job) (find (λ q. is_unpassed h own q.job) passed)
stopped_before p h pair own jobs passed q job stop same all found named is =
    ap Some (is ∙ ap (stop_of p h pair) named)
    ∙ (ap (option_map (λ q. stop_of p h pair q.job)) found
    ∙ ap₂ (λ r xs. option_map (λ q. stop_of p h r q.job) (find (λ q. is_unpassed h r q.job) xs)) same all)
