-- Whether a job is busy depends on the names of the builds that run.
use Rattle.std.proofs.Common.{◌≡◌, ℕ, ◌+◌, cond, ◌||◌, List, [], ◌∷◌, map, bytes_eq, refl, sym, ap, ap₂, ◌∙◌}
use Rattle.std.specs.Prelude.{count_by}
use Rattle.std.specs.List.{list_any}
use Rattle.std.proofs.lemmas.List.Sums.{sum_by-cons}
use Rattle.ccr_history.specs.Text.{Text}
use Rattle.ccr_pipeline.specs.JobData.{JobData}
use Rattle.ccr_core.specs.Busy.{running_of, is_shut_out, is_busy}
use Rattle.ccr_problem.specs.Limit.{limit_of, has_reached}
use Rattle.ccr_core.specs.Picking.{name_of, shuts_out}
use Rattle.ccr_core.specs.State.{RunningData}

-- how many of these names are the job's
abbrev pub named_of : Text → List (Text × ℕ) → ℕ
named_of job names = count_by (λ n. bytes_eq job n.0) names

counted : (job : Text) (running : List RunningData) → running_of job running ≡ named_of job (map name_of running)
counted job [] = refl
counted job (b ∷ bs) =
    sum_by-cons (λ x. cond (bytes_eq job x.job) 1 0) b bs ∙ ap (λ k. cond (bytes_eq job b.job) 1 0 + k) (counted job bs)
    ∙ sym (sum_by-cons (λ n. cond (bytes_eq job n.0) 1 0) (name_of b) (map name_of bs))

shut : (jobs : List JobData) (j : JobData) (running : List RunningData) → is_shut_out jobs j running ≡ list_any (shuts_out jobs j) (map name_of running)
shut jobs j [] = refl
shut jobs j (b ∷ bs) = ap (λ t. shuts_out jobs j (name_of b) || t) (shut jobs j bs)

pub busy_named : (jobs : List JobData) (j : JobData) (running : List RunningData) (names : List (Text × ℕ)) → map name_of running ≡ names
    → is_busy jobs j running ≡ (has_reached (limit_of j) (named_of j.name names) || list_any (shuts_out jobs j) names)
busy_named jobs j running names e =
    ap₂ (λ k t. has_reached (limit_of j) k || t) (counted j.name running ∙ ap (named_of j.name) e) (shut jobs j running ∙ ap (list_any (shuts_out jobs j)) e)
