-- The jobs of a pipeline, one after another.
use Rattle.std.proofs.Common.{◌≡◌, ◌+◌, ◌<◌, ◌∷◌, ◌++◌, [], List, ℕ, zero, suc, Bool, true, false, length, take, map, get_or, cond, Option, Some, refl, sym, ◌∙◌, ap, subst, arith}
use Rattle.std.specs.Prelude.{IsSome}
use Rattle.std.specs.Str.{bytes_eq}
use Rattle.std.proofs.lemmas.List.{take_more, map-append}
use Rattle.std.proofs.lemmas.Slice.Eq.{bytes_eq-Decides}
use Rattle.ccr_history.specs.History.{HistoryData}
use Rattle.ccr_pipeline.specs.JobData.{JobData, job_data}
use Rattle.ccr_pipeline.specs.Pipelines.{PipelineData}
use Rattle.ccr_pipeline.specs.declared.resource.Job.{Job}
use Rattle.ccr_problem.specs.ProblemOf.{job_of}
use Rattle.ccr_lines.specs.Outlooks.{HasOutlook}
use Rattle.ccr_lines.specs.Standing.{NextData, AreNext}
use Rattle.ccr_lines.specs.declared.outlook.Outlook.{Outlook}

-- one job more at the end
next_more : (p : PipelineData) (h : HistoryData) (budget : ℕ) (js : List JobData) (ns : List NextData) (j : JobData)
    (o : Outlook) → AreNext p h budget js ns → HasOutlook p h budget j o
    → AreNext p h budget (js ++ j ∷ []) (ns ++ record { job = j; outlook = o } ∷ [])
next_more p h budget [] ns j o none has =
    (o, [], has, refl, ap (λ t. t ++ record { job = j; outlook = o } ∷ []) none)
next_more p h budget (k ∷ ks) ns j o shown has = (
  shown.0,
  shown.1 ++ record { job = j; outlook = o } ∷ [],
  shown.2,
  next_more p h budget ks shown.1 j o shown.3 has,
  ap (λ t. t ++ record { job = j; outlook = o } ∷ []) shown.4,
)

-- it comes to the others
pub next_told : (p : PipelineData) (h : HistoryData) (budget : ℕ) (js : List Job) (k : ℕ) (j : Job) (o : Outlook)
    (old new : List NextData) → k < length js → get_or js k j ≡ j → AreNext p h budget (map job_data (take k js)) old
    → HasOutlook p h budget (job_data j) o → new ≡ old ++ record { job = job_data j; outlook = o } ∷ []
    → AreNext p h budget (map job_data (take (k + 1) js)) new
next_told p h budget js k j o old new within at shown has told =
    let next : NextData = record { job = job_data j; outlook = o } in
    subst (λ t. AreNext p h budget (map job_data (take (k + 1) js)) t) (sym told)
    (subst (λ xs. AreNext p h budget (map job_data xs) (old ++ next ∷ [])) (sym more)
    (subst (λ xs. AreNext p h budget xs (old ++ next ∷ []))
    (sym (map-append job_data (take k js) (j ∷ [])))
    (next_more p h budget (map job_data (take k js)) old (job_data j) o shown has))) where
      more : take (k + 1) js ≡ take k js ++ j ∷ []
      more = take_more js k j within ∙ ap (λ x. take k js ++ x ∷ []) at

-- ---- a job of the list has its name in the list
found_by : (b : Bool) (j : JobData) (rest : Option JobData) → b ≡ true → IsSome (cond b (Some j) rest)
found_by true j rest e = refl
found_by false j rest e = absurd (cc)

found_on : (b : Bool) (j : JobData) (rest : Option JobData) → IsSome rest → IsSome (cond b (Some j) rest)
found_on true j rest some = refl
found_on false j rest some = some

found_at : (js : List Job) (k : ℕ) (j : Job) → k < length js → get_or js k j ≡ j
    → IsSome (job_of (job_data j).name (map job_data js))
found_at [] k j within at = absurd (omega arith)
found_at (i ∷ is) zero j within at =
    found_by (bytes_eq (job_data j).name (job_data i).name) (job_data i) (job_of (job_data j).name (map job_data is))
    (ap (λ x. bytes_eq (job_data j).name (job_data x).name) at ∙ (bytes_eq-Decides (job_data j).name (job_data j).name).1 refl)
found_at (i ∷ is) (suc k) j within at =
    found_on (bytes_eq (job_data j).name (job_data i).name) (job_data i) (job_of (job_data j).name (map job_data is))
    (found_at is k j (omega arith) at)

-- the same of the list as the pipeline has it
pub job_there : (js : List Job) (all : List JobData) (k : ℕ) (j : Job) → map job_data js ≡ all → k < length js
    → get_or js k j ≡ j → IsSome (job_of (job_data j).name all)
job_there js all k j same within at =
    subst (λ xs. IsSome (job_of (job_data j).name xs)) same (found_at js k j within at)
