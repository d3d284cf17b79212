-- The page of a core.
use Rattle.std.proofs.Common.{◌≡◌, ◌≤◌, ◌+◌, ℕ, suc, List, [], ◌∷◌, ◌++◌, length, map, Option, Some, None, Result, Ok, Err, IfOk, refl, sym, ap, ◌∙◌, subst, arith, length-append}
use Rattle.std.proofs.lemmas.List.{length-map}
use Rattle.ccr_history.specs.History.{HistoryData}
use Rattle.ccr_pipeline.specs.JobData.{JobData}
use Rattle.ccr_pipeline.specs.Pipelines.{PipelineData}
use Rattle.ccr_lines.specs.Each.{AreEach}
use Rattle.ccr_page.specs.declared.data.Page.{Page}
use Rattle.ccr_overview.specs.Each.{each_from}
use Rattle.ccr_overview.specs.Overviews.{OptionsData, job_shown, page_with, scene_of, IsPageOf, IsPageIn}
use Rattle.ccr_overview.specs.PageData.{PageData, page_data, page_job_data, page_resource_data}
use Rattle.ccr_overview.specs.PageResources.{resource_shown}
use Rattle.ccr_overview.specs.Scenes.{ToldData, SceneData, row_count, IsTold, AreTold}

-- the scene with these parts
abbrev pub scene_with : PipelineData → HistoryData → ℕ → List ToldData → SceneData
scene_with p h rows told = record { pipeline = p; history = h; rows = rows; told = told }

-- the page of a scene that is that of a pipeline with a history
pub page_so : (o : OptionsData) (p : PipelineData) (h g : HistoryData) (budget rows : ℕ) (told : List ToldData) (page : PageData)
    → g ≡ h → rows ≡ row_count (length p.jobs) → AreTold p h budget told → page ≡ page_with o (scene_with p g rows told)
    → IsPageOf o p h budget page
page_so o p h g budget rows told page same count are is = (
  told,
  are,
  is ∙ (ap (λ x. page_with o (scene_with p x rows told)) same ∙ ap (λ n. page_with o (scene_with p h n told)) count),
)

-- as many are told of as there are
each_long : (p : PipelineData) (h : HistoryData) (budget k : ℕ) (js : List JobData) (ts : List ToldData)
    → AreEach (IsTold p h budget) k js ts → length ts ≡ length js
each_long p h budget k [] ts are = ap length are
each_long p h budget k (j ∷ js) ts are =
    let own = are.2 in
    let one : length are.0 ≡ 1 = ap length own.2 in
    let rest = each_long p h budget (k + 1) js are.1 are.3 in
    let all : length ts ≡ length (are.0 ++ are.1) = ap length are.4 in
    omega (arith, one, rest, all, length-append are.0 are.1)

pub told_long : (p : PipelineData) (h : HistoryData) (budget : ℕ) (ts : List ToldData) → AreTold p h budget ts → length ts ≡ length p.jobs
told_long p h budget ts are = each_long p h budget 0 p.jobs ts are

-- the page of a pipeline that is set
pub page_in : {E : Type 0} (o : OptionsData) (set : Option PipelineData) (p : PipelineData) (h : HistoryData) (budget : ℕ) (r : Result PageData E)
    → set ≡ Some p → IfOk r (IsPageOf o p h budget) → IfOk r (IsPageIn o set h budget)
page_in o set p h budget r is of = subst (λ s. IfOk r (IsPageIn o s h budget)) (sym is) of

-- the same of a page that is made, if it is
pub page_told : {E X : Type 0} (f : X → PageData) (r : Result X E) (o : OptionsData) (p : PipelineData) (h g : HistoryData)
    (budget rows : ℕ) (told : List ToldData) → g ≡ h → rows ≡ row_count (length p.jobs) → AreTold p h budget told
    → IfOk r (λ x. f x ≡ page_with o (scene_with p g rows told)) → IfOk r (λ x. IsPageOf o p h budget (f x))
page_told f (Ok x) o p h g budget rows told same count are is = page_so o p h g budget rows told (f x) same count are is
page_told f (Err e) o p h g budget rows told same count are is = tt

-- ---- how many there are
-- each job is shown once
shown_long : (s : SceneData) (k : ℕ) (ts : List ToldData) → length (each_from (job_shown s) k ts) ≡ length ts
shown_long s k [] = refl
shown_long s k (t ∷ ts) = ap suc (shown_long s (k + 1) ts)

-- a page has few resources and jobs, where its pipeline has few
few_of : (page : Page) (o : OptionsData) (p : PipelineData) (h : HistoryData) (budget : ℕ)
    → length p.resources ≤ 200 → length p.jobs ≤ 200 → IsPageOf o p h budget (page_data page)
    → length page.resources.items + length page.jobs.items ≤ 400
few_of page o p h budget rs js of =
    let told = of.0 in
    let s = scene_of p h told in
    let all : length (map page_resource_data page.resources.items) ≡ length (map (resource_shown h) p.resources) = ap (λ x. length x.resources) of.2 in
    let each : length (map page_job_data page.jobs.items) ≡ length (each_from (job_shown s) 0 told) = ap (λ x. length x.jobs) of.2 in
    omega (
      arith,
      rs,
      js,
      all,
      each,
      length-map page.resources.items page_resource_data,
      length-map p.resources (resource_shown h),
      length-map page.jobs.items page_job_data,
      shown_long s 0 told,
      told_long p h budget told of.1,
    )

-- the same of a page that is made, if it is
pub few_told : {E : Type 0} (r : Result Page E) (o : OptionsData) (p : PipelineData) (h : HistoryData) (budget : ℕ)
    → length p.resources ≤ 200 → length p.jobs ≤ 200 → IfOk r (λ page. IsPageOf o p h budget (page_data page))
    → IfOk r (λ page. length page.resources.items + length page.jobs.items ≤ 400)
few_told (Ok page) o p h budget rs js of = few_of page o p h budget rs js of
few_told (Err e) o p h budget rs js of = tt
