-- The jobs of a page, one after another.
use Rattle.std.proofs.Common.{◌≡◌, ◌<◌, ◌+◌, ◌∷◌, ◌++◌, [], ℕ, List, length, drop, map, get_or, Option, Result, Ok, Err, IfOk, sym, ap, ap₂, ◌∙◌, append_assoc}
use Rattle.std.proofs.lemmas.List.{drop_more, map-append}
use Rattle.ccr_history.specs.Builds.{BuildData}
use Rattle.ccr_page.specs.declared.data.Job.{Job}
use Rattle.ccr_overview.specs.Each.{each_from}
use Rattle.ccr_overview.specs.Overviews.{job_listed}
use Rattle.ccr_overview.specs.PageData.{page_job_data}
use Rattle.ccr_overview.specs.Scenes.{SceneData, ToldData}

-- a job, by its newest build and its rows
pub job_so : {E : Type 0} (r : Result Job E) (s : SceneData) (k : ℕ) (t : ToldData) (newest own : Option BuildData) (ks all : List ℕ)
    → IfOk r (λ job. page_job_data job ≡ job_listed s k t newest ks) → newest ≡ own → ks ≡ all
    → IfOk r (λ job. page_job_data job ≡ job_listed s k t own all)
job_so (Ok job) s k t newest own ks all is same rows = is ∙ ap₂ (λ b ns. job_listed s k t b ns) same rows
job_so (Err e) s k t newest own ks all is same rows = tt

-- one thing more
pub one_on : {X W Z Y : Type 0} (g : Z → Y) (of : X → W) (f : ℕ → W → Y) (xs : List X) (k : ℕ) (x : X) (old new : List Z) (z : Z)
    (all : List Y) → k < length xs → get_or xs k x ≡ x → new ≡ old ++ z ∷ [] → g z ≡ f k (of x)
    → map g old ++ each_from (λ n w. f n w ∷ []) k (map of (drop k xs)) ≡ all
    → map g new ++ each_from (λ n w. f n w ∷ []) (k + 1) (map of (drop (k + 1) xs)) ≡ all
one_on g of f xs k x old new z all within at more is before =
    let rest = each_from (λ n w. f n w ∷ []) (k + 1) (map of (drop (k + 1) xs)) in
    ap (λ t. map g t ++ rest) more
    ∙ (ap (λ t. t ++ rest) (map-append g old (z ∷ []))
    ∙ (append_assoc (map g old) (g z ∷ []) rest
    ∙ (ap (λ y. map g old ++ (y ∷ rest)) is
    ∙ (sym (ap (λ ys. map g old ++ each_from (λ n w. f n w ∷ []) k (map of ys))
    (drop_more xs k x within ∙ ap (λ y. y ∷ drop (k + 1) xs) at))
    ∙ before))))
