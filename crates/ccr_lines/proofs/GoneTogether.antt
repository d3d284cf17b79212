-- The newest build that moved versions together.
use Rattle.std.proofs.Common.{◌≡◌, ◌+◌, ◌∷◌, ◌++◌, [], List, ℕ, Bool, true, false, take, drop, map, flat_map, cond, Option, Some, option_map, unwrap_or, slice_get, refl, sym, ◌∙◌, ap, append_assoc}
use Rattle.std.specs.Prelude.{find, ◌&&◌}
use Rattle.std.specs.Str.{bytes_eq}
use Rattle.std.proofs.lemmas.List.{reverse-append}
use Rattle.std.proofs.lemmas.List.Folds.{flat_map-map}
use Rattle.ccr_history.specs.Text.{Text}
use Rattle.ccr_history.specs.Builds.{UsedData, BuildData, is_of}
use Rattle.ccr_pipeline.specs.Inputs.{InputData}
use Rattle.ccr_pipeline.specs.JobData.{job_data}
use Rattle.ccr_pipeline.specs.Pipelines.{PipelineData}
use Rattle.ccr_pipeline.specs.declared.resource.Job.{Job}
use Rattle.ccr_core.specs.State.{no_pipeline}
use Rattle.ccr_lines.specs.Releases.{TogetherData, pairs_for, pairs_naming, passed_all, newest_together, together, inputs_in_plan, all_together}
use Rattle.ccr_lines.proofs.Showing.{one_more, drop_there}

-- the first that passes a test, by a number of it
first_of : (test : Bool) (b : BuildData) (rest : Option BuildData)
    → option_map (λ x. x.number) (cond test (Some b) rest) ≡ cond test (Some b.number) (option_map (λ x. x.number) rest)
first_of true b rest = refl
first_of false b rest = refl

-- one build more at the end
newest_more : (job : Text) (pairs : List (ℕ × ℕ)) (bs : List BuildData) (b : BuildData)
    → option_map (λ x. x.number) (newest_together job pairs (bs ++ b ∷ []))
    ≡ cond (is_of job b && passed_all pairs b) (Some b.number) (option_map (λ x. x.number) (newest_together job pairs bs))
newest_more job pairs bs b =
    ap (λ xs. option_map (λ x. x.number) (find (λ x. is_of job x && passed_all pairs x) xs)) (reverse-append bs (b ∷ []))
    ∙ first_of (is_of job b && passed_all pairs b) b (newest_together job pairs bs)

-- its number is kept along the builds
pub newest_told : (job : Text) (pairs : List (ℕ × ℕ)) (bs : List BuildData) (k : ℕ) (b : BuildData) (old new : Option ℕ)
    → slice_get bs k ≡ Some b → old ≡ option_map (λ x. x.number) (newest_together job pairs (take k bs))
    → new ≡ cond (is_of job b && passed_all pairs b) (Some b.number) old
    → new ≡ option_map (λ x. x.number) (newest_together job pairs (take (k + 1) bs))
newest_told job pairs bs k b old new at o n =
    n ∙ (ap (λ m. cond (is_of job b && passed_all pairs b) (Some b.number) m) o
    ∙ (sym (newest_more job pairs (take k bs) b)
    ∙ ap (λ xs. option_map (λ x. x.number) (newest_together job pairs xs)) (sym (one_more bs k b at))))

-- ---- pairs
-- a pair that may be added comes in front of the rest
in_front : (b : Bool) (p : ℕ × ℕ) (old rest : List (ℕ × ℕ))
    → cond b (old ++ p ∷ []) old ++ rest ≡ old ++ cond b (p ∷ rest) rest
in_front true p old rest = append_assoc old (p ∷ []) rest
in_front false p old rest = refl

-- the pairs for an input, along the used places
pub pairs_told : (input : Text) (used : List UsedData) (k : ℕ) (u : UsedData) (old new all : List (ℕ × ℕ)) (test : Bool)
    → slice_get used k ≡ Some u → test ≡ bytes_eq input u.input
    → new ≡ cond test (old ++ (u.scope, u.place) ∷ []) old → old ++ pairs_for input (drop k used) ≡ all
    → new ++ pairs_for input (drop (k + 1) used) ≡ all
pairs_told input used k u old new all test at is told before =
    let rest : List (ℕ × ℕ) = pairs_for input (drop (k + 1) used) in
    ap (λ xs. xs ++ rest) told
    ∙ (in_front test (u.scope, u.place) old rest
    ∙ (ap (λ b. old ++ cond b ((u.scope, u.place) ∷ rest) rest) is
    ∙ (sym (ap (λ xs. old ++ pairs_for input xs) (drop_there used k u at)) ∙ before)))

-- ---- the jobs of a pipeline
pub together_told : (p : PipelineData) (o : Option PipelineData) (before : List BuildData) (b : BuildData)
    (jobs : List Job) (is : List InputData) (found : List TogetherData) → o ≡ Some p → map job_data jobs ≡ p.jobs
    → is ≡ inputs_in_plan p b.job
    → found ≡ flat_map (λ j. together (job_data j).name (pairs_naming (job_data j).name is b.used) before) jobs
    → found ≡ all_together (unwrap_or o no_pipeline) before b
together_told p o before b jobs is found set same planned told =
    told
    ∙ (sym (flat_map-map (λ j. together j.name (pairs_naming j.name is b.used) before) job_data jobs)
    ∙ (ap (λ js. flat_map (λ j. together j.name (pairs_naming j.name is b.used) before) js) same
    ∙ (ap (λ x. flat_map (λ j. together j.name (pairs_naming j.name x b.used) before) p.jobs) planned
    ∙ ap (λ x. all_together (unwrap_or x no_pipeline) before b) (sym set))))
