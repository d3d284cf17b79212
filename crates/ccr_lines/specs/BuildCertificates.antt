-- What a build took, in one text for the checker.
use Rattle.std.specs.Prelude.{◌≡◌, ◌⊎◌, ℕ, List, [], ◌∷◌, ◌++◌, length, map, slice_get, find, codes, Bool, false, ◌&&◌, ◌==◌, is_some, IsSome, option_map, Option, Some, MatchBool}
use Rattle.std.specs.List.{list_any, list_all}
use Rattle.std.specs.Option.{option_map_or}
use Rattle.std.specs.Str.{bytes_eq}
use Rattle.ccr_history.specs.Text.{Text}
use Rattle.ccr_history.specs.Builds.{UsedData, BuildData, build_of}
use Rattle.ccr_history.specs.History.{HistoryData}
use Rattle.ccr_pipeline.specs.Inputs.{InputData, inputs, named_jobs}
use Rattle.ccr_pipeline.specs.Pipelines.{PipelineData}
use Rattle.ccr_choice.specs.Problem.{ProblemValue, ChoiceValue}
use Rattle.ccr_choice.specs.ProblemText.{problem_text}
use Rattle.ccr_choice.specs.Satisfies.{IsFirstFailure}
use Rattle.ccr_proof.specs.ClaimText.{claim_text}
use Rattle.ccr_proof.specs.declared.claim.Claim.TheVariants.{Best}
use Rattle.ccr_check.specs.Judged.{choice_line, IsJudged}
use Rattle.ccr_problem.specs.ProblemOf.{job_of, history_number}
use Rattle.ccr_lines.specs.Lines.{line}
use Rattle.ccr_lines.specs.Releases.{inputs_in_plan, AreMadeBefore}
use Rattle.ccr_lines.specs.PastProblems.{past_problem}
use Rattle.ccr_lines.specs.Witnesses.{witness, AreWitnesses}

-- ---- what the build took
-- the build was given it for the input of this name, in the scope of this number
abbrev pub is_taken : Text → ℕ → UsedData → Bool
is_taken input scope u = bytes_eq input u.input && scope == u.scope

-- the place that a build took for an input, in the scope that the input's resource has today, if it took one there
abbrev pub place_for : PipelineData → HistoryData → List UsedData → InputData → Option ℕ
place_for p h used i = option_map (λ u. u.place) (find (is_taken i.name (history_number p h i.resource)) used)

-- one of these inputs has this name
abbrev pub has_input : List InputData → Text → Bool
has_input is name = list_any (λ i. bytes_eq name i.name) is

-- the build took a place for each of these inputs, in the scope that the input's resource has today, and for no others
abbrev pub took_these : PipelineData → HistoryData → List InputData → List UsedData → Bool
took_these p h is used = list_all (λ i. is_some (place_for p h used i)) is && list_all (λ u. has_input is u.input) used

-- the pipeline has a job of this name, whose inputs the build took, and no others
abbrev pub is_plan_kept : PipelineData → HistoryData → Text → List UsedData → Bool
is_plan_kept p h job used = option_map_or (λ j. took_these p h (inputs j.plan) used) (job_of job p.jobs) false

-- ---- what is said
-- the line of a build whose inputs aren't those of its job today
abbrev pub plan_changed : Text
plan_changed = line (codes "refused: plan changed" ∷ [])

-- the line of a build whose versions no build of this job had moved together
abbrev pub not_together : Text → Text
not_together job = line (codes "refused: no build of " ∷ job ∷ codes " moved them together" ∷ [])

-- this line alone, with status 1
abbrev pub IsRefused : Text → ℕ → Text → Type 0
IsRefused why status lines = (status ≡ 1) × (lines ≡ why)

-- whatever the checker says of these bytes, it is `satisfies` with this choice, and status 0
abbrev pub IsJudgedSatisfied : Text → ChoiceValue → Type 0
IsJudgedSatisfied bytes c =
    (said : List ℕ × ℕ) → IsJudged bytes said → said ≡ (choice_line (codes "satisfies") c, 0)

-- a problem with a claim, whose choice satisfies the problem, as the checker says
abbrev pub IsSatisfiedOf : ProblemValue → ChoiceValue → ℕ → Text → Type 0
IsSatisfiedOf q c status lines =
    (status ≡ 0) × (lines ≡ problem_text q ++ claim_text (Best c)) × IsJudgedSatisfied lines c

-- the problem with these places and the witnesses of its jobs; or the refusal that names the first job that has none, where
-- the jobs have these names
abbrev pub IsSaidOf : ProblemValue → (jobs : List Text) → (places : List ℕ) → ℕ → Text → Type 0
IsSaidOf q jobs places status lines =
    ((builds : List ℕ) × AreWitnesses q places builds
    × IsSatisfiedOf q (record { places = places; builds = builds }) status lines)
    ⊎ ((j : ℕ) × (job : Text) × IsFirstFailure (length q.jobs) (λ k. IsSome (witness q places k)) j
    × (slice_get jobs j ≡ Some job) × IsRefused (not_together job) status lines)

-- the problem of these inputs, which the build took, with the builds that were made before it and have succeeded by now, and
-- with its places
abbrev pub IsTakenShown : PipelineData → HistoryData → List BuildData → List InputData → List UsedData → ℕ → Text → Type 0
IsTakenShown p h before is used status lines =
    (places : List ℕ) × (map Some places ≡ map (place_for p h used) is)
    × IsSaidOf (past_problem p h before is) (named_jobs [] is) places status lines

-- THE CERTIFICATE OF THE JOB'S BUILD OF THIS NUMBER; or that the plan has changed
abbrev pub IsBuildCertificateShown : PipelineData → HistoryData → Text → ℕ → ℕ → Text → Type 0
IsBuildCertificateShown p h job number status lines =
    (b : BuildData) × (before : List BuildData) × (build_of job number h.builds ≡ Some b)
    × AreMadeBefore h.builds before b
    × MatchBool (is_plan_kept p h job b.used) (IsTakenShown p h before (inputs_in_plan p job) b.used status lines)
    (IsRefused plan_changed status lines)
