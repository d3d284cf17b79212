-- What a build took and moved, and the earlier builds through which that went together.
use Rattle.std.specs.Prelude.{◌≡◌, ℕ, List, [], ◌∷◌, ◌++◌, reverse, flat_map, Bool, ◌&&◌, ◌==◌, if◌then◌else◌, Option, Some, None, find, option_map, codes, decimal}
use Rattle.std.specs.List.{list_any, list_all}
use Rattle.std.specs.Option.{option_map_or}
use Rattle.std.specs.Str.{bytes_eq}
use Rattle.ccr_history.specs.Text.{Text}
use Rattle.ccr_history.specs.TextMap.{key_text}
use Rattle.ccr_history.specs.Tables.{TableData, at_place, versions_at}
use Rattle.ccr_history.specs.Builds.{UsedData, BuildData, is_of, passed_pairs}
use Rattle.ccr_pipeline.specs.Inputs.{InputData, inputs}
use Rattle.ccr_pipeline.specs.Names.{has_name}
use Rattle.ccr_pipeline.specs.Pipelines.{PipelineData}
use Rattle.ccr_problem.specs.ProblemOf.{job_of}
use Rattle.ccr_lines.specs.declared.release.Together.{Together}
use Rattle.ccr_lines.specs.Lines.{line, build_line, status_word}

-- ---- versions
-- the key of the version at a place of the scope of this number
abbrev pub key_at : List TableData → ℕ → ℕ → Text
key_at tables scope place = option_map_or key_text (at_place place (versions_at scope tables)) []

-- the name of the resource of the scope of this number
abbrev pub resource_at : List TableData → ℕ → Text
resource_at tables scope = option_map_or (λ s. s.resource) (option_map (λ t. t.scope) (at_place scope tables)) []

-- a place with its version, behind a word and a name
abbrev pub place_line : Text → Text → List TableData → ℕ → ℕ → Text
place_line word name tables scope place =
    line (word ∷ codes " " ∷ name ∷ codes " " ∷ decimal place ∷ codes " " ∷ key_at tables scope place ∷ [])

-- what a build took for one of its inputs
abbrev pub took_line : List TableData → UsedData → Text
took_line tables u = place_line (codes "took") u.input tables u.scope u.place

-- what a build moved, under the name of the resource
abbrev pub moved_line : List TableData → ℕ × ℕ → Text
moved_line tables q = place_line (codes "moved") (resource_at tables q.0) tables q.0 q.1

-- ---- what went together
-- the two pairs of scope and place are one
abbrev pub is_pair : ℕ × ℕ → ℕ × ℕ → Bool
is_pair p q = p.0 == q.0 && p.1 == q.1

-- what a build took for the input of this name, as pairs of scope and place; none where it has no such input
abbrev pub pairs_for : Text → List UsedData → List (ℕ × ℕ)
pairs_for input [] = []
pairs_for input (u ∷ us) = if bytes_eq input u.input then (u.scope, u.place) ∷ pairs_for input us else pairs_for input us

-- what a build took for those of these inputs that name a job in passed
abbrev pub pairs_naming : Text → List InputData → List UsedData → List (ℕ × ℕ)
pairs_naming job [] used = []
pairs_naming job (i ∷ is) used =
    (if has_name i.passed job then pairs_for i.name used else []) ++ pairs_naming job is used

-- these pairs passed the build's job with it, all of them: it succeeded, and moved them
abbrev pub passed_all : List (ℕ × ℕ) → BuildData → Bool
passed_all pairs b = list_all (λ p. list_any (is_pair p) (passed_pairs b)) pairs

-- the newest of these builds that is the job's and that all these pairs passed together
abbrev pub newest_together : Text → List (ℕ × ℕ) → List BuildData → Option BuildData
newest_together job pairs builds = find (λ b. is_of job b && passed_all pairs b) (reverse builds)

-- the number of the build of a job that shows that pairs passed it together; or that there is none
abbrev pub witness_line : Text → Option ℕ → Text
witness_line job (Some number) = line (codes "together " ∷ job ∷ codes " " ∷ decimal number ∷ [])
witness_line job None = line (codes "no build of " ∷ job ∷ codes " moved them together" ∷ [])

-- a job with the number of its newest build that shows that pairs passed it together, if there is one
pub record TogetherData : Type 0 where
  pub job : Text
  pub number : Option ℕ

-- what a value of the program's type stands for
abbrev pub together_data : Together → TogetherData
together_data t = record { job = t.job.now; number = t.number }

-- the job with that build of these, where there are pairs that have to have passed it; nothing where there are none
abbrev pub together : Text → List (ℕ × ℕ) → List BuildData → List TogetherData
together job [] before = []
together job (p ∷ ps) before =
    record { job = job; number = option_map (λ b. b.number) (newest_together job (p ∷ ps) before) } ∷ []

-- the inputs that a job has in a pipeline; none where it has no such job
abbrev pub inputs_in_plan : PipelineData → Text → List InputData
inputs_in_plan p job = option_map_or (λ j. inputs j.plan) (job_of job p.jobs) []

-- THE JOBS that the inputs of the build's job name in passed today, each with its newest build before this one that moved
-- together what this one took for them
abbrev pub all_together : PipelineData → List BuildData → BuildData → List TogetherData
all_together p before b =
    flat_map (λ j. together j.name (pairs_naming j.name (inputs_in_plan p b.job) b.used) before) p.jobs

-- ---- a build
-- these builds were made before it, and no other
abbrev pub AreMadeBefore : List BuildData → List BuildData → BuildData → Type 0
AreMadeBefore builds before b = (after : List BuildData) × (builds ≡ before ++ b ∷ after)

-- HOW IT STANDS, what it took, through which builds that had gone together, and what it moved
abbrev pub release_lines : List TableData → BuildData → List TogetherData → Text
release_lines tables b ts =
    build_line b.job b.number (status_word b.status)
    ++ flat_map (took_line tables) b.used
    ++ flat_map (λ t. witness_line t.job t.number) ts
    ++ flat_map (moved_line tables) b.moved
