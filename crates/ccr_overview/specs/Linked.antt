-- Words that lead to a job or a build.
use Rattle.std.specs.Prelude.{ℕ, ◌+◌, List, [], ◌∷◌, ◌++◌, length, Bool, ◌==◌, Option, Some, None, option_map, if◌then◌else◌}
use Rattle.std.specs.Option.{option_map_or}
use Rattle.std.specs.Str.{bytes_eq}
use Rattle.ccr_history.specs.Text.{Text}
use Rattle.ccr_pipeline.specs.JobData.{ResourceData, JobData}
use Rattle.ccr_overview.specs.PageBuilds.{has_row}
use Rattle.ccr_overview.specs.PageData.{WordData, Plain, Named, ToJob, ToBuild, Past}
use Rattle.ccr_overview.specs.Scenes.{SceneData}

-- ---- positions
-- the position of the job of a name, where the first of these has position k
abbrev pub job_from : ℕ → Text → List JobData → Option ℕ
job_from k named [] = None
job_from k named (j ∷ js) = if bytes_eq named j.name then Some k else job_from (k + 1) named js

-- the position of the job of a name, if the pipeline has it
abbrev pub job_position : Text → List JobData → Option ℕ
job_position named js = job_from 0 named js

-- ---- words
-- a job, which leads to what is said of it, if the pipeline has it
abbrev pub job_word : SceneData → Text → WordData
job_word s named = option_map_or (λ k. ToJob k named) (job_position named s.pipeline.jobs) (Named named 40)

-- a build of the job at this position, which leads to its row if it has one
abbrev pub build_at : SceneData → Text → ℕ → ℕ → WordData
build_at s named number k = if has_row s.history s.rows named number then ToBuild k number named else Past named number

-- a build of a job, which leads to its row if it has one
abbrev pub build_word : SceneData → Text → ℕ → WordData
build_word s named number = option_map_or (build_at s named number) (job_position named s.pipeline.jobs) (Past named number)
