-- The jobs that are red: their newest build that has ended didn't succeed.
use Rattle.std.specs.Prelude.{◌≡◌, ℕ, List, [], ◌∷◌, flat_map, false, if◌then◌else◌, Option, Some, None}
use Rattle.ccr_history.specs.Text.{Text}
use Rattle.ccr_history.specs.Builds.{BuildData, is_succeeded}
use Rattle.ccr_history.specs.History.{HistoryData}
use Rattle.ccr_pipeline.specs.JobData.{JobData}
use Rattle.ccr_pipeline.specs.Pipelines.{PipelineData}
use Rattle.ccr_core.specs.declared.form.Form.{Form}
use Rattle.ccr_lines.specs.JobsJson.{newest_that}
use Rattle.ccr_lines.specs.Listed.{builds_shown}

-- the build, if there is one that didn't succeed
abbrev pub red_if : Option BuildData → List BuildData
red_if None = []
red_if (Some b) = if is_succeeded b.status then [] else b ∷ []

-- THE RED BUILDS: of each of these jobs the newest that has ended, where it didn't succeed
abbrev pub red_builds : HistoryData → List JobData → List BuildData
red_builds h js = flat_map (λ j. red_if (newest_that false j.name h)) js

-- 1 if there is one, else 0
abbrev pub red_status : List BuildData → ℕ
red_status [] = 0
red_status (b ∷ bs) = 1

-- WHAT IS SHOWN of the red jobs of a pipeline: how those builds stand; the status tells whether there are any
abbrev pub IsRedShown : Form → PipelineData → HistoryData → ℕ → Text → Type 0
IsRedShown form p h status lines =
    (status ≡ red_status (red_builds h p.jobs)) × (lines ≡ builds_shown form (red_builds h p.jobs))
