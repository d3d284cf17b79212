-- How the resources and the jobs of a pipeline stand.
use Rattle.std.specs.Prelude.{◌≡◌, ℕ, List, [], ◌∷◌, ◌++◌, length, flat_map, codes, decimal, Option, Some, None}
use Rattle.ccr_history.specs.Text.{Text}
use Rattle.ccr_history.specs.TextMap.{TextMap, key_text}
use Rattle.ccr_history.specs.Tables.{versions_of}
use Rattle.ccr_history.specs.Builds.{BuildData, build_of, count_of}
use Rattle.ccr_history.specs.Changes.{pin_of}
use Rattle.ccr_history.specs.History.{HistoryData}
use Rattle.ccr_pipeline.specs.JobData.{ResourceData, JobData, job_data}
use Rattle.ccr_pipeline.specs.Pipelines.{PipelineData}
use Rattle.ccr_problem.specs.ProblemOf.{scope_of}
use Rattle.ccr_lines.specs.declared.next_build.NextBuild.{NextBuild}
use Rattle.ccr_lines.specs.declared.outlook.Outlook.{Outlook}
use Rattle.ccr_lines.specs.Lines.{line, status_word}
use Rattle.ccr_lines.specs.Outlooks.{HasOutlook, outlook_words}

-- ---- resources
-- these words and the pin, where there is one
abbrev pub pin_words : Text → Option TextMap → Text
pin_words words None = []
pin_words words (Some pin) = words ++ key_text pin

-- a resource with its type, how many versions its scope has, and the pins that hold all its inputs: that of the pipeline,
-- and that by command
abbrev pub resource_line : HistoryData → ResourceData → Text
resource_line h r =
    line (r.name ∷ codes " " ∷ r.kind ∷ codes " " ∷ decimal (length (versions_of (scope_of r) h.tables)) ∷ codes " versions"
    ∷ pin_words (codes " pinned by pipeline ") r.version ∷ pin_words (codes " pinned ") (pin_of r.name h.pins) ∷ [])

-- THE RESOURCES, in their order
abbrev pub resources_lines : HistoryData → List ResourceData → Text
resources_lines h rs = flat_map (λ r. resource_line h r) rs

-- ---- jobs
-- how a job's newest build stands, where it has one
abbrev pub newest_words : Option BuildData → Text
newest_words None = codes " no builds "
newest_words (Some b) = codes " " ++ (decimal b.number ++ (codes " " ++ (status_word b.status ++ codes " ")))

-- a job's build with the highest number, if it has one
abbrev pub newest_build : Text → HistoryData → Option BuildData
newest_build job h = build_of job (count_of job h.builds) h.builds

-- a job with its newest build, and what its next build would be
abbrev pub job_state : HistoryData → JobData → Outlook → Text
job_state h j o = line (j.name ∷ newest_words (newest_build j.name h) ∷ outlook_words o ∷ [])

-- a job with what its next build would be
pub record NextData : Type 0 where
  pub job : JobData
  pub outlook : Outlook

-- what a value of the program's type stands for
abbrev pub next_data : NextBuild → NextData
next_data n = record { job = job_data n.job.now; outlook = n.outlook }

-- THE JOBS, in their order, each with what its next build would be
abbrev pub AreNext : PipelineData → HistoryData → ℕ → List JobData → List NextData → Type 0
AreNext p h budget [] ns = ns ≡ []
AreNext p h budget (j ∷ js) ns =
    (o : Outlook) × (rest : List NextData) × HasOutlook p h budget j o × AreNext p h budget js rest
    × (ns ≡ record { job = j; outlook = o } ∷ rest)

-- the lines of these jobs
abbrev pub jobs_lines : HistoryData → List NextData → Text
jobs_lines h ns = flat_map (λ n. job_state h n.job n.outlook) ns
