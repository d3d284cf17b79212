-- How the jobs of a pipeline stand, as JSON.
use Rattle.std.specs.Prelude.{◌≡◌, ℕ, zero, suc, List, [], ◌∷◌, map, flat_map, Bool, true, false, not, Option, Some, None, if◌then◌else◌, codes, decimal}
use Rattle.std.specs.Option.{option_map_or, option_or}
use Rattle.serde_json.specs.Data.{Data, null, boolean, string, object, no_members, member}
use Rattle.ccr_history.specs.Text.{Text}
use Rattle.ccr_history.specs.Builds.{BuildData, build_of, count_of, is_running}
use Rattle.ccr_history.specs.History.{HistoryData}
use Rattle.ccr_history.specs.declared.build.Status.{Status}
use Rattle.ccr_pipeline.specs.Inputs.{InputData, inputs}
use Rattle.ccr_pipeline.specs.JobData.{ResourceData, JobData}
use Rattle.ccr_pipeline.specs.Names.{has_name}
use Rattle.ccr_pipeline.specs.Pipelines.{PipelineData}
use Rattle.ccr_pipeline.specs.Tree.{Tree, gathered}
use Rattle.ccr_core.specs.declared.form.Form.{Form}
use Rattle.ccr_core.specs.declared.form.Form.TheVariants as form
use Rattle.ccr_lines.specs.declared.outlook.Outlook.{Outlook}
use Rattle.ccr_lines.specs.declared.outlook.Outlook.TheVariants.{Due, NothingNew, ByCommandOnly, NoneSatisfies, OverBudget}
use Rattle.ccr_lines.specs.Graphs.{own_put}
use Rattle.ccr_lines.specs.Json.{list, json_line}
use Rattle.ccr_lines.specs.Lines.{status_word}
use Rattle.ccr_lines.specs.Newest.{stands, newest_of}
use Rattle.ccr_lines.specs.Outlooks.{outlook_words}
use Rattle.ccr_lines.specs.Standing.{NextData, AreNext, jobs_lines}

-- ---- builds
-- of a job's builds, the newest one that runs, or the newest one that has ended
abbrev pub newest_that : Bool → Text → HistoryData → Option BuildData
newest_that runs job h = newest_of (stands runs) job h

-- a build, and how it stands
abbrev pub build_json : BuildData → Data
build_json b =
    object (member (codes "job_name") (string b.job)
    (member (codes "name") (string (decimal b.number))
    (member (codes "status") (string (status_word b.status)) no_members)))

-- the same, if there is one; else null
abbrev pub newest_json : Option BuildData → Data
newest_json found = option_map_or (λ b. build_json b) found null

-- ---- inputs and outputs
-- an input of a job
abbrev pub input_json : InputData → Data
input_json i =
    object (member (codes "name") (string i.name)
    (member (codes "passed") (list (map (λ job. string job) i.passed))
    (member (codes "resource") (string i.resource)
    (member (codes "trigger") (boolean i.trigger) no_members))))

-- a resource
abbrev pub output_json : Text → Data
output_json resource = object (member (codes "resource") (string resource) no_members)

-- a resource, if a put of the plan means it
abbrev pub output_of : Tree → ResourceData → List Data
output_of plan r = if has_name (gathered own_put plan) r.name then output_json r.name ∷ [] else []

-- ---- jobs
-- a schedule would make a build
abbrev pub is_due : Outlook → Bool
is_due Due = true
is_due NothingNew = false
is_due ByCommandOnly = false
is_due NoneSatisfies = false
is_due (OverBudget n) = false

-- a job of this name, with these newest builds, and these values of its inputs and outputs
abbrev pub job_object : Text → Outlook → Option BuildData → List Data → Option BuildData → List Data → Data
job_object name o finished ins running outs =
    object (member (codes "finished_build") (newest_json finished)
    (member (codes "has_new_inputs") (boolean (is_due o))
    (member (codes "inputs") (list ins)
    (member (codes "name") (string name)
    (member (codes "next") (string (outlook_words o))
    (member (codes "next_build") (newest_json running)
    (member (codes "outputs") (list outs) no_members)))))))

-- a job with its newest build that has ended, whether it has new inputs, its inputs, what its next build would be, its
-- newest build that runs, and the resources that it puts
abbrev pub job_json : List ResourceData → HistoryData → JobData → Outlook → Data
job_json rs h j o =
    job_object j.name o (newest_that false j.name h) (map (λ i. input_json i) (inputs j.plan)) (newest_that true j.name h)
    (flat_map (λ r. output_of j.plan r) rs)

-- these jobs, as a list
abbrev pub jobs_json : List ResourceData → HistoryData → List NextData → Data
jobs_json rs h ns = list (map (λ n. job_json rs h n.job n.outlook) ns)

-- the same in one of the forms
abbrev pub jobs_shown : Form → List ResourceData → HistoryData → List NextData → Text
jobs_shown form.Lines rs h ns = jobs_lines h ns
jobs_shown form.Json rs h ns = json_line (jobs_json rs h ns)

-- what is shown of the jobs of a pipeline
abbrev pub AreJobs : Form → PipelineData → HistoryData → ℕ → Text → Type 0
AreJobs form p h budget lines =
    (ns : List NextData) × AreNext p h budget p.jobs ns × (lines ≡ jobs_shown form p.resources h ns)
