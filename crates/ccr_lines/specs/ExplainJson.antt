-- What is said of a job's next build, as JSON; and in one of the forms.
use Rattle.std.specs.Prelude.{◌≡◌, ℕ, Bool, List, map, Option, IsSomeAnd, codes, decimal}
use Rattle.std.specs.Option.{option_map_or}
use Rattle.serde_json.specs.Data.{Data, null, boolean, number, unsigned, string, object, no_members, member}
use Rattle.ccr_history.specs.Text.{Text}
use Rattle.ccr_history.specs.TextMap.{TextMap}
use Rattle.ccr_history.specs.History.{HistoryData}
use Rattle.ccr_history.specs.declared.build.Status.{Status}
use Rattle.ccr_pipeline.specs.Pipelines.{PipelineData}
use Rattle.ccr_problem.specs.ProblemOf.{job_of}
use Rattle.ccr_core.specs.declared.form.Form.{Form}
use Rattle.ccr_core.specs.declared.form.Form.TheVariants as form
use Rattle.ccr_lines.specs.declared.outlook.Outlook.{Outlook}
use Rattle.ccr_lines.specs.declared.outlook.Outlook.TheVariants.{Due, NothingNew, ByCommandOnly, NoneSatisfies, OverBudget}
use Rattle.ccr_lines.specs.Explained.{IsExplained}
use Rattle.ccr_lines.specs.ExplainedData.{RefusalData, PassedData, TakenData, ExplainedData}
use Rattle.ccr_lines.specs.ExplainLines.{explained_lines}
use Rattle.ccr_lines.specs.JobsJson.{is_due}
use Rattle.ccr_lines.specs.Json.{list, fields_json, json_line}
use Rattle.ccr_lines.specs.Lines.{status_word}
use Rattle.ccr_lines.specs.Outlooks.{outlook_words}
use Rattle.ccr_lines.specs.ReleaseJson.{witness_json}

-- a place that an input doesn't take, and why
abbrev pub refusal_json : RefusalData → Data
refusal_json r =
    object (member (codes "place") (number (unsigned r.place))
    (member (codes "reason") (string r.words)
    (member (codes "version") (fields_json r.version) no_members)))

-- a build of a job
abbrev pub passed_json : PassedData → Data
passed_json b = witness_json b.job b.build

-- an input, with these values of the newer places that it doesn't take, and of the builds through which it passed
abbrev pub taken_object : Text → List Data → List Data → ℕ → Text → Option TextMap → Data
taken_object name newer passed place resource version =
    object (member (codes "name") (string name)
    (member (codes "newer") (list newer)
    (member (codes "passed") (list passed)
    (member (codes "place") (number (unsigned place))
    (member (codes "resource") (string resource)
    (member (codes "version") (fields_json version) no_members))))))

-- what an input takes, and the newer places that it doesn't
abbrev pub taken_json : TakenData → Data
taken_json t =
    taken_object t.name (map (λ r. refusal_json r) t.newer) (map (λ b. passed_json b) t.passed) t.place t.resource t.version

-- a build of the job, and how it stands
abbrev pub last_build_json : ℕ × Status → Data
last_build_json b =
    object (member (codes "name") (string (decimal b.0))
    (member (codes "status") (string (status_word b.1)) no_members))

-- the same, if there is one; else null
abbrev pub last_json : Option (ℕ × Status) → Data
last_json found = option_map_or (λ b. last_build_json b) found null

-- words, if there are some; else null
abbrev pub words_json : Option Text → Data
words_json found = option_map_or (λ words. string words) found null

-- a job, with these values of what each input takes, of the build that has the same versions, of what the next build would be, and
-- of why there is none
abbrev pub explained_object : Bool → List Data → Text → Data → Data → Data → Data
explained_object due inputs job last next why =
    object (member (codes "has_new_inputs") (boolean due)
    (member (codes "inputs") (list inputs)
    (member (codes "job_name") (string job)
    (member (codes "last") last
    (member (codes "next") next
    (member (codes "reason") why no_members))))))

-- THE VALUE of what is said of a job
abbrev pub explained_json : ExplainedData → Data
explained_json e =
    explained_object (is_due e.outlook) (map (λ t. taken_json t) e.inputs) e.job (last_json e.last) (string (outlook_words e.outlook))
    (words_json e.why)

-- ---- in one of the forms
-- what is said of a job, as it is shown
abbrev pub explained_shown : Form → ExplainedData → Text
explained_shown form.Lines e = explained_lines e
explained_shown form.Json e = json_line (explained_json e)

-- the status: 3 where the search went over the budget, else 0
abbrev pub status_of : Outlook → ℕ
status_of Due = 0
status_of NothingNew = 0
status_of ByCommandOnly = 0
status_of NoneSatisfies = 0
status_of (OverBudget n) = 3

-- THE NEXT BUILD of the job of a name, explained, which the pipeline has, with which status
abbrev pub IsExplanationShown : Form → PipelineData → HistoryData → ℕ → Text → ℕ → Text → Type 0
IsExplanationShown f p h budget job status text =
    IsSomeAnd (job_of job p.jobs) (λ j. (e : ExplainedData) × IsExplained p h budget j e
    × (status ≡ status_of e.outlook) × (text ≡ explained_shown f e))
