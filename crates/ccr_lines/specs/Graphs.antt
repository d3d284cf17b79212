-- The pipeline as a Mermaid flowchart: resources, jobs with their newest builds, and what the jobs take and put.
use Rattle.std.specs.Prelude.{ℕ, ◌+◌, List, [], ◌∷◌, ◌++◌, length, flat_map, Bool, ◌&&◌, ◌||◌, nat_le, nat_eq, if◌then◌else◌, Option, Some, None, codes, decimal}
use Rattle.std.specs.Str.{bytes_eq}
use Rattle.ccr_history.specs.Text.{Text}
use Rattle.ccr_history.specs.Tables.{versions_of}
use Rattle.ccr_history.specs.Builds.{BuildData}
use Rattle.ccr_history.specs.History.{HistoryData}
use Rattle.ccr_pipeline.specs.Inputs.{InputData, inputs}
use Rattle.ccr_pipeline.specs.JobData.{ResourceData, JobData}
use Rattle.ccr_pipeline.specs.Names.{has_name}
use Rattle.ccr_pipeline.specs.Pipelines.{PipelineData}
use Rattle.ccr_pipeline.specs.Tree.{Tree, put, gathered}
use Rattle.ccr_problem.specs.ProblemOf.{scope_of}
use Rattle.ccr_lines.specs.Lines.{line, status_word}
use Rattle.ccr_lines.specs.Standing.{newest_build}

-- ---- names
-- a letter, a digit, a dash, a dot or an underscore, or a byte of a character beyond ASCII
abbrev pub is_plain : ℕ → Bool
is_plain b =
    (nat_le 97 b && nat_le b 122) || (nat_le 65 b && nat_le b 90) || (nat_le 48 b && nat_le b 57)
    || (nat_eq b 45 || nat_eq b 46 || nat_eq b 95) || nat_le 128 b

-- a byte of a name; one that Mermaid or HTML might read otherwise is written by its number, and drawn as it is
abbrev pub label_byte : ℕ → Text
label_byte b = if is_plain b then b ∷ [] else codes "#" ++ (decimal b ++ codes ";")

-- a name in a label
abbrev pub label : Text → Text
label name = flat_map label_byte name

-- ---- positions
-- the texts of the members of a list, each by its position; the first has this one
abbrev pub numbered : {X : Type 0} → (ℕ → X → Text) → ℕ → List X → Text
numbered text k [] = []
numbered text k (x ∷ xs) = text k x ++ numbered text (k + 1) xs

-- ---- nodes
-- a resource: its name, and how many versions its scope has
abbrev pub resource_node : HistoryData → ℕ → ResourceData → Text
resource_node h k r =
    line (codes "    r" ∷ decimal k ∷ codes "[(\"" ∷ label r.name ∷ codes "<br>"
    ∷ decimal (length (versions_of (scope_of r) h.tables)) ∷ codes " versions\")]" ∷ [])

-- a job at a position, with two words below its name, and with the class of its colours
unfoldable pub job_line : ℕ → Text → Text → Text → Text → Text
job_line k name first second class =
    line (codes "    j" ∷ decimal k ∷ codes "[\"" ∷ label name ∷ codes "<br>" ∷ first ∷ codes " " ∷ second
    ∷ codes "\"]:::" ∷ class ∷ [])

-- the same with its newest build, if it has one
abbrev pub state_line : ℕ → Text → Option BuildData → Text
state_line k name None = job_line k name (codes "no") (codes "builds") (codes "none")
state_line k name (Some b) = job_line k name (decimal b.number) (status_word b.status) (status_word b.status)

-- a job: its name, and its newest build
abbrev pub job_node : HistoryData → ℕ → JobData → Text
job_node h k j = state_line k j.name (newest_build j.name h)

-- ---- what a job takes
-- how an input is drawn: dotted, unless a new version makes a build
abbrev pub arrow : Bool → Text
arrow trigger = if trigger then codes " -->" else codes " -.->"

-- to a job, from a resource if the input is one of its versions
abbrev pub taken_edge : InputData → ℕ → ℕ → ResourceData → Text
taken_edge i k n r =
    if bytes_eq i.resource r.name then line (codes "    r" ∷ decimal n ∷ arrow i.trigger ∷ codes " j" ∷ decimal k ∷ [])
    else []

-- to a job, from a job of this name, which the version of the input has to have passed
abbrev pub passed_edge : InputData → ℕ → Text → ℕ → JobData → Text
passed_edge i k name n j =
    if bytes_eq name j.name
    then line (codes "    j" ∷ decimal n ∷ arrow i.trigger ∷ codes "|" ∷ label i.resource ∷ codes "| j" ∷ decimal k
    ∷ [])
    else []

-- to a job, from where the version of an input comes: the jobs that it has to have passed, or else the resource
abbrev pub input_edges : PipelineData → InputData → ℕ → List Text → Text
input_edges p i k [] = numbered (taken_edge i k) 0 p.resources
input_edges p i k (name ∷ names) = flat_map (λ passed. numbered (passed_edge i k passed) 0 p.jobs) (name ∷ names)

-- to a job, for each of its inputs
abbrev pub edges_to : PipelineData → ℕ → JobData → Text
edges_to p k j = flat_map (λ i. input_edges p i k i.passed) (inputs j.plan)

-- ---- what a job puts
-- the resource of a put
abbrev pub own_put : Tree → List Text
own_put (put p) = p.resource ∷ []
own_put _ = []

-- from a job, to a resource if a put of its plan means it
abbrev pub put_edge : Tree → ℕ → ℕ → ResourceData → Text
put_edge plan k n r =
    if has_name (gathered own_put plan) r.name then line (codes "    j" ∷ decimal k ∷ codes " --> r" ∷ decimal n ∷ [])
    else []

-- from a job, to each resource that it puts
abbrev pub edges_from : List ResourceData → ℕ → JobData → Text
edges_from rs k j = numbered (put_edge j.plan k) 0 rs

-- ---- colours
-- a class for each status, and one for jobs without builds; no two are equally bright
unfoldable pub class_lines : Text
class_lines =
    codes "    classDef succeeded fill:#d5f5d5,stroke:#2e8b2e,color:#000000\n"
    ++ codes "    classDef failed fill:#d86c6c,stroke:#8b1a1a,color:#000000\n"
    ++ codes "    classDef errored fill:#eaa95f,stroke:#9a5b00,color:#000000\n"
    ++ codes "    classDef aborted fill:#b09d8f,stroke:#5f4b3c,color:#000000\n"
    ++ codes "    classDef running fill:#f0d264,stroke:#8a6d00,color:#000000\n"
    ++ codes "    classDef none fill:#ffffff,stroke:#808080,color:#000000\n"

-- ---- the whole
-- THE GRAPH of a pipeline with a history
abbrev pub graph_lines : PipelineData → HistoryData → Text
graph_lines p h =
    line (codes "flowchart LR" ∷ [])
    ++ numbered (resource_node h) 0 p.resources
    ++ numbered (job_node h) 0 p.jobs
    ++ numbered (edges_to p) 0 p.jobs
    ++ numbered (edges_from p.resources) 0 p.jobs
    ++ class_lines
